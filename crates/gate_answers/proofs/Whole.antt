-- Nothing that is written holds a float, so its text is compact.
use Rattle.std.proofs.Common.{◌≡◌, false, List, [], ◌∷◌, map, refl}
use Rattle.serde_json.specs.View.{items_of}
use Rattle.serde_json.specs.Written.{has_float, items_have_float}
use Rattle.gate_rules.specs.declared.rule.Rule.TheVariants.{NotPermitted}
use Rattle.gate_state.specs.declared.reply.Head.{Head}
use Rattle.gate_state.specs.declared.reply.Order.{Order}
use Rattle.gate_state.specs.declared.reply.Order.TheVariants.{Stage, Land, Notice}
use Rattle.gate_state.specs.declared.reply.Why.TheVariants.{Failed}
use Rattle.gate_state.specs.declared.reply.Reply.{Reply}
use Rattle.gate_state.specs.declared.reply.Reply.TheVariants.{Done, Denied}
use Rattle.gate_answers.specs.Answers.{head_data, order_data, reply_data, answer_data}

heads_whole : (heads : List Head) → items_have_float (items_of (map head_data heads)) ≡ false
heads_whole [] = refl
heads_whole (staged ∷ heads) = heads_whole heads

orders_whole : (orders : List Order) → items_have_float (items_of (map order_data orders)) ≡ false
orders_whole [] = refl
orders_whole (Stage batch branch base heads ∷ orders) = rw (heads_whole heads) (orders_whole orders)
orders_whole (Land batch base commit ∷ orders) = orders_whole orders
orders_whole (Notice change (Failed name) ∷ orders) = orders_whole orders
orders_whole (Notice change _ ∷ orders) = orders_whole orders

reply_whole : (reply : Reply) → has_float (reply_data reply) ≡ false
reply_whole (Done orders) = rw (orders_whole orders) refl
reply_whole (Denied (NotPermitted level)) = refl
reply_whole (Denied _) = refl

replies_whole : (replies : List Reply) → items_have_float (items_of (map reply_data replies)) ≡ false
replies_whole [] = refl
replies_whole (reply ∷ replies) = rw (reply_whole reply) (replies_whole replies)

pub answer_whole : (replies : List Reply) → has_float (answer_data replies) ≡ false
answer_whole replies = replies_whole replies
