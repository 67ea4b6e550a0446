-- How deep an answer nests: six lists and objects at most, so its text is never too deep to be read.
use Rattle.std.proofs.Common.{◌≤◌, ℕ, List, [], ◌∷◌, map, arith}
use Rattle.serde_json.specs.Data.{Data, depth, items_depth}
use Rattle.serde_json.specs.Read.{max_depth}
use Rattle.serde_json.specs.View.{items_of}
use Rattle.gate_state.specs.declared.reply.Head.{Head}
use Rattle.gate_state.specs.declared.reply.Order.{Order}
use Rattle.gate_state.specs.declared.reply.Order.TheVariants.{Stage, Land, Notice}
use Rattle.gate_state.specs.declared.reply.Why.TheVariants.{Failed}
use Rattle.gate_state.specs.declared.reply.Reply.{Reply}
use Rattle.gate_state.specs.declared.reply.Reply.TheVariants.{Done, Denied}
use Rattle.gate_answers.specs.Answers.{head_data, order_data, reply_data, answer_data}
use Rattle.gate_rules.specs.declared.rule.Rule.TheVariants.{NotPermitted}

-- items, none of which nests deeper
each_within : {X : Type 0} (data_of : X → Data) (most : ℕ) → ((x : X) → depth (data_of x) ≤ most) → (xs : List X) → items_depth (items_of (map data_of xs)) ≤ most
each_within data_of most within [] = omega arith
each_within data_of most within (x ∷ xs) = omega (arith, within x, each_within data_of most within xs)

head_within : (staged : Head) → depth (head_data staged) ≤ 1
head_within staged = omega arith

order_within : (order : Order) → depth (order_data order) ≤ 3
order_within (Stage batch branch base heads) = omega (arith, each_within head_data 1 head_within heads)
order_within (Land batch base commit) = omega arith
order_within (Notice change (Failed name)) = omega arith
order_within (Notice change _) = omega arith

reply_within : (reply : Reply) → depth (reply_data reply) ≤ 5
reply_within (Done orders) = omega (arith, each_within order_data 3 order_within orders)
reply_within (Denied (NotPermitted level)) = omega arith
reply_within (Denied _) = omega arith

pub answer_within : (replies : List Reply) → depth (answer_data replies) ≤ max_depth
answer_within replies = omega (arith, each_within reply_data 5 reply_within replies)
