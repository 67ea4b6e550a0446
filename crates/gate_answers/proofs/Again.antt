-- What is written for an answer is that answer.
use Rattle.std.proofs.Common.{◌≡◌, ◌<◌, ◌^◌, ℕ, List, [], ◌∷◌, map, Option, None, Some, refl, sym, ◌∙◌, ap, arith, codes}
use Rattle.std.specs.List.{All}
use Rattle.std.proofs.lemmas.List.Elements.{All-head, All-tail}
use Rattle.serde_json.specs.Data.{Data, object}
use Rattle.serde_json.specs.View.{items_of}
use Rattle.gate_rules.specs.Words.{word_of, level_word_of, level_called}
use Rattle.gate_rules.specs.declared.role.Level.{Level}
use Rattle.gate_rules.specs.declared.role.Level.TheVariants.{Anyone, Member, MemberOrDelegate, ReviewerOrDelegate, Reviewer}
use Rattle.gate_rules.specs.declared.rule.Rule.{Rule}
use Rattle.gate_rules.specs.declared.rule.Rule.TheVariants.{NotPermitted, Blocked, TooFewReviews, BadSettings, HeadStatus}
use Rattle.gate_state.specs.declared.batch.Branch.TheVariants.{Staging, Trying}
use Rattle.gate_state.specs.declared.reply.Head.{Head}
use Rattle.gate_state.specs.declared.reply.Order.{Order}
use Rattle.gate_state.specs.declared.reply.Order.TheVariants.{Stage, Land, Notice}
use Rattle.gate_state.specs.declared.reply.Why.TheVariants.{Failed}
use Rattle.gate_state.specs.declared.reply.Reply.{Reply}
use Rattle.gate_state.specs.declared.reply.Reply.TheVariants.{Done, Denied}
use Rattle.gate_answers.specs.Answers.{denied_members, detail_of, with_told, head_data, order_data, reply_data}
use Rattle.gate_answers.specs.Limits.{IsRule, IsHead, IsOrder, IsReply}
use Rattle.gate_answers.specs.Reading.{LawOfTexts, below, each, rule_of, head_of, order_of, reply_of, answer_in}

each_again : {X : Type 0} (one_of : Data → X) (data_of : X → Data) (Is : X → Type 0) → ((x : X) → Is x → one_of (data_of x) ≡ x)
    → (xs : List X) → All Is xs → each one_of (items_of (map data_of xs)) ≡ xs
each_again one_of data_of Is again [] all = refl
each_again one_of data_of Is again (x ∷ xs) all =
    rw (again x (All-head Is x xs all), each_again one_of data_of Is again xs (All-tail Is x xs all)) refl

is_below : (limit number : ℕ) → number < limit → below limit number ≡ number
is_below limit number less = grind (arith, less)

level_again : (level : Level) → level_called (level_word_of level) ≡ Some level
level_again Anyone = refl
level_again Member = refl
level_again MemberOrDelegate = refl
level_again ReviewerOrDelegate = refl
level_again Reviewer = refl

rule_again : (rule : Rule) → IsRule rule → rule_of (word_of rule) (detail_of rule) ≡ rule
rule_again (NotPermitted level) is = rw (level_again level) refl
rule_again (Blocked label) is = rw is refl
rule_again (TooFewReviews have need) is = rw (is_below (2 ^ 32) have is.0, is_below (2 ^ 32) need is.1) refl
rule_again (BadSettings refusal) is = rw (is_below (2 ^ 8) refusal is) refl
rule_again (HeadStatus name) is = rw is refl
rule_again _ is = refl

head_again : (staged : Head) → IsHead staged → head_of (head_data staged) ≡ staged
head_again staged is = rw (is.0, is.1) refl

order_again : (order : Order) → IsOrder order → order_of (order_data order) ≡ order
order_again (Stage batch Staging base heads) is = rw (is.1, each_again head_of head_data IsHead head_again heads is.2) refl
order_again (Stage batch Trying base heads) is = rw (is.1, each_again head_of head_data IsHead head_again heads is.2) refl
order_again (Land batch base commit) is = rw (is.1, is.2) refl
order_again (Notice change (Failed name)) is = rw (is.0, is.1) refl
order_again (Notice change _) is = rw is.0 refl

denied_again : (rule : Rule) → IsRule rule → (detail : Option Data) → detail_of rule ≡ detail → reply_of (object (with_told (codes "detail") detail (denied_members rule))) ≡ Denied rule
denied_again rule good None is = ap Denied (ap (rule_of (word_of rule)) (sym is) ∙ rule_again rule good)
denied_again rule good (Some told) is = ap Denied (ap (rule_of (word_of rule)) (sym is) ∙ rule_again rule good)

reply_again : (reply : Reply) → IsReply reply → reply_of (reply_data reply) ≡ reply
reply_again (Done orders) is = rw (each_again order_of order_data IsOrder order_again orders is) refl
reply_again (Denied rule) is = denied_again rule is (detail_of rule) refl

-- so a text whose value is written for an answer is read as that answer
pub texts_law : LawOfTexts
texts_law text answer good is = ap answer_in is ∙ each_again reply_of reply_data IsReply reply_again answer good
