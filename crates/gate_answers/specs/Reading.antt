-- THE ANSWER OF A TEXT. If a text is written for an answer, it is that answer; of another text it means nothing. So each part is
-- looked up under its name; if it isn't there, or isn't one that its type holds, another one that is stands in its place.
use Rattle.std.specs.Prelude.{◌≡◌, ◌^◌, ℕ, nat_lt, List, [], ◌∷◌, Option, Some, option_and_then, codes, if◌then◌else◌}
use Rattle.std.specs.List.{find}
use Rattle.std.specs.Option.{unwrap_or}
use Rattle.std.specs.Result.{result_ok}
use Rattle.std.specs.Str.{bytes_eq}
use Rattle.serde_json.specs.Data.{Data, Items, no_items, item}
use Rattle.serde_json.specs.Find.{get, at, as_str, as_u64, as_number, as_array}
use Rattle.serde_json.specs.Read.{read}
use Rattle.gate_text.specs.SmallTexts.{change_no_from, commit_of, plain_of}
use Rattle.gate_rules.specs.Words.{word_of, level_called, rule_called}
use Rattle.gate_rules.specs.declared.role.Level.TheVariants.{Anyone}
use Rattle.gate_rules.specs.declared.rule.Rule.{Rule}
use Rattle.gate_rules.specs.declared.rule.Rule.TheVariants.{NotPermitted, Blocked, TooFewReviews, BadSettings, HeadStatus, UnknownChange}
use Rattle.gate_state.specs.Words.{branch_called, why_called}
use Rattle.gate_state.specs.declared.batch.Branch.TheVariants.{Staging}
use Rattle.gate_state.specs.declared.reply.Head.{Head}
use Rattle.gate_state.specs.declared.reply.Order.{Order}
use Rattle.gate_state.specs.declared.reply.Order.TheVariants.{Stage, Land, Notice}
use Rattle.gate_state.specs.declared.reply.Why.{Why}
use Rattle.gate_state.specs.declared.reply.Why.TheVariants.{Failed}
use Rattle.gate_state.specs.declared.reply.Reply.{Reply}
use Rattle.gate_state.specs.declared.reply.Reply.TheVariants.{Done, Denied}
use Rattle.gate_answers.specs.Answers.{answer_data}
use Rattle.gate_answers.specs.Limits.{IsAnswer}

abbrev text_of : Option Data → List ℕ
text_of there = unwrap_or (option_and_then as_str there) []

abbrev number_of : Option Data → ℕ
number_of there = unwrap_or (option_and_then as_u64 (option_and_then as_number there)) 0

-- the number, if it is less than the limit
abbrev pub below : ℕ → ℕ → ℕ
below limit number = if nat_lt number limit then number else 0

abbrev change_in : Option Data → ℕ
change_in there = unwrap_or (change_no_from (number_of there)) 1

abbrev commit_in : Option Data → List ℕ
commit_in there = unwrap_or (result_ok (commit_of (text_of there))) (codes "0000000000000000000000000000000000000000")

-- a label, or the name of a status
abbrev plain_in : Option Data → List ℕ
plain_in there = unwrap_or (result_ok (plain_of (text_of there))) (codes "-")

abbrev pub each : {X : Type 0} → (Data → X) → Items → List X
each one_of no_items = []
each one_of (item d ds) = one_of d ∷ each one_of ds

abbrev each_of : {X : Type 0} → (Data → X) → Option Data → List X
each_of one_of there = each one_of (unwrap_or (option_and_then as_array there) no_items)

-- the rules that tell more than their number and name, if they tell this
abbrev pub rules_telling : Option Data → List Rule
rules_telling detail =
    NotPermitted (unwrap_or (level_called (text_of detail)) Anyone)
    ∷ Blocked (plain_in detail)
    ∷ TooFewReviews (count_in 0) (count_in 1)
    ∷ BadSettings (below (2 ^ 8) (number_of detail))
    ∷ HeadStatus (plain_in detail)
    ∷ [] where
      count_in : ℕ → ℕ
      count_in place = below (2 ^ 32) (number_of (option_and_then (at place) detail))

-- the rule of this name that tells this
abbrev pub rule_of : List ℕ → Option Data → Rule
rule_of word detail = unwrap_or (find (λ rule. bytes_eq word (word_of rule)) (rules_telling detail)) (unwrap_or (rule_called word) UnknownChange)

abbrev pub head_of : Data → Head
head_of pair = record { change = change_in (at 0 pair); head = commit_in (at 1 pair) }

-- the reason of this name; only one that has failed names a status
abbrev pub why_of : List ℕ → Option Data → Why
why_of word name = unwrap_or (why_called word) (Failed (plain_in name))

abbrev pub stage_of : Data → Order
stage_of d =
    Stage
    (number_of (get (codes "batch") d))
    (unwrap_or (branch_called (text_of (get (codes "branch") d))) Staging)
    (commit_in (get (codes "base") d))
    (each_of head_of (get (codes "heads") d))

abbrev pub land_of : Data → Order
land_of d = Land (number_of (get (codes "batch") d)) (commit_in (get (codes "base") d)) (commit_in (get (codes "commit") d))

abbrev pub notice_of : Data → Order
notice_of d = Notice (change_in (get (codes "change") d)) (why_of (text_of (get (codes "why") d)) (get (codes "name") d))

abbrev pub order_called : List ℕ → Data → Order
order_called word d =
    if bytes_eq word (codes "stage") then stage_of d
    else (if bytes_eq word (codes "land") then land_of d
    else notice_of d)

abbrev pub order_of : Data → Order
order_of d = order_called (text_of (get (codes "order") d)) d

abbrev pub reply_of : Data → Reply
reply_of d =
    if bytes_eq (text_of (get (codes "verdict") d)) (codes "done") then Done (each_of order_of (get (codes "orders") d))
    else Denied (rule_of (text_of (get (codes "rule") d)) (get (codes "detail") d))

abbrev pub answer_in : Option Data → List Reply
answer_in value = each_of reply_of value

abbrev pub answer_of : List ℕ → List Reply
answer_of text = answer_in (read text)

-- A text whose value is written for an answer is that answer.
abbrev pub LawOfTexts : Type 0
LawOfTexts = (text : List ℕ) (answer : List Reply) → IsAnswer answer → read text ≡ Some (answer_data answer) → answer_of text ≡ answer
