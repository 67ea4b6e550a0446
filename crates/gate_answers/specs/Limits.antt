-- WHICH ANSWERS THERE ARE. A contract sees a change as a number, and a commit, a label and the name of a status as bytes.
-- These are the numbers and the bytes that their types hold.
use Rattle.std.specs.Prelude.{◌≡◌, ◌<◌, ◌^◌, ℕ, List, Some, Ok, ⊤}
use Rattle.std.specs.List.{All}
use Rattle.gate_text.specs.SmallTexts.{change_no_from, commit_of, plain_of}
use Rattle.gate_rules.specs.declared.rule.Rule.{Rule}
use Rattle.gate_rules.specs.declared.rule.Rule.TheVariants.{Blocked, TooFewReviews, BadSettings, HeadStatus}
use Rattle.gate_state.specs.declared.reply.Head.{Head}
use Rattle.gate_state.specs.declared.reply.Order.{Order}
use Rattle.gate_state.specs.declared.reply.Order.TheVariants.{Stage, Land, Notice}
use Rattle.gate_state.specs.declared.reply.Why.{Why}
use Rattle.gate_state.specs.declared.reply.Why.TheVariants.{Failed}
use Rattle.gate_state.specs.declared.reply.Reply.{Reply}
use Rattle.gate_state.specs.declared.reply.Reply.TheVariants.{Done, Denied}

-- from 1 to 4294967295
abbrev pub IsChange : ℕ → Type 0
IsChange number = change_no_from number ≡ Some number

-- a text that is read as a commit
abbrev pub IsCommit : List ℕ → Type 0
IsCommit text = commit_of text ≡ Ok text

-- a text that is read as a label, and as the name of a status
abbrev pub IsPlain : List ℕ → Type 0
IsPlain text = plain_of text ≡ Ok text

abbrev pub IsBatch : ℕ → Type 0
IsBatch number = number < 2 ^ 64

abbrev pub IsRule : Rule → Type 0
IsRule (Blocked label) = IsPlain label
IsRule (TooFewReviews have need) = (have < 2 ^ 32) × (need < 2 ^ 32)
IsRule (BadSettings refusal) = refusal < 2 ^ 8
IsRule (HeadStatus name) = IsPlain name
IsRule _ = ⊤

abbrev pub IsWhy : Why → Type 0
IsWhy (Failed name) = IsPlain name
IsWhy _ = ⊤

abbrev pub IsHead : Head → Type 0
IsHead staged = IsChange staged.change × IsCommit staged.head

abbrev pub IsOrder : Order → Type 0
IsOrder (Stage batch branch base heads) = IsBatch batch × IsCommit base × All IsHead heads
IsOrder (Land batch base commit) = IsBatch batch × IsCommit base × IsCommit commit
IsOrder (Notice change why) = IsChange change × IsWhy why

abbrev pub IsReply : Reply → Type 0
IsReply (Done orders) = All IsOrder orders
IsReply (Denied rule) = IsRule rule

abbrev pub IsAnswer : List Reply → Type 0
IsAnswer replies = All IsReply replies
