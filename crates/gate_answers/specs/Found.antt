-- WHAT IS FOUND IN A VALUE, for private clauses: if it is written for something, that is found.
use Rattle.std.specs.Prelude.{◌≡◌, ℕ, List, map, Option, Result, Ok, Err, MatchResult}
use Rattle.std.specs.Borrow.{Bor}
use Rattle.std.specs.Option.{option_map}
use Rattle.serde_json.specs.Data.{Data}
use Rattle.serde_json.specs.View.{view}
use Rattle.serde_json.specs.declared.value.Value.{Value}
use Rattle.gate_text.specs.declared.fault.TextFault.{TextFault}
use Rattle.gate_text.specs.declared.fault.TextFault.TheVariants as text_fault
use Rattle.gate_answers.specs.declared.reading.AnswerFault.{AnswerFault}
use Rattle.gate_answers.specs.declared.reading.AnswerFault.TheVariants.{NotAnswer, Memory}

-- this is found, unless memory is wanting
abbrev pub Finds : {X : Type 0} → Result X AnswerFault → X → Type 0
Finds result x = MatchResult result (λ found. found ≡ x) (λ fault. fault ≡ Memory)

abbrev pub FindsText : Result (Bor (List ℕ)) AnswerFault → List ℕ → Type 0
FindsText result text = MatchResult result (λ found. found.now ≡ text) (λ fault. fault ≡ Memory)

-- values are found that are written for these items
abbrev pub FindsItems : Result (Bor (List Value)) AnswerFault → List Data → Type 0
FindsItems result items = MatchResult result (λ values. map view values.now ≡ items) (λ fault. fault ≡ Memory)

-- a value that is there or isn't, as clauses see it
abbrev pub seen : Option (Bor Value) → Option Data
seen value = option_map (λ there. view there.now) value

-- what a small text gives
abbrev pub small : {X : Type 0} → Result X TextFault → Result X AnswerFault
small (Ok value) = Ok value
small (Err text_fault.Memory) = Err Memory
small (Err _) = Err NotAnswer
