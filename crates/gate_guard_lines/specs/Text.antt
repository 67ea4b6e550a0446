-- HOW DUTIES ARE WRITTEN, as JSON (RFC 8259) without spaces.
use Rattle.std.specs.Prelude.{ℕ, List, ◌++◌, Option, Some, None, codes, decimal}
use Rattle.gate_answers.specs.Answers.{answer_text_of}
use Rattle.gate_guard.specs.declared.duty.Duties.{Duties}
use Rattle.gate_guard.specs.declared.duty.Duty.{Duty}
use Rattle.gate_guard.specs.declared.duty.Duty.TheVariants.{Merge, Test, Land}
use Rattle.gate_state.specs.declared.reply.Reply.{Reply}

abbrev pub duty_text_of : Duty → List ℕ
duty_text_of (Merge batch) = codes "{\"do\":\"merge\",\"batch\":" ++ (decimal batch ++ codes "}")
duty_text_of (Test batch commit) = codes "{\"do\":\"test\",\"batch\":" ++ (decimal batch ++ (codes ",\"commit\":\"" ++ (commit ++ codes "\"}")))
duty_text_of (Land batch base commit) =
    codes "{\"do\":\"land\",\"batch\":" ++ (decimal batch ++ (codes ",\"base\":\"" ++ (base ++ (codes "\",\"commit\":\"" ++ (commit ++ codes "\"}")))))

abbrev pub branch_text_of : Option Duty → List ℕ
branch_text_of None = codes "null"
branch_text_of (Some duty) = duty_text_of duty

-- an answer, given its text, and what is to be done on each branch
abbrev pub told_text : List ℕ → Duties → List ℕ
told_text answer duties =
    codes "{\"answer\":" ++ (answer ++ (codes ",\"staging\":" ++ (branch_text_of duties.staging ++ (codes ",\"trying\":" ++ (branch_text_of duties.trying ++ codes "}")))))

abbrev pub told_text_of : List Reply → Duties → List ℕ
told_text_of answer duties = told_text (answer_text_of answer) duties
