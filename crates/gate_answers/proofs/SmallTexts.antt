-- A small text that was read is read again as itself.
use Rattle.std.proofs.Common.{◌≡◌, ℕ, List, Option, None, Some, Result, Ok, Err, ◌∙◌, ap}
use Rattle.std.specs.Result.{IfOk}
use Rattle.gate_text.specs.SmallTexts.{Reads, unless_refused, commit_of, plain_of}
use Rattle.gate_text.specs.declared.fault.TextFault.{TextFault}
use Rattle.gate_text.specs.declared.fault.TextFault.TheVariants.{Empty, TooLong, BadByte, BadNumber, Memory}
use Rattle.gate_answers.specs.Found.{small}
use Rattle.gate_answers.specs.Limits.{IsCommit, IsPlain}

same : (refusal : Option TextFault) (text value : List ℕ) → unless_refused refusal (Ok text) ≡ Ok value → value ≡ text
same None text value is = cc is
same (Some fault) text value is = cc is

-- what is read by a check of the whole text
kept : (of : List ℕ → Result (List ℕ) TextFault) → ((text value : List ℕ) → of text ≡ Ok value → value ≡ text)
    → (text : List ℕ) (read : Result (List ℕ) TextFault) → Reads read (of text) → IfOk (small read) (λ value. of value ≡ Ok value)
kept of whole text (Ok value) is = let e : value ≡ text = whole text value is in rw e (is ∙ ap Ok e)
kept of whole text (Err Empty) is = tt
kept of whole text (Err TooLong) is = tt
kept of whole text (Err (BadByte place)) is = tt
kept of whole text (Err BadNumber) is = tt
kept of whole text (Err Memory) is = tt

pub commit_kept : (text : List ℕ) (read : Result (List ℕ) TextFault) → Reads read (commit_of text) → IfOk (small read) IsCommit
unfolding commit_of
commit_kept text read is = kept commit_of (λ t value. same _ t value) text read is

pub plain_kept : (text : List ℕ) (read : Result (List ℕ) TextFault) → Reads read (plain_of text) → IfOk (small read) IsPlain
unfolding plain_of
plain_kept text read is = kept plain_of (λ t value. same _ t value) text read is
