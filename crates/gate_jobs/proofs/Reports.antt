-- What serving the lines, making the text and printing it leave of a report.
use Rattle.std.proofs.Common.{◌≡◌, ◌<◌, ℕ, List, Option, Result, Ok, Err, inl, inr, OnOk, IfErr, length, refl, sym, subst, arith}
use Rattle.std.proofs.KnownBytes.{Appends-nil}
use Rattle.std.specs.Io.KnownBytes.{Appends}
use Rattle.gate_jobs.specs.Report.{IsReported, MayMiss, report_of}
use Rattle.gate_hook.specs.Lines.{IsServed, IsWithinLimit, NoLineMeetsFull, after_lines, lines_of}
use Rattle.gate_hook.specs.Sending.{IsCutOff}
use Rattle.gate_hook.specs.declared.fault.HookFault.{HookFault}
use Rattle.gate_hook.specs.declared.fault.HookFault.TheVariants.{Gate, Read, Write, TooMuch}
use Rattle.gate_queue.specs.declared.fault.Fault.{Fault}
use Rattle.gate_queue.specs.declared.fault.Fault.TheVariants.{Memory, Store, Full, Foreign}
use Rattle.gate_state.specs.declared.state.State.{State}
use Rattle.gate_report.specs.Queue.{head_of, queue_text_of}
use Rattle.gate_store.specs.Run.{IsOfBooks, Records}

full_is_not_memory : Full ≡ Memory → ⊥
full_is_not_memory e = grind arith

foreign_is_not_memory : Foreign ≡ Memory → ⊥
foreign_is_not_memory e = grind arith

-- serving the lines stopped
pub served_misses : (old : Records) (fault : HookFault) (input : List ℕ) (left : Option (List ℕ)) (new : Records) (before after : Option (List ℕ))
    → IsWithinLimit (Err fault) input → IsServed (Err fault) old input left new before after → MayMiss old fault input left
served_misses old (Gate Memory) input left new before after within served = tt
served_misses old (Gate Store) input left new before after within served = tt
served_misses old (Gate Full) input left new before after within served = (
  served.told.served,
  served.told.line,
  served.told.complete,
  elim served.records [
    | inl kept ↦ kept.1
    | inr acted ↦ absurd (full_is_not_memory acted.0)
  ],
)
served_misses old (Gate Foreign) input left new before after within served = elim served.records [
  | inl kept ↦ absurd kept.1
  | inr acted ↦ absurd (foreign_is_not_memory acted.0)
]
served_misses old Read input left new before after within served = tt
served_misses old Write input left new before after within served = tt
served_misses old TooMuch input left new before after within served = omega (arith, within)

-- the gate or its text couldn't be had
pub gate_misses : (old : Records) (fault : Fault) (input : List ℕ) (left : Option (List ℕ)) → IsOfBooks fault → MayMiss old (Gate fault) input left
gate_misses old Memory input left cause = tt
gate_misses old Store input left cause = tt
gate_misses old Full input left (inl e) = absurd (full_is_not_memory e)
gate_misses old Full input left (inr e) = absurd (grind (arith, e))
gate_misses old Foreign input left (inl e) = absurd (foreign_is_not_memory e)
gate_misses old Foreign input left (inr e) = absurd (grind (arith, e))

some_text : (state : State) → 0 < length (queue_text_of state)
unfolding head_of
some_text state = omega arith

-- no text is made, and nothing is printed
pub nothing_told : (old : Records) (fault : HookFault) (input : List ℕ) (left printed : Option (List ℕ)) → MayMiss old fault input left → IsReported old (Err fault) input left printed printed
nothing_told old (Gate fault) input left printed cause = (cause, refl)
nothing_told old Read input left printed cause = refl
nothing_told old Write input left printed cause = (0, some_text (after_lines old (lines_of input)).state, Appends-nil printed)
nothing_told old TooMuch input left printed cause = (cause, refl)

-- the text is printed
pub text_told : (old : Records) (result : Result (Unit {0}) HookFault) (text input : List ℕ) (left before after : Option (List ℕ)) → text ≡ report_of old input
    → NoLineMeetsFull old (lines_of input)
    → OnOk result (Appends before after text) → IfErr result (λ fault. (fault ≡ Write) × IsCutOff text before after)
    → IsReported old result input left before after
text_told old (Ok done) text input left before after same room ok err = (subst (Appends before after) same ok, room)
text_told old (Err fault) text input left before after same room ok err =
    subst (λ (f : HookFault). IsReported old (Err f) input left before after) (sym err.0) (subst (λ (t : List ℕ). IsCutOff t before after) same err.1)

-- what holds however a call ended
pub ok_if : (result : Result (Unit {0}) HookFault) (P : Type 0) → P → OnOk result P
ok_if (Ok done) P holds = holds
ok_if (Err fault) P holds = tt
