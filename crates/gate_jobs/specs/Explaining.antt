-- WHAT IS TOLD if the words ask for no job, on two writers: help on the first, and what is wrong with the words on the second.
use Rattle.std.specs.Prelude.{◌≡◌, ◌⊎◌, ℕ, List, Option}
use Rattle.std.specs.Io.KnownBytes.{Appends}
use Rattle.std.specs.String.{string_bytes}
use Rattle.gate_jobs.specs.declared.fault.JobFault.TheVariants.{Hook}
use Rattle.gate_jobs.specs.declared.outcome.Ending.{Ending}
use Rattle.gate_jobs.specs.declared.outcome.Ending.TheVariants as ending
use Rattle.gate_words.specs.declared.words.WordsFault.{WordsFault}
use Rattle.gate_words.specs.declared.words.WordsFault.TheVariants.{Help, Usage, Memory}
use Rattle.gate_hook.specs.Sending.{IsCutOff}
use Rattle.gate_hook.specs.declared.fault.HookFault.TheVariants.{Gate, Write}
use Rattle.gate_queue.specs.declared.fault.Fault.TheVariants as gate

-- help is printed, or the writer refused it or the rest of it
abbrev pub Helps : List ℕ → Ending → Option (List ℕ) → Option (List ℕ) → Type 0
Helps text end before after =
    ((end ≡ ending.Done) × Appends before after text) ⊎ ((end ≡ ending.Fault (Hook Write)) × IsCutOff text before after)

abbrev pub Explains : WordsFault → Ending → Option (List ℕ) → Option (List ℕ) → Option (List ℕ) → Option (List ℕ) → Type 0
Explains (Help text) end out out' err err' = Helps (string_bytes text) end out out' × (err' ≡ err)
Explains (Usage text) end out out' err err' =
    (end ≡ ending.Usage) × (out' ≡ out) × (Appends err err' (string_bytes text) ⊎ IsCutOff (string_bytes text) err err')
Explains Memory end out out' err err' = (end ≡ ending.Fault (Hook (Gate gate.Memory))) × (out' ≡ out) × (err' ≡ err)
