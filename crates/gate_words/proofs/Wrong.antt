-- What is told of words that are wrong.
use Rattle.std.proofs.Common.{◌≡◌, ◌⊎◌, inl, inr, List, Some, None, codes, sym, ◌∙◌, arith}
use Rattle.clap.specs.Words.{IsAmong, Row, Text, fault_of, first_of}
use Rattle.clap.specs.declared.error.kind.ErrorKind.{ErrorKind}
use Rattle.clap.specs.declared.error.kind.ErrorKind.TheVariants.{OutOfMemory}
use Rattle.gate_words.specs.Words.{AsksForHelp, IsFileIn, IsRefusedBy, IsServeIn, IsToldBy, IsWithinLimits, LacksNumbers, LacksPatience, gate_words}
use Rattle.gate_words.specs.declared.words.Job.{Job}
use Rattle.gate_words.specs.declared.words.Job.TheVariants.{Run, Guard, Serve, Report}
use Rattle.gate_words.specs.declared.words.WordsFault.{WordsFault}
use Rattle.gate_words.specs.declared.words.WordsFault.TheVariants.{Help, Usage, Memory}

no-help : (kind : ErrorKind) → AsksForHelp kind → kind ≡ OutOfMemory → ⊥
no-help kind (inl help) memory = grind arith
no-help kind (inr version) memory = grind arith

-- memory ran out, or `clap` finds what it tells
pub refused-by : (fault : WordsFault) (kind : ErrorKind) (words : List Text) → IsToldBy fault kind
    → (kind ≡ OutOfMemory) ⊎ IsAmong kind (fault_of gate_words words) → IsRefusedBy fault words
refused-by (Help text) kind words asks (inl memory) = absurd (no-help kind asks memory)
refused-by (Help text) kind words asks (inr among) = (kind, asks, among)
refused-by (Usage text) kind words is (inl memory) = absurd (is.2 memory)
refused-by (Usage text) kind words is (inr among) = inl (kind, is, among)
refused-by Memory kind words told has = tt

no_file : {text : Text} → Some text ≡ None → ⊥
no_file same = grind arith

-- no file stands there
pub none_in : (rows : List Row) → first_of (codes "FILE") rows ≡ None → (job : Job) → IsWithinLimits job → IsFileIn job rows → ⊥
none_in rows none (Run db) limits never = absurd never
none_in rows none (Guard db) limits never = absurd never
none_in rows none (Serve port count patience db token log until_input_ends) limits never = absurd never
none_in rows none (Report file) limits some = absurd (no_file (sym some ∙ none))

-- no port and count within the limits stand there
pub no_serve : (rows : List Row) → LacksNumbers None rows → (job : Job) → IsWithinLimits job → IsServeIn job rows → ⊥
no_serve rows none (Run db) limits never = absurd never
no_serve rows none (Guard db) limits never = absurd never
no_serve rows none (Serve port count patience db token log until_input_ends) limits serves = none port count serves.0 limits.0
no_serve rows none (Report file) limits never = absurd never

-- no patience within the limits stands there
pub no_patience : (rows : List Row) → LacksPatience None rows → (job : Job) → IsWithinLimits job → IsServeIn job rows → ⊥
no_patience rows none (Run db) limits never = absurd never
no_patience rows none (Guard db) limits never = absurd never
no_patience rows none (Serve port count patience db token log until_input_ends) limits serves = none patience serves.1 limits.1
no_patience rows none (Report file) limits never = absurd never
