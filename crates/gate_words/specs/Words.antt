-- WHAT THE WORDS ASK FOR, in the terms of `clap`.
use Rattle.std.specs.Prelude.{◌≡◌, ◌≢◌, ◌⊎◌, ◌≤◌, ℕ, pos, List, [], Option, Some, None, String, Bool, true, false, ⊤, codes}
use Rattle.std.specs.Option.{option_map}
use Rattle.std.specs.String.{string_bytes}
use Rattle.std.specs.Str.Parse.{IsNumeral, digits_value, without_leading_plus}
use Rattle.clap.specs.Words.{App, Row, Rule, Text, fault_of, first_of, new_app, new_rule, one_of, subcommand_of, with_rule, with_subcommand, IsAmong}
use Rattle.clap.specs.declared.builder.action.ArgAction.TheVariants.{SetTrue}
use Rattle.clap.specs.declared.builder.value_parser.ValueParser.{ValueParser}
use Rattle.clap.specs.declared.builder.value_parser.ValueParser.TheVariants.{Signed}
use Rattle.clap.specs.declared.error.kind.ErrorKind.{ErrorKind}
use Rattle.clap.specs.declared.error.kind.ErrorKind.TheVariants.{DisplayHelp, DisplayVersion, OutOfMemory}
use Rattle.std.specs.declared.io.ErrorKind.{ErrorKind as IoKind}
use Rattle.std.specs.declared.io.ErrorKind.TheVariants.{OutOfMemory as NoMemory}
use Rattle.gate_words.specs.declared.words.Job.{Job}
use Rattle.gate_words.specs.declared.words.Job.TheVariants.{Run, Guard, Serve, Report}
use Rattle.gate_words.specs.declared.words.WordsFault.{WordsFault}
use Rattle.gate_words.specs.declared.words.WordsFault.TheVariants.{Help, Usage, Memory}

-- the limits of a port and of a count of connections
abbrev pub AreWithinLimits : ℕ → ℕ → Type 0
AreWithinLimits port count = (1 ≤ port) × (port ≤ 65535) × (1 ≤ count) × (count ≤ 1000000)

-- those of a patience, in seconds
abbrev pub IsPatient : ℕ → Type 0
IsPatient patience = (1 ≤ patience) × (patience ≤ 3600)

abbrev pub IsWithinLimits : Job → Type 0
IsWithinLimits (Run db) = ⊤
IsWithinLimits (Guard db) = ⊤
IsWithinLimits (Serve port count patience db token log until_input_ends) = AreWithinLimits port count × IsPatient patience
IsWithinLimits (Report file) = ⊤

-- THE COMMANDS: `run`, `guard`, `serve --port N --count N` and `report FILE`, of which the first three may have `--db FILE`, and the
-- third `--patience SECONDS`, `--token FILE`, `--log` and `--until-input-ends`. The program's name isn't among the words.
abbrev pub number_rule : Text → ValueParser → Rule
number_rule name limits = record (new_rule name) { long = Some name; value_names = 1; required = true; parser = Some limits }

abbrev pub file_rule : Rule
file_rule = record (new_rule (codes "FILE")) { required = true }

abbrev pub db_rule : Rule
db_rule = record (new_rule (codes "db")) { long = Some (codes "db"); value_names = 1 }

abbrev pub token_rule : Rule
token_rule = record (new_rule (codes "token")) { long = Some (codes "token"); value_names = 1 }

abbrev pub flag_rule : Text → Rule
flag_rule name = record (new_rule name) { long = Some name; action = Some SetTrue }

abbrev pub run_words : App
run_words = with_rule (new_app (codes "run")) db_rule

abbrev pub guard_words : App
guard_words = with_rule (new_app (codes "guard")) db_rule

abbrev pub numbered_words : App
numbered_words =
    with_rule (with_rule (new_app (codes "serve"))
    (number_rule (codes "port") (Signed (pos 1) (pos 65535))))
    (number_rule (codes "count") (Signed (pos 1) (pos 1000000)))

abbrev pub patience_rule : Rule
patience_rule =
    record (new_rule (codes "patience")) { long = Some (codes "patience"); value_names = 1; parser = Some (Signed (pos 1) (pos 3600)) }

abbrev pub guarded_words : App
guarded_words = with_rule (with_rule (with_rule numbered_words patience_rule) db_rule) token_rule

abbrev pub serve_words : App
serve_words = with_rule (with_rule guarded_words (flag_rule (codes "log"))) (flag_rule (codes "until-input-ends"))

abbrev pub report_words : App
report_words = with_rule (new_app (codes "report")) file_rule

abbrev pub bare_words : App
bare_words = record { top = record (new_app (codes "gate")).top { no_binary_name = true }; subs = [] }

abbrev pub gate_words : App
gate_words =
    with_subcommand (with_subcommand (with_subcommand (with_subcommand bare_words
    run_words.top) guard_words.top) serve_words.top) report_words.top

-- THE JOB that a command asks for, by the values of its options
abbrev pub IsNumber : ℕ → Option Text → Type 0
IsNumber n None = ⊥
IsNumber n (Some text) = IsNumeral 10 (without_leading_plus text) × (n ≡ digits_value 10 (without_leading_plus text))

abbrev pub AreNumbersIn : ℕ → ℕ → List Row → Type 0
AreNumbersIn port count rows = IsNumber port (one_of (codes "port") rows) × IsNumber count (one_of (codes "count") rows)

-- the patience that `--patience` gives, or half a minute if it isn't there
abbrev pub IsPatience : ℕ → Option Text → Type 0
IsPatience n None = n ≡ 30
IsPatience n (Some text) = IsNumber n (Some text)

abbrev pub IsPatienceIn : ℕ → List Row → Type 0
IsPatienceIn patience rows = IsPatience patience (one_of (codes "patience") rows)

-- the file that an option names, or none if the option isn't there
abbrev pub IsFileOf : {A : Type 0} → Text → Option (String A) → List Row → Type 0
IsFileOf {A} option file rows = first_of option rows ≡ option_map string_bytes file

-- whether an option is there; of one that takes no value, `clap` tells `true` or `false`
abbrev pub IsFlag : Bool → Option Text → Type 0
IsFlag flag None = flag ≡ false
IsFlag flag (Some text) = (text ≡ codes "true" → flag ≡ true) × (text ≡ codes "false" → flag ≡ false)

abbrev pub IsFlagIn : Text → Bool → List Row → Type 0
IsFlagIn name flag rows = IsFlag flag (one_of name rows)

abbrev pub IsRunIn : Job → List Row → Type 0
IsRunIn (Run db) rows = IsFileOf (codes "db") db rows
IsRunIn (Guard db) rows = ⊥
IsRunIn (Serve port count patience db token log until_input_ends) rows = ⊥
IsRunIn (Report file) rows = ⊥

abbrev pub IsGuardIn : Job → List Row → Type 0
IsGuardIn (Run db) rows = ⊥
IsGuardIn (Guard db) rows = IsFileOf (codes "db") db rows
IsGuardIn (Serve port count patience db token log until_input_ends) rows = ⊥
IsGuardIn (Report file) rows = ⊥

abbrev pub IsServeIn : Job → List Row → Type 0
IsServeIn (Run db) rows = ⊥
IsServeIn (Guard db) rows = ⊥
IsServeIn (Serve port count patience db token log until_input_ends) rows =
    AreNumbersIn port count rows × IsPatienceIn patience rows × IsFileOf (codes "db") db rows × IsFileOf (codes "token") token rows
    × IsFlagIn (codes "log") log rows × IsFlagIn (codes "until-input-ends") until_input_ends rows
IsServeIn (Report file) rows = ⊥

abbrev pub IsFileIn : Job → List Row → Type 0
IsFileIn (Run db) rows = ⊥
IsFileIn (Guard db) rows = ⊥
IsFileIn (Serve port count patience db token log until_input_ends) rows = ⊥
IsFileIn (Report file) rows = first_of (codes "FILE") rows ≡ Some (string_bytes file)

-- no command is the command `run` without its option
abbrev pub IsJobIn : Job → Option (Text × List Row) → Type 0
IsJobIn (Run db) command =
    ((command ≡ None) × (db ≡ None)) ⊎ ((rows : List Row) × (command ≡ Some (codes "run", rows)) × IsRunIn (Run db) rows)
IsJobIn (Guard db) command = (rows : List Row) × (command ≡ Some (codes "guard", rows)) × IsGuardIn (Guard db) rows
IsJobIn (Serve port count patience db token log until_input_ends) command =
    (rows : List Row) × (command ≡ Some (codes "serve", rows)) × IsServeIn (Serve port count patience db token log until_input_ends) rows
IsJobIn (Report file) command = (rows : List Row) × (command ≡ Some (codes "report", rows)) × IsFileIn (Report file) rows

-- If there is no job, none within the limits is asked for.
abbrev pub LacksJob : Option Job → (Job → Type 0) → Type 0
LacksJob (Some found) is = ⊤
LacksJob None is = (job : Job) → IsWithinLimits job → is job → ⊥

-- If there are no numbers, no port and count within the limits stand there.
abbrev pub LacksNumbers : Option (ℕ × ℕ) → List Row → Type 0
LacksNumbers (Some numbers) rows = ⊤
LacksNumbers None rows = (port count : ℕ) → AreNumbersIn port count rows → AreWithinLimits port count → ⊥

-- If there is no patience, none within the limits stands there, and it isn't left out.
abbrev pub LacksPatience : Option ℕ → List Row → Type 0
LacksPatience (Some found) rows = ⊤
LacksPatience None rows = (patience : ℕ) → IsPatienceIn patience rows → IsPatient patience → ⊥

-- the words ask for this job, and have no mistake
abbrev pub IsAskedFor : Job → List Text → Type 0
IsAskedFor job words = IsJobIn job (subcommand_of gate_words words) × (fault_of gate_words words ≡ [])

-- Help and the version are told on standard output; the command has no version.
abbrev pub AsksForHelp : ErrorKind → Type 0
AsksForHelp kind = (kind ≡ DisplayHelp) ⊎ (kind ≡ DisplayVersion)

-- a kind of error that is a mistake in the words
abbrev pub IsMistake : ErrorKind → Type 0
IsMistake kind = (kind ≢ DisplayHelp) × (kind ≢ DisplayVersion) × (kind ≢ OutOfMemory)

-- what is told of an error of `clap`: for want of memory its text may be lost, whatever the error
abbrev pub IsToldBy : WordsFault → ErrorKind → Type 0
IsToldBy (Help text) kind = AsksForHelp kind
IsToldBy (Usage text) kind = IsMistake kind
IsToldBy Memory kind = ⊤

-- what is told of words in which `clap` finds no mistake, and which ask for no job
abbrev pub no_job : List ℕ
no_job = codes "error: these words ask for nothing that gate does\n"

-- Help is told only if the words ask for it. That they are wrong is told only if they have a mistake, or ask for no job within the limits.
abbrev pub IsRefusedBy : WordsFault → List Text → Type 0
IsRefusedBy (Help text) words = (kind : ErrorKind) × AsksForHelp kind × IsAmong kind (fault_of gate_words words)
IsRefusedBy (Usage text) words =
    ((kind : ErrorKind) × IsMistake kind × IsAmong kind (fault_of gate_words words))
    ⊎ ((string_bytes text ≡ no_job) × LacksJob None (λ job. IsJobIn job (subcommand_of gate_words words)))
IsRefusedBy Memory words = ⊤

-- Words of which one is no text are wrong, and told so.
abbrev pub not_text : List ℕ
not_text = codes "error: a word isn't UTF-8\n"

-- why words couldn't be had, by the kind of the error: if memory was refused, that is told
abbrev pub IsWithoutWords : WordsFault → IoKind → Type 0
IsWithoutWords (Help text) kind = ⊥
IsWithoutWords (Usage text) kind = (kind ≢ NoMemory) × (string_bytes text ≡ not_text)
IsWithoutWords Memory kind = ⊤

-- a text of our own, or no memory for it
abbrev pub IsToldAs : List ℕ → WordsFault → Type 0
IsToldAs due (Help text) = ⊥
IsToldAs due (Usage text) = string_bytes text ≡ due
IsToldAs due Memory = ⊤
