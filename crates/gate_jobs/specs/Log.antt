-- THE LOG: a line for each request that was served.
use Rattle.std.specs.Prelude.{◌≡◌, ◌⊎◌, ℕ, ◌/◌, ◌%◌, List, ◌++◌, take, Option, Some, None, Result, Ok, Err, codes, decimal, if◌then◌else◌}
use Rattle.std.specs.Char.{is_ascii_graphic}
use Rattle.std.specs.Io.KnownBytes.{Appends}
use Rattle.std.specs.List.{list_all}
use Rattle.std.specs.Time.{system_time_nanos}
use Rattle.std.specs.declared.time.SystemTime.{SystemTime}
use Rattle.gate_jobs.specs.Outcome.{word_of}
use Rattle.gate_jobs.specs.declared.fault.JobFault.TheVariants.{Hook}
use Rattle.gate_hook.specs.Denials.{IsDenialIn}
use Rattle.gate_hook.specs.Sending.{IsCutOff}
use Rattle.gate_http.specs.Heads.{IsLineOf}
use Rattle.gate_hook.specs.declared.fault.HookFault.{HookFault}
use Rattle.gate_hook.specs.declared.fault.HookFault.TheVariants.{Gate}
use Rattle.gate_http.specs.declared.head.RequestLine.{RequestLine}
use Rattle.gate_hook.specs.declared.requests.Served.{Served}
use Rattle.gate_hook.specs.declared.requests.Transcript.{Transcript}
use Rattle.gate_queue.specs.declared.fault.Fault.{Fault}

-- THE SECONDS since 1970 by a reading of the clock, or none if it can't be read
abbrev pub seconds_of : {E : Type 0} → Result SystemTime E → ℕ
seconds_of (Ok time) = system_time_nanos time / 1_000_000_000
seconds_of (Err error) = 0

-- THE TIME OF DAY in UTC, by the seconds since 1970: a number below 100 in two digits, and then what follows
abbrev pub two_digits : ℕ → List ℕ → List ℕ
two_digits number rest = decimal (number / 10) ++ (decimal (number % 10) ++ rest)

abbrev pub time_of : ℕ → List ℕ
time_of seconds =
    two_digits (seconds / 3600 % 24) (codes ":" ++ two_digits (seconds / 60 % 60) (codes ":" ++ two_digits (seconds % 60) (codes "Z")))

-- THE REQUEST: a method or a path is shown by its first bytes if these are visible ASCII, and else by a question mark. Of
-- the target the line has the path alone, since a query may hold what nobody shall read.
abbrev pub max_shown : ℕ
max_shown = 200

abbrev pub front_of : List ℕ → List ℕ
front_of text = take max_shown text

abbrev pub shown : List ℕ → List ℕ
shown text = if list_all is_ascii_graphic (front_of text) then front_of text else codes "?"

-- the method and the path of the head, or two dashes if there is none
abbrev pub AreShown : Option RequestLine → List ℕ → List ℕ → Type 0
AreShown (Some line) method path = (method ≡ shown line.method.now) × (path ≡ shown line.path.now)
AreShown None method path = (method ≡ codes "-") × (path ≡ codes "-")

abbrev pub IsShownOf : List ℕ → List ℕ → List ℕ → Type 0
IsShownOf request method path = (line : Option RequestLine) × IsLineOf line request × AreShown line method path

-- HOW IT ENDED: the status, and the fault or the rule of a denial; or a dash and the fault, if no response was written whole
abbrev pub with_remark : List ℕ → Option Fault → Option (List ℕ) → List ℕ
with_remark status (Some fault) denial = status ++ (codes " " ++ word_of (Hook (Gate fault)))
with_remark status None (Some rule) = status ++ (codes " denied " ++ rule)
with_remark status None None = status

abbrev pub how_it_ended : Result Served HookFault → Option (List ℕ) → List ℕ
how_it_ended (Ok served) denial = with_remark (decimal served.status) served.fault denial
how_it_ended (Err fault) denial = codes "- " ++ word_of (Hook fault)

-- THE LINE, of what came in and went out, and of how serving it ended. It has no more of them than this.
abbrev pub line_text : List ℕ → List ℕ → List ℕ → List ℕ → List ℕ
line_text time method path ending = time ++ (codes " " ++ (method ++ (codes " " ++ (path ++ (codes " " ++ (ending ++ codes "\n"))))))

abbrev pub IsLogLine : ℕ → Transcript → Result Served HookFault → List ℕ → Type 0
IsLogLine seconds transcript served line =
    (method : List ℕ) × (path : List ℕ) × (denial : Option (List ℕ)) × IsShownOf transcript.request method path
    × IsDenialIn transcript.response denial × (line ≡ line_text (time_of seconds) method path (how_it_ended served denial))

-- WHAT IS WRITTEN: such a line, at some second, or a part from its front. Or nothing, if there is no memory for the line.
abbrev pub IsLogged : Transcript → Result Served HookFault → Option (List ℕ) → Option (List ℕ) → Type 0
IsLogged transcript served before after =
    ((seconds : ℕ) × (line : List ℕ) × IsLogLine seconds transcript served line × (Appends before after line ⊎ IsCutOff line before after))
    ⊎ (after ≡ before)
