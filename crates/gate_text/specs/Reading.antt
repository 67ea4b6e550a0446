-- What a comment says, as functions from bytes, for the code. The grammar for readers is in Grammar.antt.
use Rattle.std.specs.Prelude.{ℕ, ◌+◌, ℤ, Bool, ◌||◌, ◌==◌, List, [], ◌∷◌, length, map, take, drop, Option, Some, None, codes, if◌then◌else◌}
use Rattle.std.specs.Char.{to_ascii_lowercase}
use Rattle.std.specs.List.{slice_split, flat_map}
use Rattle.std.specs.Option.{option_map, option_and_then, option_or}
use Rattle.std.specs.Str.{bytes_eq}
use Rattle.std.specs.Str.Lines.{strip_carriage_return}
use Rattle.gate_text.specs.Arguments.{begins_with, number_of, names_of}
use Rattle.gate_text.specs.Spaces.{trim, trim_end, last_space}
use Rattle.gate_text.specs.declared.command.Command.{Command}
use Rattle.gate_text.specs.declared.command.Command.TheVariants.{Ping, Approve, ApproveFor, Withdraw, Priority, Try, TryCancel, DelegateAuthor, DelegateTo, DelegateNone, Retry}
use Rattle.gate_text.specs.declared.command.Spoken.{Spoken}
use Rattle.gate_text.specs.declared.command.Spoken.TheVariants.{Known, Unknown}

-- BODIES
-- what follows the prefix, if the text begins with it
abbrev pub after : List ℕ → List ℕ → Option (List ℕ)
after prefix text = if begins_with prefix text then Some (drop (length prefix) text) else None

-- the names behind one of two prefixes
abbrev pub names_after : List ℕ → List ℕ → List ℕ → Option (List (List ℕ))
names_after short long body = option_and_then names_of (option_or (after short body) (after long body))

abbrev pub is_either : List ℕ → List ℕ → List ℕ → Bool
is_either body short long = bytes_eq body short || bytes_eq body long

-- a command that is a fixed word, the approvals apart
abbrev pub word_of : List ℕ → Option Command
word_of body =
    if bytes_eq body (codes "ping") then Some Ping
    else (if is_either body (codes "r-") (codes "merge-") then Some Withdraw
    else (if bytes_eq body (codes "try") then Some Try
    else (if bytes_eq body (codes "try-") then Some TryCancel
    else (if is_either body (codes "d+") (codes "delegate+") then Some DelegateAuthor
    else (if is_either body (codes "d-") (codes "delegate-") then Some DelegateNone
    else (if bytes_eq body (codes "retry") then Some Retry
    else None))))))

-- any command but the approvals
abbrev pub command_of : List ℕ → Option Command
command_of body =
    option_or (word_of body)
    (if begins_with (codes "try ") body then Some Try
    else (if begins_with (codes "p=") body then option_map Priority (number_of (drop 2 body))
    else option_map DelegateTo (names_after (codes "d=") (codes "delegate=") body)))

abbrev pub approval_of : List ℕ → Option Command
approval_of body =
    if is_either body (codes "r+") (codes "merge") then Some Approve
    else option_map ApproveFor (names_after (codes "r=") (codes "merge=") body)

-- the priority that a text is, and nothing if it is none
abbrev pub priority_of : List ℕ → Option ℤ
priority_of text = option_and_then number_of (after (codes "p=") text)

-- the text before a space and the priority behind it
abbrev pub cut_at : List ℕ → ℕ → Option (List ℕ × ℤ)
cut_at body place = option_map (λ priority. (take place body, priority)) (priority_of (drop (place + 1) body))

-- the same at the last space
abbrev pub cut_priority : List ℕ → Option (List ℕ × ℤ)
cut_priority body = option_and_then (cut_at body) (last_space body)

-- an approval with or without a priority
abbrev pub approvals_of : Option (List ℕ × ℤ) → List ℕ → Option (List Command)
approvals_of (Some cut) body = option_map (λ approval. Priority cut.1 ∷ approval ∷ []) (approval_of (trim_end cut.0))
approvals_of None body = option_map (λ approval. approval ∷ []) (approval_of body)

abbrev pub commands_or_approvals : Option Command → List ℕ → Option (List Command)
commands_or_approvals (Some command) body = Some (command ∷ [])
commands_or_approvals None body = approvals_of (cut_priority body) body

abbrev pub commands_of : List ℕ → Option (List Command)
commands_of body = commands_or_approvals (command_of body) body

abbrev pub spoken_as : Option (List Command) → List Spoken
spoken_as (Some commands) = map Known commands
spoken_as None = Unknown ∷ []

abbrev pub body_says : List ℕ → List Spoken
body_says body = spoken_as (commands_of body)

-- LINES
abbrev pub is_trigger : List ℕ → Bool
is_trigger word = bytes_eq (map to_ascii_lowercase word) (codes "bors ") || bytes_eq (map to_ascii_lowercase word) (codes "bors:")

abbrev pub body_of : List ℕ → Option (List ℕ)
body_of line = if is_trigger (take 5 line) then Some (trim (drop 5 line)) else None

abbrev pub spoken_by : Option (List ℕ) → List Spoken
spoken_by (Some body) = body_says body
spoken_by None = []

abbrev pub line_says : List ℕ → List Spoken
line_says line = spoken_by (body_of (strip_carriage_return line))

abbrev pub lines_of : List ℕ → List (List ℕ)
lines_of text = slice_split (λ b. b == 10) text

unfoldable pub comment_says : List ℕ → List Spoken
comment_says text = flat_map line_says (lines_of text)
