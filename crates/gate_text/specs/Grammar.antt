-- THE GRAMMAR OF COMMENTS: a relation between a whole text and what it says.
use Rattle.std.specs.Prelude.{◌≡◌, ◌⊎◌, ℕ, ℤ, ◌==◌, List, [], ◌∷◌, ◌++◌, map, Some, codes}
use Rattle.std.specs.Char.{to_ascii_lowercase}
use Rattle.std.specs.List.{slice_split}
use Rattle.std.specs.Str.Lines.{strip_carriage_return}
use Rattle.gate_text.specs.Arguments.{number_of, names_of}
use Rattle.gate_text.specs.Spaces.{trim, trim_end}
use Rattle.gate_text.specs.declared.command.Command.{Command}
use Rattle.gate_text.specs.declared.command.Command.TheVariants.{Ping, Approve, ApproveFor, Withdraw, Priority, Try, TryCancel, DelegateAuthor, DelegateTo, DelegateNone, Retry}
use Rattle.gate_text.specs.declared.command.Spoken.{Spoken}
use Rattle.gate_text.specs.declared.command.Spoken.TheVariants.{Known, Unknown}

-- A body that approves: in the name of who writes it, or of the people listed.
pub data Approves : List ℕ → Command → Type 0 where
  by_sign : Approves (codes "r+") Approve
  by_word : Approves (codes "merge") Approve
  by_sign_for : (list : List ℕ) (names : List (List ℕ)) → names_of list ≡ Some names → Approves (codes "r=" ++ list) (ApproveFor names)
  by_word_for : (list : List ℕ) (names : List (List ℕ)) → names_of list ≡ Some names → Approves (codes "merge=" ++ list) (ApproveFor names)

-- The end of the body is a space and `p=` and a number, and `front` is what stands before that.
abbrev pub EndsInPriority : List ℕ → List ℕ → ℤ → Type 0
EndsInPriority body front priority = (number : List ℕ) × (body ≡ front ++ (codes " p=" ++ number)) × (number_of number ≡ Some priority)

-- A body that is a command, or two, one constructor for each form.
pub data Form : List ℕ → List Command → Type 0 where
  a_ping : Form (codes "ping") (Ping ∷ [])
  an_approval : (body : List ℕ) (approval : Command) → Approves body approval → ((front : List ℕ) (priority : ℤ) → EndsInPriority body front priority → ⊥)
      → Form body (approval ∷ [])
  an_approval_with_priority : (body front : List ℕ) (priority : ℤ) (approval : Command) → EndsInPriority body front priority → Approves (trim_end front) approval
      → Form body (Priority priority ∷ approval ∷ [])
  a_withdrawal : Form (codes "r-") (Withdraw ∷ [])
  a_withdrawal_by_word : Form (codes "merge-") (Withdraw ∷ [])
  a_try : Form (codes "try") (Try ∷ [])
  a_try_with_words : (words : List ℕ) → Form (codes "try " ++ words) (Try ∷ [])
  a_try_taken_back : Form (codes "try-") (TryCancel ∷ [])
  a_delegation_to_the_author : Form (codes "delegate+") (DelegateAuthor ∷ [])
  a_short_delegation_to_the_author : Form (codes "d+") (DelegateAuthor ∷ [])
  a_delegation : (list : List ℕ) (names : List (List ℕ)) → names_of list ≡ Some names → Form (codes "delegate=" ++ list) (DelegateTo names ∷ [])
  a_short_delegation : (list : List ℕ) (names : List (List ℕ)) → names_of list ≡ Some names → Form (codes "d=" ++ list) (DelegateTo names ∷ [])
  delegations_taken_back : Form (codes "delegate-") (DelegateNone ∷ [])
  delegations_taken_back_in_short : Form (codes "d-") (DelegateNone ∷ [])
  a_priority : (number : List ℕ) (priority : ℤ) → number_of number ≡ Some priority → Form (codes "p=" ++ number) (Priority priority ∷ [])
  a_retry : Form (codes "retry") (Retry ∷ [])

-- A body of a form says its commands; a body of no form says one `Unknown`.
abbrev pub BodySays : List ℕ → List Spoken → Type 0
BodySays body spoken =
    ((commands : List Command) × Form body commands × (spoken ≡ map Known commands))
    ⊎ (((commands : List Command) → Form body commands → ⊥) × (spoken ≡ Unknown ∷ []))

-- the letters `bors`, each in either case, and one space or colon
abbrev pub IsTrigger : List ℕ → Type 0
IsTrigger word = (map to_ascii_lowercase word ≡ codes "bors ") ⊎ (map to_ascii_lowercase word ≡ codes "bors:")

-- A command line is a trigger and then the body, with spaces at either end; any other line is a remark and says nothing.
pub data LineSays : List ℕ → List Spoken → Type 0 where
  a_command_line : (trigger rest : List ℕ) (spoken : List Spoken) → IsTrigger trigger → BodySays (trim rest) spoken → LineSays (trigger ++ rest) spoken
  a_remark : (line : List ℕ) → ((trigger rest : List ℕ) → IsTrigger trigger → line ≡ trigger ++ rest → ⊥) → LineSays line []

-- Lines say what each of them says, one after the other; of a carriage return at a line's end, one is dropped.
abbrev pub LinesSay : List (List ℕ) → List Spoken → Type 0
LinesSay [] spoken = spoken ≡ []
LinesSay (line ∷ lines) spoken =
    (first others : List Spoken) × LineSays (strip_carriage_return line) first × LinesSay lines others × (spoken ≡ first ++ others)

-- A comment is split at its line feeds.
abbrev pub CommentSays : List ℕ → List Spoken → Type 0
CommentSays text spoken = LinesSay (slice_split (λ b. b == 10) text) spoken
