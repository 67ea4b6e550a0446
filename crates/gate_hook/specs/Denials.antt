-- DENIALS in responses, for a log: the rule by which a request was denied.
use Rattle.std.specs.Prelude.{◌≡◌, ◌≢◌, ◌⊎◌, ℕ, List, [], ◌∷◌, Option, Some, None, codes}
use Rattle.std.specs.Str.Pattern.{FindsText, SplitsAroundMatch}
use Rattle.serde_json.specs.Read.{read}
use Rattle.gate_answers.specs.Answers.{answer_data}
use Rattle.gate_answers.specs.Limits.{IsAnswer}
use Rattle.gate_rules.specs.Words.{word_of}
use Rattle.gate_state.specs.declared.reply.Reply.{Reply}
use Rattle.gate_state.specs.declared.reply.Reply.TheVariants.{Done, Denied}

-- the rule of the first reply that is a denial, by its name
abbrev pub first_denial : List Reply → Option (List ℕ)
first_denial [] = None
first_denial (Done orders ∷ replies) = first_denial replies
first_denial (Denied rule ∷ replies) = Some (word_of rule)

-- the same in a text: that of an answer, or another, in which there is none
abbrev pub IsDenialOf : List ℕ → Option (List ℕ) → Type 0
IsDenialOf text denial =
    ((answer : List Reply) × IsAnswer answer × (read text ≡ Some (answer_data answer)) × (denial ≡ first_denial answer))
    ⊎ (((answer : List Reply) → IsAnswer answer → read text ≢ Some (answer_data answer)) × (denial ≡ None))

-- the same in a response, whose body stands behind the first empty line
abbrev pub empty_line : List ℕ
empty_line = codes "\r\n\r\n"

abbrev pub IsDenialIn : List ℕ → Option (List ℕ) → Type 0
IsDenialIn response denial =
    ((head : List ℕ) × (body : List ℕ) × SplitsAroundMatch (FindsText empty_line) response head body × IsDenialOf body denial)
    ⊎ (FindsText empty_line response None × (denial ≡ None))
