-- The functions that read a body and the forms of bodies agree, both ways.
use Rattle.std.proofs.Common.{◌≡◌, ℕ, suc, ◌+◌, ℤ, true, false, inl, inr, List, [], ◌∷◌, ◌++◌, length, take, drop, Option, Some, None, eqb, refl, sym, ◌∙◌, ap, subst, codes, add-one, append_assoc, arith}
use Rattle.std.proofs.lemmas.Bool.Decides.{nat_tests}
use Rattle.std.proofs.lemmas.List.{take-append-drop}
use Rattle.std.proofs.lemmas.Slice.Eq.{bytes_eq-Decides}
use Rattle.std.proofs.Math.Bool.{and-false}
use Rattle.std.proofs.Math.Seq.{take-append_seam}
use Rattle.std.specs.Char.{is_ascii_digit}
use Rattle.std.specs.Cmp.{first_so, second_so}
use Rattle.std.specs.List.{list_all}
use Rattle.std.specs.Option.{option_map, option_or}
use Rattle.std.specs.Str.{bytes_eq}
use Rattle.gate_text.specs.Arguments.{begins_with, is_magnitude, magnitude_of, number_of, names_of}
use Rattle.gate_text.specs.Grammar.{Approves, by_sign, by_word, by_sign_for, by_word_for, EndsInPriority, Form}
use Rattle.gate_text.specs.Grammar as grammar
use Rattle.gate_text.specs.Reading.{after, names_after, is_either, word_of, command_of, approval_of, priority_of, cut_at, cut_priority, approvals_of, commands_or_approvals, commands_of}
use Rattle.gate_text.specs.Spaces.{trim_end, last_space}
use Rattle.gate_text.specs.declared.command.Command.{Command}
use Rattle.gate_text.specs.declared.command.Command.TheVariants.{Ping, Approve, ApproveFor, Withdraw, Priority, Try, TryCancel, DelegateAuthor, DelegateTo, DelegateNone, Retry}
use Rattle.gate_text.proofs.LastSpace.{last_space-cut, last_space-behind, not_space}
use Rattle.gate_text.proofs.Numbers.{digits_in}
use Rattle.gate_text.proofs.Trims.{trim_end-rest}
use Rattle.gate_text.proofs.Tools.{chosen, either, first_given, mapped, bound}

same_bytes : (x y : List ℕ) → bytes_eq x y ≡ true → x ≡ y
same_bytes x y is = (bytes_eq-Decides x y).0 is

-- PREFIXES
begun : (prefix text : List ℕ) → begins_with prefix text ≡ true → text ≡ prefix ++ drop (length prefix) text
begun prefix text is =
    sym (take-append-drop (length prefix) text) ∙ ap (λ (front : List ℕ). front ++ drop (length prefix) text) (same_bytes (take (length prefix) text) prefix is)

followed : (prefix text rest : List ℕ) → after prefix text ≡ Some rest → text ≡ prefix ++ rest
followed prefix text rest is = elim (chosen (begins_with prefix text) is) [
  | inl begins ↦ let rest_is : drop (length prefix) text ≡ rest = cc begins.1 in begun prefix text begins.0 ∙ ap (λ (t : List ℕ). prefix ++ t) rest_is
  | inr other ↦ cc other.1
]

-- the names behind one of two prefixes
names_taken : (P : List ℕ → List Command → Type 0) (short long body : List ℕ) (names : List (List ℕ)) (said : List Command)
    → ((list : List ℕ) → names_of list ≡ Some names → P (short ++ list) said)
    → ((list : List ℕ) → names_of list ≡ Some names → P (long ++ list) said)
    → names_after short long body ≡ Some names → P body said
names_taken P short long body names said in_short in_long is =
    let list = bound names_of (option_or (after short body) (after long body)) is in
    elim (first_given (after short body) (after long body) list.1) [
      | inl found ↦ subst (λ b. P b said) (sym (followed short body list.0 found)) (in_short list.0 list.2)
      | inr found ↦ subst (λ b. P b said) (sym (followed long body list.0 found)) (in_long list.0 list.2)
    ]

-- WORDS
worded : (word body : List ℕ) (said command : Command) → Form word (said ∷ []) → (bytes_eq body word ≡ true) × (Some said ≡ Some command) → Form body (command ∷ [])
worded word body said command form is =
    let body_is = same_bytes body word is.0 in
    let said_is : said ≡ command = cc is.1 in
    rw (body_is, ← said_is) form

worded_either : (short long body : List ℕ) (said command : Command) → Form short (said ∷ []) → Form long (said ∷ [])
    → (is_either body short long ≡ true) × (Some said ≡ Some command) → Form body (command ∷ [])
worded_either short long body said command in_short in_long is = elim (either (bytes_eq body short) (bytes_eq body long) is.0) [
  | inl same ↦ worded short body said command in_short (same, is.1)
  | inr same ↦ worded long body said command in_long (same, is.1)
]

word_takes : (body : List ℕ) (command : Command) → word_of body ≡ Some command → Form body (command ∷ [])
word_takes body command is = elim (chosen (bytes_eq body (codes "ping")) is) [
  | inl ping ↦ worded _ body Ping command grammar.a_ping ping
  | inr other ↦ elim (chosen (is_either body (codes "r-") (codes "merge-")) other.1) [
    | inl withdrawal ↦ worded_either _ _ body Withdraw command grammar.a_withdrawal grammar.a_withdrawal_by_word withdrawal
    | inr other ↦ elim (chosen (bytes_eq body (codes "try")) other.1) [
      | inl try ↦ worded _ body Try command grammar.a_try try
      | inr other ↦ elim (chosen (bytes_eq body (codes "try-")) other.1) [
        | inl cancel ↦ worded _ body TryCancel command grammar.a_try_taken_back cancel
        | inr other ↦ elim (chosen (is_either body (codes "d+") (codes "delegate+")) other.1) [
          | inl author ↦ worded_either _ _ body DelegateAuthor command grammar.a_short_delegation_to_the_author grammar.a_delegation_to_the_author author
          | inr other ↦ elim (chosen (is_either body (codes "d-") (codes "delegate-")) other.1) [
            | inl none ↦ worded_either _ _ body DelegateNone command grammar.delegations_taken_back_in_short grammar.delegations_taken_back none
            | inr other ↦ elim (chosen (bytes_eq body (codes "retry")) other.1) [
              | inl retry ↦ worded _ body Retry command grammar.a_retry retry
              | inr none ↦ cc none.1
            ]
          ]
        ]
      ]
    ]
  ]
]

-- COMMANDS
priority_takes : (body : List ℕ) (command : Command) → begins_with (codes "p=") body ≡ true → option_map Priority (number_of (drop 2 body)) ≡ Some command → Form body (command ∷ [])
priority_takes body command begins is =
    let priority = mapped Priority (number_of (drop 2 body)) is in
    rw (begun (codes "p=") body begins, ← priority.2) (grammar.a_priority (drop 2 body) priority.0 priority.1)

delegation_takes : (body : List ℕ) (command : Command) → option_map DelegateTo (names_after (codes "d=") (codes "delegate=") body) ≡ Some command → Form body (command ∷ [])
delegation_takes body command is =
    let names = mapped DelegateTo (names_after (codes "d=") (codes "delegate=") body) is in
    rw (← names.2) (names_taken Form (codes "d=") (codes "delegate=") body names.0 (DelegateTo names.0 ∷ [])
    (λ list read. grammar.a_short_delegation list names.0 read) (λ list read. grammar.a_delegation list names.0 read) names.1)

command_takes : (body : List ℕ) (command : Command) → command_of body ≡ Some command → Form body (command ∷ [])
command_takes body command is = elim (first_given (word_of body) _ is) [
  | inl word ↦ word_takes body command word
  | inr other ↦ elim (chosen (begins_with (codes "try ") body) other) [
    | inl try ↦
        let said : Try ≡ command = cc try.1 in
        rw (begun (codes "try ") body try.0, ← said) (grammar.a_try_with_words (drop 4 body))
    | inr other ↦ elim (chosen (begins_with (codes "p=") body) other.1) [
      | inl priority ↦ priority_takes body command priority.0 priority.1
      | inr other ↦ delegation_takes body command other.1
    ]
  ]
]

-- APPROVALS
approval_takes : (body : List ℕ) (approval : Command) → approval_of body ≡ Some approval → Approves body approval
approval_takes body approval is = elim (chosen (is_either body (codes "r+") (codes "merge")) is) [
  | inl plain ↦
      let said : Approve ≡ approval = cc plain.1 in
      elim (either (bytes_eq body (codes "r+")) (bytes_eq body (codes "merge")) plain.0) [
        | inl sign ↦ rw (same_bytes body (codes "r+") sign, ← said) by_sign
        | inr word ↦ rw (same_bytes body (codes "merge") word, ← said) by_word
      ]
  | inr other ↦
      let names = mapped ApproveFor (names_after (codes "r=") (codes "merge=") body) other.1 in
      rw (← names.2) (names_taken (λ b said. (command : Command) → said ≡ command ∷ [] → Approves b command) (codes "r=") (codes "merge=") body names.0 (ApproveFor names.0 ∷ [])
      (λ list read command same. let is : ApproveFor names.0 ≡ command = cc same in rw (← is) (by_sign_for list names.0 read))
      (λ list read command same. let is : ApproveFor names.0 ≡ command = cc same in rw (← is) (by_word_for list names.0 read)) names.1 (ApproveFor names.0) refl)
]

approval_again : (body : List ℕ) (approval : Command) → Approves body approval → approval_of body ≡ Some approval
approval_again body _ by_sign = refl
approval_again body _ by_word = refl
approval_again body _ (by_sign_for list names read) = rw read refl
approval_again body _ (by_word_for list names read) = rw read refl

-- an approval is no other command, and neither is one with more behind it, unless that makes `merge-` of `merge`
no_command : (body : List ℕ) (approval : Command) → Approves body approval → command_of body ≡ None
no_command body _ by_sign = refl
no_command body _ by_word = refl
no_command body _ (by_sign_for list names read) = refl
no_command body _ (by_word_for list names read) = refl

no_command_before : (front rest : List ℕ) (approval : Command) → Approves front approval → bytes_eq rest (codes "-") ≡ false → command_of (front ++ rest) ≡ None
no_command_before front rest _ by_sign other = refl
no_command_before front rest _ by_word other = rw other refl
no_command_before front rest _ (by_sign_for list names read) other = refl
no_command_before front rest _ (by_word_for list names read) other = refl

-- NUMBERS have no space
no_space : (text : List ℕ) → list_all is_ascii_digit text ≡ true → last_space text ≡ None
no_space [] digits = refl
no_space (b ∷ bs) digits =
    let other : b ≡ 32 → ⊥ = λ space. let digit = first_so (is_ascii_digit b) (list_all is_ascii_digit bs) digits in grind (arith, nat_tests) in
    rw (no_space bs (second_so (is_ascii_digit b) (list_all is_ascii_digit bs) digits), not_space b other) refl

no_space_in_magnitude : (text : List ℕ) (n : ℕ) → magnitude_of text ≡ Some n → last_space text ≡ None
no_space_in_magnitude text n read = elim (chosen (is_magnitude text) read) [
  | inl is ↦ no_space text (digits_in text is.0)
  | inr other ↦ cc other.1
]

no_space_in_number : (text : List ℕ) (priority : ℤ) → number_of text ≡ Some priority → last_space text ≡ None
no_space_in_number text priority read = elim (chosen (begins_with (codes "-") text) read) [
  | inl negative ↦
      let magnitude = mapped _ (magnitude_of (drop 1 text)) negative.1 in
      rw (begun (codes "-") text negative.0, no_space_in_magnitude (drop 1 text) magnitude.0 magnitude.1) refl
  | inr positive ↦
      let magnitude = mapped _ (magnitude_of text) positive.1 in
      no_space_in_magnitude text magnitude.0 magnitude.1
]

-- PRIORITIES AT THE END
cut_whole : (body front rest : List ℕ) (place : ℕ) → last_space body ≡ Some place → take place body ≡ front → drop (place + 1) body ≡ rest → body ≡ front ++ 32 ∷ rest
cut_whole body front rest place found front_is rest_is =
    let behind : drop (suc place) body ≡ rest = rw (← add-one place) rest_is in
    last_space-cut body place found ∙ rw (front_is, behind) refl

cut_takes : (body front : List ℕ) (priority : ℤ) → cut_priority body ≡ Some (front, priority) → EndsInPriority body front priority
cut_takes body front priority is =
    let place = bound (cut_at body) (last_space body) is in
    let read = mapped (λ found. (take place.0 body, found)) (priority_of (drop (place.0 + 1) body)) place.2 in
    let number = bound number_of (after (codes "p=") (drop (place.0 + 1) body)) read.1 in
    let front_is : take place.0 body ≡ front = ap (λ (cut : List ℕ × ℤ). cut.0) read.2 in
    let priority_is : read.0 ≡ priority = ap (λ (cut : List ℕ × ℤ). cut.1) read.2 in
    (number.0, cut_whole body front (codes "p=" ++ number.0) place.0 place.1 front_is (followed (codes "p=") _ number.0 number.1), number.2 ∙ ap Some priority_is)

dropped : (front rest : List ℕ) → drop (suc (length front)) (front ++ 32 ∷ rest) ≡ rest
dropped [] rest = refl
dropped (b ∷ front) rest = dropped front rest

cut_again : (body front : List ℕ) (priority : ℤ) → EndsInPriority body front priority → cut_priority body ≡ Some (front, priority)
cut_again body front priority (number, is, read) =
    let none : last_space (codes "p=" ++ number) ≡ None = rw (no_space_in_number number priority read) refl in
    rw (is, last_space-behind front (codes "p=" ++ number) none, add-one, take-append_seam front (codes " p=" ++ number), dropped front (codes "p=" ++ number), read) refl

-- BODIES
approvals_taken : (body : List ℕ) (cut : Option (List ℕ × ℤ)) (commands : List Command) → cut_priority body ≡ cut → approvals_of cut body ≡ Some commands → Form body commands
approvals_taken body (Some (front, priority)) commands is read =
    let approval = mapped (λ found. Priority priority ∷ found ∷ []) (approval_of (trim_end front)) read in
    rw (← approval.2) (grammar.an_approval_with_priority body front priority approval.0 (cut_takes body front priority is) (approval_takes (trim_end front) approval.0 approval.1))
approvals_taken body None commands is read =
    let approval = mapped (λ found. found ∷ []) (approval_of body) read in
    rw (← approval.2) (grammar.an_approval body approval.0 (approval_takes body approval.0 approval.1) (λ front priority ends. cc (is, cut_again body front priority ends)))

commands_read : (body : List ℕ) (command : Option Command) (commands : List Command) → command_of body ≡ command → commands_or_approvals command body ≡ Some commands → Form body commands
commands_read body (Some command) commands is read = let said : command ∷ [] ≡ commands = cc read in rw (← said) (command_takes body command is)
commands_read body None commands is read = approvals_taken body _ commands refl read

-- what is read of a body is a form of it
pub commands_taken : (body : List ℕ) (commands : List Command) → commands_of body ≡ Some commands → Form body commands
commands_taken body commands is = commands_read body _ commands refl is

no_cut : (body : List ℕ) (cut : Option (List ℕ × ℤ)) → cut_priority body ≡ cut → ((front : List ℕ) (priority : ℤ) → EndsInPriority body front priority → ⊥) → cut_priority body ≡ None
no_cut body (Some (front, priority)) is none = absurd (none front priority (cut_takes body front priority is))
no_cut body None is none = is

longer : (bs rest : List ℕ) → bytes_eq (bs ++ 32 ∷ rest) [] ≡ false
longer [] rest = refl
longer (b ∷ bs) rest = refl

not_a_sign : (end rest : List ℕ) → bytes_eq (end ++ 32 ∷ rest) (codes "-") ≡ false
not_a_sign [] rest = refl
not_a_sign (b ∷ bs) rest = rw (longer bs rest) (and-false (eqb b 45))

no_command_with_priority : (body front : List ℕ) (priority : ℤ) (approval : Command) → EndsInPriority body front priority → Approves (trim_end front) approval → command_of body ≡ None
no_command_with_priority body front priority approval (number, is, read) approves =
    let end = trim_end-rest front in
    let rest = codes "p=" ++ number in
    let whole : body ≡ trim_end front ++ (end.0 ++ 32 ∷ rest) = is ∙ ap (λ (t : List ℕ). t ++ 32 ∷ rest) end.1 ∙ append_assoc (trim_end front) end.0 (32 ∷ rest) in
    ap command_of whole ∙ no_command_before (trim_end front) (end.0 ++ 32 ∷ rest) approval approves (not_a_sign end.0 rest)

-- and each form is read so
pub commands_again : (body : List ℕ) (commands : List Command) → Form body commands → commands_of body ≡ Some commands
commands_again body _ grammar.a_ping = refl
commands_again body _ (grammar.an_approval _ approval approves none) =
    rw (no_command body approval approves, no_cut body _ refl none, approval_again body approval approves) refl
commands_again body _ (grammar.an_approval_with_priority _ front priority approval ends approves) =
    rw (no_command_with_priority body front priority approval ends approves, cut_again body front priority ends, approval_again (trim_end front) approval approves) refl
commands_again body _ grammar.a_withdrawal = refl
commands_again body _ grammar.a_withdrawal_by_word = refl
commands_again body _ grammar.a_try = refl
commands_again body _ (grammar.a_try_with_words words) = refl
commands_again body _ grammar.a_try_taken_back = refl
commands_again body _ grammar.a_delegation_to_the_author = refl
commands_again body _ grammar.a_short_delegation_to_the_author = refl
commands_again body _ (grammar.a_delegation list names read) = rw read refl
commands_again body _ (grammar.a_short_delegation list names read) = rw read refl
commands_again body _ grammar.delegations_taken_back = refl
commands_again body _ grammar.delegations_taken_back_in_short = refl
commands_again body _ (grammar.a_priority number priority read) = rw read refl
commands_again body _ grammar.a_retry = refl
