-- What a comment says keeps the limits of commands.
use Rattle.std.proofs.Common.{◌≡◌, ◌≤◌, ◌<◌, ◌^◌, ℕ, zero, suc, ℤ, pos, neg_ℤ, Bool, true, false, cond, inl, inr, List, [], ◌∷◌, ◌++◌, length, map, drop, Option, Some, refl, sym, ◌∙◌, ap, codes, le-leb, subst, T, ◌==◌, arith}
use Rattle.std.proofs.lemmas.List.{length_push, length-map}
use Rattle.std.proofs.lemmas.List.Elements.{All-append, All-cons, All-nil}
use Rattle.std.proofs.lemmas.List.Splits.{length-slice_split}
use Rattle.std.proofs.lemmas.Map.Keys.{IsDistinct-push}
use Rattle.std.proofs.lemmas.Str.Parse.{digits_value_short}
use Rattle.std.specs.Cmp.{first_so}
use Rattle.std.specs.Cmp.Lexicographic.{nat_list_eq_equiv}
use Rattle.std.specs.Int.{is_in_range}
use Rattle.std.specs.List.{All, AllByRecursion, IsDistinct, fold, list_any}
use Rattle.std.specs.Option.{option_map}
use Rattle.std.specs.Str.{bytes_eq}
use Rattle.std.specs.Str.Lines.{strip_carriage_return}
use Rattle.std.specs.Str.Parse.{digits_value}
use Rattle.gate_text.specs.Arguments.{begins_with, is_magnitude, magnitude_of, number_of, items_of, name_in, all_of, with_name, names_of}
use Rattle.gate_text.specs.Grammar.{Approves, by_sign, by_word, by_sign_for, by_word_for, Form, BodySays, LineSays, a_command_line, a_remark, LinesSay, CommentSays}
use Rattle.gate_text.specs.Grammar as grammar
use Rattle.gate_text.specs.Limits.{IsPriority, AreNames, CommandKeepsLimits, KeepsLimits}
use Rattle.gate_text.specs.Spaces.{trim, trim_end}
use Rattle.gate_text.specs.declared.command.Command.{Command}
use Rattle.gate_text.specs.declared.command.Spoken.{Spoken}
use Rattle.gate_text.specs.declared.command.Spoken.TheVariants.{Known, Unknown}
use Rattle.gate_text.proofs.Digits.{decimal}
use Rattle.gate_text.proofs.Lists.{same_either_way}
use Rattle.gate_text.proofs.Numbers.{digits_in, few}
use Rattle.gate_text.proofs.Tools.{chosen, mapped, bound}

-- PRIORITIES
magnitude_small : (text : List ℕ) (n : ℕ) → magnitude_of text ≡ Some n → n ≤ 9999
magnitude_small text n read = elim (chosen (is_magnitude text) read) [
  | inl is ↦
      let size = few (length text) (first_so (is_in_range 1 4 (length text)) _ is.0) in
      let small : digits_value 10 text < 10 ^ 4 = digits_value_short decimal text 4 (digits_in text is.0) size.1 in
      let value : digits_value 10 text ≡ n = cc is.1 in
      omega (arith, small, value)
  | inr other ↦ cc other.1
]

holds : {b : Bool} → b ≡ true → T b
holds is = subst T (sym is) tt

at_most : (n : ℕ) → n ≤ 9999 → IsPriority (pos n)
at_most n small = (record { le = tt }, record { le = holds (le-leb n 9999 small) })

at_least : (n : ℕ) → n ≤ 9999 → IsPriority (neg_ℤ (pos n))
at_least zero small = (record { le = tt }, record { le = tt })
at_least (suc n) small = (record { le = holds (le-leb n 9998 (omega arith)) }, record { le = tt })

number_keeps : (text : List ℕ) (priority : ℤ) → number_of text ≡ Some priority → IsPriority priority
number_keeps text priority read = elim (chosen (begins_with (codes "-") text) read) [
  | inl negative ↦
      let magnitude = mapped (λ n. neg_ℤ (pos n)) (magnitude_of (drop 1 text)) negative.1 in
      rw (← magnitude.2) (at_least magnitude.0 (magnitude_small (drop 1 text) magnitude.0 magnitude.1))
  | inr positive ↦
      let magnitude = mapped pos (magnitude_of text) positive.1 in
      rw (← magnitude.2) (at_most magnitude.0 (magnitude_small text magnitude.0 magnitude.1))
]

-- LISTS OF NAMES
one_more : (names : List (List ℕ)) (name : List ℕ) (there : Bool) → list_any (λ other. bytes_eq other name) names ≡ there → 1 ≤ length names → IsDistinct bytes_eq names
    → AreNames (cond there names (names ++ name ∷ []))
one_more names name true is some distinct = (some, distinct)
one_more names name false is some distinct = (rw (length_push names name) (omega arith), IsDistinct-push nat_list_eq_equiv names name distinct (same_either_way name names ∙ is))

added : (names : List (List ℕ)) (more : List (List ℕ)) → AreNames names → AreNames (fold with_name names more)
added names [] are = are
added names (name ∷ more) are = added (with_name names name) more (one_more names name _ refl are.0 are.1)

one_name : (name : List ℕ) → AreNames (name ∷ [])
unfolding IsDistinct
one_name name = (omega arith, (tt, tt))

names_kept : (values : List (Option (List ℕ))) (names : List (List ℕ)) → 1 ≤ length values → option_map (fold with_name []) (all_of values) ≡ Some names → AreNames names
names_kept [] names some read = absurd (omega arith)
names_kept (value ∷ values) names some read =
    let all = mapped (fold with_name []) (all_of (value ∷ values)) read in
    let first = bound (λ name. option_map (λ others. name ∷ others) (all_of values)) value all.1 in
    let others = mapped (λ more. first.0 ∷ more) (all_of values) first.2 in
    let whole : fold with_name (first.0 ∷ []) others.0 ≡ names = ap (fold with_name []) others.2 ∙ all.2 in
    rw (← whole) (added (first.0 ∷ []) others.0 (one_name first.0))

names_keep : (list : List ℕ) (names : List (List ℕ)) → names_of list ≡ Some names → AreNames names
names_keep list names read =
    names_kept (map name_in (items_of list)) names (rw (length-map (items_of list) name_in, length-slice_split (λ b. b == 44) list) (omega arith)) read

-- BODIES, LINES, COMMENTS
approval_keeps : (body : List ℕ) (approval : Command) → Approves body approval → CommandKeepsLimits approval
approval_keeps body _ by_sign = tt
approval_keeps body _ by_word = tt
approval_keeps body _ (by_sign_for list names read) = names_keep list names read
approval_keeps body _ (by_word_for list names read) = names_keep list names read

form_keeps : (body : List ℕ) (commands : List Command) → Form body commands → AllByRecursion CommandKeepsLimits commands
form_keeps body _ grammar.a_ping = (tt, tt)
form_keeps body _ (grammar.an_approval _ approval approves none) = (approval_keeps body approval approves, tt)
form_keeps body _ (grammar.an_approval_with_priority _ front priority approval ends approves) =
    (number_keeps ends.0 priority ends.2, (approval_keeps (trim_end front) approval approves, tt))
form_keeps body _ grammar.a_withdrawal = (tt, tt)
form_keeps body _ grammar.a_withdrawal_by_word = (tt, tt)
form_keeps body _ grammar.a_try = (tt, tt)
form_keeps body _ (grammar.a_try_with_words words) = (tt, tt)
form_keeps body _ grammar.a_try_taken_back = (tt, tt)
form_keeps body _ grammar.a_delegation_to_the_author = (tt, tt)
form_keeps body _ grammar.a_short_delegation_to_the_author = (tt, tt)
form_keeps body _ (grammar.a_delegation list names read) = (names_keep list names read, tt)
form_keeps body _ (grammar.a_short_delegation list names read) = (names_keep list names read, tt)
form_keeps body _ grammar.delegations_taken_back = (tt, tt)
form_keeps body _ grammar.delegations_taken_back_in_short = (tt, tt)
form_keeps body _ (grammar.a_priority number priority read) = (number_keeps number priority read, tt)
form_keeps body _ grammar.a_retry = (tt, tt)

known_keep : (commands : List Command) → AllByRecursion CommandKeepsLimits commands → All KeepsLimits (map Known commands)
known_keep [] keep = All-nil KeepsLimits
known_keep (command ∷ commands) keep = All-cons KeepsLimits (Known command) (map Known commands) keep.0 (known_keep commands keep.1)

body_keeps : (body : List ℕ) (spoken : List Spoken) → BodySays body spoken → All KeepsLimits spoken
body_keeps body spoken (inl said) = rw said.2 (known_keep said.0 (form_keeps body said.0 said.1))
body_keeps body spoken (inr unknown) = rw unknown.1 (All-cons KeepsLimits Unknown [] tt (All-nil KeepsLimits))

line_keeps : (line : List ℕ) (spoken : List Spoken) → LineSays line spoken → All KeepsLimits spoken
line_keeps line spoken (a_command_line trigger rest said triggers says) = body_keeps (trim rest) said says
line_keeps line spoken (a_remark remark none) = All-nil KeepsLimits

lines_keep : (lines : List (List ℕ)) (spoken : List Spoken) → LinesSay lines spoken → All KeepsLimits spoken
lines_keep [] spoken says = rw says (All-nil KeepsLimits)
lines_keep (line ∷ lines) spoken says =
    rw says.4 (All-append KeepsLimits says.0 says.1 (line_keeps (strip_carriage_return line) says.0 says.2) (lines_keep lines says.1 says.3))

pub comment_keeps : (text : List ℕ) (spoken : List Spoken) → CommentSays text spoken → All KeepsLimits spoken
comment_keeps text spoken says = lines_keep _ spoken says
