-- The functions that read a comment and its grammar agree, both ways.
use Rattle.std.proofs.Common.{◌≡◌, ℕ, Bool, true, false, cond, inl, inr, List, [], ◌∷◌, ◌++◌, map, length, take, drop, Option, Some, None, refl, sym, ◌∙◌, ap, subst, codes}
use Rattle.std.proofs.lemmas.List.{take-append-drop, length-map}
use Rattle.std.proofs.lemmas.Slice.Eq.{bytes_eq-Decides}
use Rattle.std.proofs.Math.Seq.{take-append_seam, drop-append_seam}
use Rattle.std.specs.Char.{to_ascii_lowercase}
use Rattle.std.specs.List.{flat_map}
use Rattle.std.specs.Str.{bytes_eq}
use Rattle.std.specs.Str.Lines.{strip_carriage_return}
use Rattle.gate_text.specs.Grammar.{Form, BodySays, IsTrigger, LineSays, a_command_line, a_remark, LinesSay, CommentSays}
use Rattle.gate_text.specs.Reading.{commands_of, spoken_as, body_says, is_trigger, body_of, spoken_by, line_says, comment_says}
use Rattle.gate_text.specs.Spaces.{trim}
use Rattle.gate_text.specs.declared.command.Command.{Command}
use Rattle.gate_text.specs.declared.command.Spoken.{Spoken}
use Rattle.gate_text.specs.declared.command.Spoken.TheVariants.{Unknown}
use Rattle.gate_text.proofs.Forms.{commands_taken, commands_again}
use Rattle.gate_text.proofs.Tools.{either}

-- BODIES
body_said : (body : List ℕ) (read : Option (List Command)) → commands_of body ≡ read → BodySays body (spoken_as read)
body_said body None is = inr (λ commands form. cc (is, commands_again body commands form), refl)
body_said body (Some commands) is = inl (commands, commands_taken body commands is, refl)

only_known : (body : List ℕ) (read : Option (List Command)) → commands_of body ≡ read → ((commands : List Command) → Form body commands → ⊥) → Unknown ∷ [] ≡ spoken_as read
only_known body None is none = refl
only_known body (Some commands) is none = absurd (none commands (commands_taken body commands is))

body_only : (body : List ℕ) (spoken : List Spoken) → BodySays body spoken → spoken ≡ body_says body
body_only body spoken (inl said) = said.2 ∙ ap spoken_as (sym (commands_again body said.0 said.1))
body_only body spoken (inr unknown) = unknown.1 ∙ only_known body _ refl unknown.0

-- LINES
trigger_takes : (word : List ℕ) → is_trigger word ≡ true → IsTrigger word
trigger_takes word is =
    let lower = map to_ascii_lowercase word in
    elim (either (bytes_eq lower (codes "bors ")) (bytes_eq lower (codes "bors:")) is) [
      | inl spaced ↦ inl ((bytes_eq-Decides lower (codes "bors ")).0 spaced)
      | inr parted ↦ inr ((bytes_eq-Decides lower (codes "bors:")).0 parted)
    ]

trigger_again : (word : List ℕ) → IsTrigger word → is_trigger word ≡ true
trigger_again word (inl spaced) = rw spaced refl
trigger_again word (inr parted) = rw parted refl

length_of : (word literal : List ℕ) → map to_ascii_lowercase word ≡ literal → length word ≡ length literal
length_of word literal is = sym (length-map word to_ascii_lowercase) ∙ ap length is

five : (word : List ℕ) → IsTrigger word → length word ≡ 5
five word (inl spaced) = length_of word (codes "bors ") spaced
five word (inr parted) = length_of word (codes "bors:") parted

-- a line that begins with a trigger, cut behind it
begins : (trigger rest : List ℕ) → IsTrigger trigger → take 5 (trigger ++ rest) ≡ trigger
begins trigger rest is = subst (λ n. take n (trigger ++ rest) ≡ trigger) (five trigger is) (take-append_seam trigger rest)

goes_on : (trigger rest : List ℕ) → IsTrigger trigger → drop 5 (trigger ++ rest) ≡ rest
goes_on trigger rest is = subst (λ n. drop n (trigger ++ rest) ≡ rest) (five trigger is) (drop-append_seam trigger rest)

commanded : (trigger rest : List ℕ) → IsTrigger trigger → body_of (trigger ++ rest) ≡ Some (trim rest)
commanded trigger rest is = rw (begins trigger rest is, goes_on trigger rest is, trigger_again trigger is) refl

line_said : (line : List ℕ) (triggered : Bool) → is_trigger (take 5 line) ≡ triggered → LineSays line (spoken_by (cond triggered (Some (trim (drop 5 line))) None))
line_said line true is =
    subst (λ whole. LineSays whole (body_says (trim (drop 5 line)))) (take-append-drop 5 line)
    (a_command_line (take 5 line) (drop 5 line) _ (trigger_takes (take 5 line) is) (body_said (trim (drop 5 line)) _ refl))
line_said line false is =
    a_remark line (λ trigger rest triggers whole. let
    front : take 5 line ≡ trigger = ap (take 5) whole ∙ begins trigger rest triggers in
    cc (is, ap is_trigger front, trigger_again trigger triggers))

remarked : (line : List ℕ) (triggered : Bool) → is_trigger (take 5 line) ≡ triggered → ((trigger rest : List ℕ) → IsTrigger trigger → line ≡ trigger ++ rest → ⊥)
    → [] ≡ spoken_by (cond triggered (Some (trim (drop 5 line))) None)
remarked line true is none = absurd (none (take 5 line) (drop 5 line) (trigger_takes (take 5 line) is) (sym (take-append-drop 5 line)))
remarked line false is none = refl

line_only : (line : List ℕ) (spoken : List Spoken) → LineSays line spoken → spoken ≡ spoken_by (body_of line)
line_only line spoken (a_command_line trigger rest said triggers says) =
    body_only (trim rest) said says ∙ ap spoken_by (sym (commanded trigger rest triggers))
line_only line spoken (a_remark remark none) = remarked remark _ refl none

-- COMMENTS
lines_said : (lines : List (List ℕ)) → LinesSay lines (flat_map line_says lines)
lines_said [] = refl
lines_said (line ∷ lines) = (line_says line, flat_map line_says lines, line_said (strip_carriage_return line) _ refl, lines_said lines, refl)

lines_only : (lines : List (List ℕ)) (spoken : List Spoken) → LinesSay lines spoken → spoken ≡ flat_map line_says lines
lines_only [] spoken says = says
lines_only (line ∷ lines) spoken says =
    says.4 ∙ ap (λ (first : List Spoken). first ++ says.1) (line_only (strip_carriage_return line) says.0 says.2)
    ∙ ap (λ (others : List Spoken). line_says line ++ others) (lines_only lines says.1 says.3)

-- what the reading gives is in the grammar
pub comment_said : (text : List ℕ) → CommentSays text (comment_says text)
unfolding comment_says
comment_said text = lines_said _

-- and nothing else is
pub comment_only : (text : List ℕ) (spoken : List Spoken) → CommentSays text spoken → spoken ≡ comment_says text
unfolding comment_says
comment_only text spoken says = lines_only _ spoken says
