-- Lines that are told one after the other.
use Rattle.std.proofs.Common.{◌≡◌, ◌⊎◌, ◌<◌, ℕ, false, List, [], ◌∷◌, ◌++◌, length, Option, None, Some, IfSome, refl, sym, ◌∙◌, ap, subst, inl, inr, take, append_assoc, append-nil}
use Rattle.std.proofs.BufReadLemmas.{take_through_nonempty}
use Rattle.std.proofs.KnownBytes.{Appends-trans}
use Rattle.std.specs.Io.BufRead.{drop_through, strip_last, take_through}
use Rattle.std.specs.Io.{StopsAt, appended_bytes}
use Rattle.std.specs.Io.KnownBytes.{Appends, IsAtEnd}
use Rattle.std.proofs.lemmas.List.Elements.{All-append, All-cons, All-nil}
use Rattle.std.specs.List.{All}
use Rattle.gate_guard_lines.proofs.Splitting.{first_line_of, joined, lines_joined}
use Rattle.gate_guard_lines.specs.Lines.{ActsOn, IsInputOf, StopsAmong, StopsWith, line_told, lines_told}
use Rattle.gate_guard_lines.specs.Serving.{AreFirst, IsPlain, StaysKnown, TellsLines}
use Rattle.gate_hook.proofs.Progress.{after_lines-append, room-push}
use Rattle.gate_hook.specs.Lines.{NoLineMeetsFull, after_line, after_lines, line_meets_full, lines_of}
use Rattle.gate_hook.specs.Sending.{IsCutOff}
use Rattle.gate_hook.specs.declared.fault.HookFault.{HookFault}
use Rattle.gate_hook.specs.declared.fault.HookFault.TheVariants.{Gate, Write}
use Rattle.gate_queue.specs.declared.fault.Fault.{Fault}
use Rattle.gate_store.specs.Run.{Records}

told_both : (records : Records) (lines others : List (List ℕ)) → lines_told records (lines ++ others) ≡ lines_told records lines ++ lines_told (after_lines records lines) others
told_both records [] others = refl
told_both records (line ∷ lines) others =
    ap (λ (text : List ℕ). (line_told records line ++ 10 ∷ []) ++ text) (told_both (after_line records line) lines others)
    ∙ sym (append_assoc (line_told records line ++ 10 ∷ []) (lines_told (after_line records line) lines) (lines_told (after_lines (after_line records line) lines) others))

pub nothing : (contents : Option (List ℕ)) → Appends contents contents []
nothing None = tt
nothing (Some bytes) = sym (append-nil bytes)

pub known_yet : (all : Option (List ℕ)) → StaysKnown all all
known_yet None = tt
known_yet (Some input) = (input, refl)

-- with bytes that are known
pub with_known : {P Q : List ℕ → Type 0} (all : Option (List ℕ)) → ((input : List ℕ) → all ≡ Some input → P input → Q input) → IfSome all P → IfSome all Q
with_known None goes known = tt
with_known (Some input) goes known = goes input refl known

-- what a read of one line left is known
pub known_next : (all left next : Option (List ℕ)) → StaysKnown all left → IfSome left (λ xs. next ≡ Some (drop_through 10 xs)) → StaysKnown all next
known_next all left next known dropped =
    with_known all (λ input is (rest, at). (drop_through 10 rest, subst (λ (these : Option (List ℕ)). IfSome these (λ xs. next ≡ Some (drop_through 10 xs))) at dropped)) known

-- what was read into an empty buffer
pub only_read : (left : Option (List ℕ)) (was read : List ℕ) → was ≡ [] → IfSome left (λ xs. read ≡ was ++ take_through 10 xs) → IfSome left (λ xs. read ≡ take_through 10 xs)
only_read left was read empty so = with_known left (λ xs is at. at ∙ ap (λ (front : List ℕ). front ++ take_through 10 xs) empty) so

pub only_stops : (was read : List ℕ) → was ≡ [] → StopsAt (appended_bytes was read) 10 → StopsAt read 10
only_stops was read empty stops = subst (λ (front : List ℕ). StopsAt (appended_bytes front read) 10) empty stops

-- NOTHING is told yet.
none_first : (all : Option (List ℕ)) → IfSome all (λ input. AreFirst [] input all)
none_first None = tt
none_first (Some input) = (input, refl, refl)

pub none_yet : (records : Records) (all contents : Option (List ℕ)) → TellsLines records records all all contents contents
none_yet records all contents = record { lines = []; plain = All-nil IsPlain; first = none_first all; records = refl; room = tt; written = nothing contents }

module _ (old now : Records) (all left before mid : Option (List ℕ)) (told : TellsLines old now all left before mid) where
  -- ALL ARE TOLD, if nothing is left. If the bytes aren't known, the input is made of these lines.
  ended_input : IsAtEnd left → (all : Option (List ℕ)) → IfSome all (λ input. AreFirst told.lines input left) → (input : List ℕ) × IsInputOf all input × (lines_of input ≡ told.lines)
  ended_input ended None known = (joined told.lines, tt, lines_joined told.lines told.plain)
  ended_input ended (Some input) (rest, at, first) = (input, refl, first ∙ ap (λ (these : List ℕ). told.lines ++ lines_of these) (subst IsAtEnd at ended) ∙ append-nil told.lines)

  pub all_told : IsAtEnd left
      → (input : List ℕ) × IsInputOf all input × ((now ≡ after_lines old (lines_of input)) × NoLineMeetsFull old (lines_of input) × Appends before mid (lines_told old (lines_of input)))
  all_told ended =
      let (input, of_all, lines) = ended_input ended all told.first in (
        input,
        of_all,
        (
          told.records ∙ ap (after_lines old) (sym lines),
          subst (NoLineMeetsFull old) (sym lines) told.room,
          subst (λ (these : List (List ℕ)). Appends before mid (lines_told old these)) (sym lines) told.written,
        ),
      )

  -- A FAULT BEFORE THE NEXT LINE
  before_input : (all : Option (List ℕ)) → IfSome all (λ input. AreFirst told.lines input left) → (input : List ℕ) × IsInputOf all input × (others : List (List ℕ)) × (lines_of input ≡ told.lines ++ others)
  before_input None known = (joined told.lines, tt, [], lines_joined told.lines told.plain ∙ sym (append-nil told.lines))
  before_input (Some input) (rest, at, first) = (input, refl, lines_of rest, first)

  pub stops_before : (fault : HookFault) → ((others : List (List ℕ)) → StopsWith fault (after_lines old told.lines) now others []) → (input : List ℕ) × IsInputOf all input × StopsAmong fault old now input before mid
  stops_before fault stops =
      let (input, of_all, others, first) = before_input all told.first in (
        input,
        of_all,
        record {
          lines = told.lines;
          others = others;
          first = first;
          room = told.room;
          part = [];
          stops = stops others;
          written = subst (Appends before mid) (sym (append-nil (lines_told old told.lines))) told.written;
        },
      )

  -- ONE LINE more is read.
  module _ (new : Records) (next after : Option (List ℕ)) (read line : List ℕ) (is_read : IfSome left (λ xs. read ≡ take_through 10 xs)) (dropped : IfSome left (λ xs. next ≡ Some (drop_through 10 xs)))
      (some : 0 < length read) (stripped : line ≡ strip_last 10 read) (plain : IsPlain line) where
    one_plain : All IsPlain (told.lines ++ line ∷ [])
    one_plain = All-append IsPlain told.lines (line ∷ []) told.plain (All-cons IsPlain line [] plain (All-nil IsPlain))

    after_one : new ≡ after_line now line → new ≡ after_lines old (told.lines ++ line ∷ [])
    after_one is = is ∙ ap (λ (records : Records). after_line records line) told.records ∙ sym (after_lines-append old told.lines (line ∷ []))

    -- It is the first line of the bytes that are left.
    its_line : (rest : List ℕ) → left ≡ Some rest → lines_of rest ≡ line ∷ lines_of (drop_through 10 rest)
    its_line rest at =
        let read_so : read ≡ take_through 10 rest = subst (λ (these : Option (List ℕ)). IfSome these (λ xs. read ≡ take_through 10 xs)) at is_read in
        first_line_of rest (take_through_nonempty 10 rest (subst (λ (bytes : List ℕ). 0 < length bytes) read_so some))
        ∙ ap (λ (bytes : List ℕ). strip_last 10 bytes ∷ lines_of (drop_through 10 rest)) (sym read_so)
        ∙ ap (λ (first : List ℕ). first ∷ lines_of (drop_through 10 rest)) (sym stripped)

    first_next : (input : List ℕ) → AreFirst told.lines input left → AreFirst (told.lines ++ line ∷ []) input next
    first_next input (rest, at, first) = (
      drop_through 10 rest,
      subst (λ (these : Option (List ℕ)). IfSome these (λ xs. next ≡ Some (drop_through 10 xs))) at dropped,
      first ∙ ap (λ (others : List (List ℕ)). told.lines ++ others) (its_line rest at) ∙ sym (append_assoc told.lines (line ∷ []) (lines_of (drop_through 10 rest))),
    )

    -- none of them met a full gate
    one_room : line_meets_full now line ≡ false → NoLineMeetsFull old (told.lines ++ line ∷ [])
    one_room room =
        room-push old told.lines line told.room (ap (λ (records : Records). line_meets_full records line) (sym told.records) ∙ room)

    pub one_more : new ≡ after_line now line → line_meets_full now line ≡ false → Appends mid after (line_told now line ++ 10 ∷ []) → TellsLines old new all next before after
    one_more is room written = record {
      lines = told.lines ++ line ∷ [];
      plain = one_plain;
      first = with_known all (λ input is first. first_next input first) told.first;
      records = after_one is;
      room = one_room room;
      written =
          subst (Appends before after)
          (ap (λ (records : Records). lines_told old told.lines ++ (line_told records line ++ 10 ∷ [])) told.records
          ∙ ap (λ (text : List ℕ). lines_told old told.lines ++ text) (sym (append-nil (line_told (after_lines old told.lines) line ++ 10 ∷ [])))
          ∙ sym (told_both old told.lines (line ∷ [])))
          (Appends-trans before mid after (lines_told old told.lines) (line_told now line ++ 10 ∷ []) told.written written);
    }

    -- A FAULT AT IT
    at_input : (all : Option (List ℕ)) → IfSome all (λ input. AreFirst told.lines input left)
        → (input : List ℕ) × IsInputOf all input × (later : List (List ℕ)) × (lines_of input ≡ told.lines ++ line ∷ later)
    at_input None known = (joined (told.lines ++ line ∷ []), tt, [], lines_joined (told.lines ++ line ∷ []) one_plain)
    at_input (Some input) (rest, at, first) = (input, refl, lines_of (drop_through 10 rest), first ∙ ap (λ (others : List (List ℕ)). told.lines ++ others) (its_line rest at))

    -- It has acted, and is the next of these.
    abbrev acts_on : (later : List (List ℕ)) → new ≡ after_line now line → ActsOn (after_lines old told.lines) new (line ∷ later)
    acts_on later acted = record { next = line; later = later; comes = refl; acted = acted ∙ ap (λ (records : Records). after_line records line) told.records }

    pub stops_at : (fault : HookFault) (part : List ℕ) → ((later : List (List ℕ)) → StopsWith fault (after_lines old told.lines) new (line ∷ later) part) → Appends mid after part
        → (input : List ℕ) × IsInputOf all input × StopsAmong fault old new input before after
    stops_at fault part stops written =
        let (input, of_all, later, first) = at_input all told.first in (
          input,
          of_all,
          record {
            lines = told.lines;
            others = line ∷ later;
            first = first;
            room = told.room;
            part = part;
            stops = stops later;
            written = Appends-trans before mid after (lines_told old told.lines) part told.written written;
          },
        )

    -- of the gate: nothing of its text is written
    pub stops_at_gate : (fault : Fault) → (new ≡ now) ⊎ (new ≡ after_line now line) → Appends mid after [] → (input : List ℕ) × IsInputOf all input × StopsAmong (Gate fault) old new input before after
    stops_at_gate fault left_so written =
        stops_at (Gate fault) []
        (λ later. (
          elim left_so [
            | inl same ↦ inl (same ∙ told.records)
            | inr acted ↦ inr (acts_on later acted)
          ],
          refl,
        )) written

    -- of the writer: a part of its text is written
    pub stops_at_write : new ≡ after_line now line → IsCutOff (line_told now line ++ 10 ∷ []) mid after → (input : List ℕ) × IsInputOf all input × StopsAmong Write old new input before after
    stops_at_write acted (taken, few, written) =
        let text = line_told (after_lines old told.lines) line ++ 10 ∷ [] in
        let is : line_told now line ++ 10 ∷ [] ≡ text = ap (λ (records : Records). line_told records line ++ 10 ∷ []) told.records in
        stops_at Write (take taken text) (λ later. (acts_on later acted, (taken, subst (λ (bytes : List ℕ). taken < length bytes) is few, refl)))
        (subst (λ (bytes : List ℕ). Appends mid after (take taken bytes)) is written)
