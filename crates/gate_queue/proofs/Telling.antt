-- THE OPEN CHANGES AT A HEAD, told of a status one by one.
use Rattle.std.proofs.Common.{◌≡◌, ℕ, Bool, false, cond, List, [], ◌∷◌, Option, refl, sym, ◌∙◌, ap, arith}
use Rattle.std.specs.Cmp.{nat_cmp_total}
use Rattle.std.specs.Cmp.Lexicographic.{nat_list_cmp_total}
use Rattle.std.specs.FinMap as finite
use Rattle.std.specs.FinMap.{FinMap, nat_cmp-IsAntisymmetric, slice_cmp-IsAntisymmetric, same_map}
use Rattle.std.specs.FinSet as set
use Rattle.std.specs.List.{list_any}
use Rattle.std.specs.Option.{option_map, option_map_or}
use Rattle.std.specs.Ordering.{nat_cmp}
use Rattle.gate_text.specs.Finite.{get-mapped}
use Rattle.gate_queue.specs.Vocabulary.{Look, Texts, DeskView, is_open_at, is_open_head, with_told, Change}
use Rattle.gate_rules.specs.View.{AreOpenAt, with_status, told_at}
use Rattle.gate_queue.specs.Machine.{altered, all_altered}
use Rattle.gate_queue.proofs.Changes.{all_look}

-- WHAT IS SAID A SECOND TIME says no more.
put_again : (s : Texts) (name : List ℕ) → set.insert (set.insert s name) name ≡ set.insert s name
put_again s name = set.same_set nat_list_cmp_total (slice_cmp-IsAntisymmetric nat_cmp-IsAntisymmetric) _ _
    (λ q. grind (arith, set.contains-insert nat_list_cmp_total (set.insert s name) name q, set.contains-insert nat_list_cmp_total s name q))

taken_again : (s : Texts) (name : List ℕ) → set.remove (set.remove s name) name ≡ set.remove s name
taken_again s name = set.same_set nat_list_cmp_total (slice_cmp-IsAntisymmetric nat_cmp-IsAntisymmetric) _ _
    (λ q. grind (arith, set.contains-remove nat_list_cmp_total (set.remove s name) name q, set.contains-remove nat_list_cmp_total s name q))

said_again : (name : List ℕ) (success : Bool) (change : Change) → with_status name success (with_status name success change) ≡ with_status name success change
said_again name success change = grind (arith, put_again change.passed name, taken_again change.passed name)

-- THE REST OF THE DESK stays when changes are altered.
altered_rest : (alter : Change → Change) (desk : DeskView) (n : ℕ) → altered desk n alter ≡ record desk { changes = (altered desk n alter).changes }
altered_rest alter desk n = grind arith

all_rest : (alter : Change → Change) (numbers : List ℕ) (desk : DeskView) → all_altered alter desk numbers ≡ record desk { changes = (all_altered alter desk numbers).changes }
all_rest alter [] desk = refl
all_rest alter (n ∷ numbers) desk =
    all_rest alter numbers (altered desk n alter)
    ∙ ap (λ (d : DeskView). record d { changes = (all_altered alter (altered desk n alter) numbers).changes }) (altered_rest alter desk n)

module _ (head name : List ℕ) (success : Bool) (desk : DeskView) where
  abbrev told : Change → Change
  told = told_at head name success

  told_if : (had : Option Change) → cond (option_map_or (is_open_at head) had false) (option_map (with_status name success) had) had ≡ option_map told had
  told_if had = grind arith

  pub told_all : (numbers : List ℕ) → AreOpenAt head desk numbers → all_altered (with_status name success) desk numbers ≡ with_told head name success desk
  told_all numbers are =
      all_rest (with_status name success) numbers desk
      ∙ ap (λ (changes : FinMap nat_cmp Change). record desk { changes = changes }) (same_map nat_cmp_total nat_cmp-IsAntisymmetric _ _ (λ c.
      ap (λ (l : Look). l.change c) (all_look (with_status name success) (said_again name success) numbers desk)
      ∙ ap (λ (b : Bool). cond b (option_map (with_status name success) (finite.get desk.changes c)) (finite.get desk.changes c)) (are c)
      ∙ told_if (finite.get desk.changes c)
      ∙ sym (get-mapped nat_cmp told nat_cmp_total desk.changes c)))

  -- If no open change has the head, none is told.
  none_open : (c : ℕ) (entries : List (ℕ × Change)) → list_any (λ (entry : ℕ × Change). is_open_at head entry.1) entries ≡ false
      → option_map_or (is_open_at head) (finite.find nat_cmp c entries) false ≡ false
  none_open c [] none = refl
  none_open c (entry ∷ entries) none = grind (arith, none_open c entries)

  pub told_none : is_open_head head desk ≡ false → with_told head name success desk ≡ desk
  told_none none = ap (λ (changes : FinMap nat_cmp Change). record desk { changes = changes }) (same_map nat_cmp_total nat_cmp-IsAntisymmetric _ _ (λ c.
      get-mapped nat_cmp told nat_cmp_total desk.changes c
      ∙ untold c (ap (λ (had : Option Change). option_map_or (is_open_at head) had false) (finite.get-entries desk.changes c) ∙ none_open c (finite.entries desk.changes) none))) where
        untold : (c : ℕ) → option_map_or (is_open_at head) (finite.get desk.changes c) false ≡ false → option_map told (finite.get desk.changes c) ≡ finite.get desk.changes c
        untold c other = grind arith
