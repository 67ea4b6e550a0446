-- The changes of a desk after one of them was altered, or many.
use Rattle.std.proofs.Common.{◌≡◌, ℕ, Bool, true, false, cond, not, ◌&&◌, ◌||◌, List, [], ◌∷◌, Option, Some, eqb, refl, sym, ◌∙◌, ap, arith}
use Rattle.std.proofs.lemmas.Bool.Decides.{Decides-eqb, nat_tests}
use Rattle.std.specs.Cmp.{nat_cmp_total, unsigned_ties}
use Rattle.std.specs.FinMap as finite
use Rattle.std.specs.FinMap.{FinMap, get-insert, nat_cmp-IsAntisymmetric, same_map}
use Rattle.std.specs.Ordering.{nat_cmp}
use Rattle.std.specs.List.{list_any}
use Rattle.std.specs.Option.{option_map, option_map_or}
use Rattle.gate_queue.specs.Vocabulary.{SettingsView, Look, DeskView, with_change, without_approval, look, Change}
use Rattle.gate_queue.specs.Machine.{with_altered, altered, lone_altered, all_altered, opened, unless_against}
use Rattle.gate_queue.proofs.Choosing.{by_option}

pub same_number : (c number : ℕ) → eqb c number ≡ true → c ≡ number
same_number c number is = (Decides-eqb c number).0 is

pub get-with_change : (desk : DeskView) (number : ℕ) (change : Change) (c : ℕ)
    → finite.get (with_change desk number change).changes c ≡ cond (eqb c number) (Some change) (finite.get desk.changes c)
get-with_change desk number change c =
    get-insert nat_cmp_total desk.changes number change c ∙ ap (λ (b : Bool). cond b (Some change) (finite.get desk.changes c)) (sym (unsigned_ties c number))

-- what is put where it stands already changes nothing
pub same_change : (desk : DeskView) (number : ℕ) (change : Change) → finite.get desk.changes number ≡ Some change → with_change desk number change ≡ desk
same_change desk number change had = ap (λ (changes : FinMap nat_cmp Change). record desk { changes = changes }) (same_map nat_cmp_total nat_cmp-IsAntisymmetric _ _ (λ c.
    get-with_change desk number change c ∙ grind (arith, nat_tests, had)))

altered_at : (desk : DeskView) (number : ℕ) (alter : Change → Change) (c : ℕ)
    → finite.get (altered desk number alter).changes c ≡ cond (eqb c number) (option_map alter (finite.get desk.changes c)) (finite.get desk.changes c)
altered_at desk number alter c = grind (arith, nat_tests, λ (change : Change). get-with_change desk number (alter change) c)

-- what the rules read if a change was altered
pub altered_look : (desk : DeskView) (number : ℕ) (alter : Change → Change)
    → look (altered desk number alter) ≡ record (look desk) { change = λ c. cond (eqb c number) (option_map alter ((look desk).change c)) ((look desk).change c) }
altered_look desk number alter =
    by_option (λ had. finite.get desk.changes number ≡ had → look (with_altered desk number (option_map alter had)) ≡ record (look desk) { change = λ c. finite.get (with_altered desk number (option_map alter had)).changes c })
    (λ is. refl) (λ change is. refl) (finite.get desk.changes number) refl
    ∙ (λ i. record (look desk) { change = λ c. altered_at desk number alter c i })

-- and where one was opened
pub opened_at : (desk : DeskView) (number : ℕ) (author head : List ℕ) (c : ℕ)
    → finite.get (with_change desk number (opened author head (finite.get desk.changes number))).changes c
    ≡ cond (eqb c number) (Some (opened author head (finite.get desk.changes c))) (finite.get desk.changes c)
opened_at desk number author head c =
    get-with_change desk number (opened author head (finite.get desk.changes number)) c ∙ grind (arith, nat_tests)

-- THE ONE that was altered or opened, and each other
at_itself : {X : Type 0} (n : ℕ) (here elsewhere : X) → cond (eqb n n) here elsewhere ≡ here
at_itself n here elsewhere = ap (λ (b : Bool). cond b here elsewhere) ((Decides-eqb n n).1 refl)

pub altered_here : (desk : DeskView) (number : ℕ) (alter : Change → Change) → finite.get (altered desk number alter).changes number ≡ option_map alter (finite.get desk.changes number)
altered_here desk number alter = altered_at desk number alter number ∙ at_itself number _ _

pub altered_elsewhere : (desk : DeskView) (number : ℕ) (alter : Change → Change) (c : ℕ) → eqb c number ≡ false → finite.get (altered desk number alter).changes c ≡ finite.get desk.changes c
altered_elsewhere desk number alter c differs = altered_at desk number alter c ∙ rw differs refl

pub opened_here : (desk : DeskView) (number : ℕ) (author head : List ℕ)
    → finite.get (with_change desk number (opened author head (finite.get desk.changes number))).changes number ≡ Some (opened author head (finite.get desk.changes number))
opened_here desk number author head = opened_at desk number author head number ∙ at_itself number _ _

pub opened_elsewhere : (desk : DeskView) (number : ℕ) (author head : List ℕ) (c : ℕ) → eqb c number ≡ false
    → finite.get (with_change desk number (opened author head (finite.get desk.changes number))).changes c ≡ finite.get desk.changes c
opened_elsewhere desk number author head c differs = opened_at desk number author head c ∙ rw differs refl

-- Settings that may end an approval leave of a change what the end of an approval leaves.
pub against_same : {X : Type 0} (seen : Change → X) → ((c : Change) → seen (without_approval c) ≡ seen c) → (against : SettingsView → Change → Bool) (settings : Option SettingsView) (c : Change)
    → seen (unless_against against settings c) ≡ seen c
against_same seen same against settings c = grind (arith, same c)

-- MANY CHANGES altered, by an alteration that does nothing more the second time
pub all_look : (alter : Change → Change) → ((change : Change) → alter (alter change) ≡ alter change) → (changes : List ℕ) (desk : DeskView)
    → look (all_altered alter desk changes)
    ≡ record (look desk) { change = λ c. cond (list_any (eqb c) changes) (option_map alter (finite.get desk.changes c)) (finite.get desk.changes c) }
all_look alter same [] desk = refl
all_look alter same (n ∷ changes) desk =
    all_look alter same changes (altered desk n alter)
    ∙ ap (λ (s : Look). record s { change = λ c. cond (list_any (eqb c) changes) (option_map alter (s.change c)) (s.change c) }) (altered_look desk n alter)
    ∙ (λ i. record (look desk) { change = λ c. step (eqb c n) (list_any (eqb c) changes) (finite.get desk.changes c) i }) where
      step : (here rest : Bool) (had : Option Change)
          → cond rest (option_map alter (cond here (option_map alter had) had)) (cond here (option_map alter had) had) ≡ cond (here || rest) (option_map alter had) had
      step here rest had = grind (arith, same)

-- THE ONE CHANGE of a batch that has no other is altered.
module _ (alter : Change → Change) (desk : DeskView) (one : Option ℕ) where
  abbrev is_one : ℕ → Bool
  is_one c = option_map_or (λ n. eqb c n) one false

  pub lone_at : (c : ℕ) → finite.get (lone_altered alter desk one).changes c ≡ cond (is_one c) (option_map alter (finite.get desk.changes c)) (finite.get desk.changes c)
  lone_at c = grind (arith, λ (n : ℕ). altered_at desk n alter c)

  pub lone_rest : ((lone_altered alter desk one).settings ≡ desk.settings) × ((lone_altered alter desk one).clock ≡ desk.clock)
  lone_rest = grind arith

  -- what the alteration leaves of each change stays
  pub lone_same : {X : Type 0} (of : Change → X) (none : X) → ((change : Change) → of (alter change) ≡ of change) → (c : ℕ)
      → option_map_or of (finite.get (lone_altered alter desk one).changes c) none ≡ option_map_or of (finite.get desk.changes c) none
  lone_same of none same c = ap (λ (o : Option Change). option_map_or of o none) (lone_at c) ∙ grind (arith, same)

  -- and what it ends, it ends of the one change
  pub lone_ends : (of : Change → Bool) → ((change : Change) → of (alter change) ≡ false) → (c : ℕ)
      → option_map_or of (finite.get (lone_altered alter desk one).changes c) false ≡ (not (is_one c) && option_map_or of (finite.get desk.changes c) false)
  lone_ends of ended c = ap (λ (o : Option Change). option_map_or of o false) (lone_at c) ∙ grind (arith, ended)
