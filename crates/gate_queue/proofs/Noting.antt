-- What is noted of a state before acts change it.
use Rattle.std.proofs.Common.{◌≡◌, ◌<◌, ◌≤◌, ℕ, ltb, Bool, true, false, List, Option, None, is_some, refl, sym, subst, arith}
use Rattle.std.proofs.lemmas.Bool.Decides.{nat_tests}
use Rattle.std.proofs.lemmas.Slice.Eq.{bytes_eq-Decides}
use Rattle.std.specs.Cmp.{IsTotalOrder, eq_by_cmp_equiv, nat_cmp_total}
use Rattle.std.specs.Cmp.Lexicographic.{nat_list_cmp_total}
use Rattle.std.specs.FinMap as finite
use Rattle.std.specs.FinMap.{FinMap, IsAntisymmetric, get-empty, get-insert, nat_cmp-IsAntisymmetric, slice_cmp-IsAntisymmetric}
use Rattle.std.specs.Ordering.{is_eq, nat_cmp}
use Rattle.std.specs.declared.cmp.Ordering.{Ordering}
use Rattle.std.specs.declared.cmp.Ordering.TheVariants.{Equal}
use Rattle.gate_queue.specs.Before.{Adds, HasNoted, IsBefore, Noted, NotesMore, Tells, noted_under, nothing_of, with_batch, with_change, with_person, with_settings}
use Rattle.gate_queue.specs.MayChange.{Parts, Untouched, of_person}
use Rattle.gate_queue.specs.Vocabulary.{State}
use Rattle.gate_state.specs.Queue.{batch_numbered}
use Rattle.gate_queue.proofs.Choosing.{either_way}

pub equal_is : (o : Ordering) → is_eq o ≡ true → o ≡ Equal
equal_is o is = grind arith

-- ONE PLACE of what is noted
module _ {X : Type 0} where
  adds_nothing : (noted : Option X) (now : X) → Adds noted noted now
  adds_nothing noted now = grind arith

  adds_more : (a b c : Option X) (now : X) → Adds a b now → Adds b c now → Adds a c now
  adds_more a b c now first second = grind arith

  pub still_noted : (a b : Option X) (now : X) → Adds a b now → is_some a ≡ true → is_some b ≡ true
  still_noted a b now adds some = grind arith

  -- what is noted of the state that there is, on top of what tells of it, tells of it too
  tells_more : (a b : Option X) (old now : X) → Tells a old now → Adds a b now → Tells b old now
  tells_more a b old now tells adds = grind arith

  -- and still tells after something has changed, if that was noted
  tells_after : (a : Option X) (old now new : X) → Tells a old now → (b : Bool) → (b ≡ true → is_some a ≡ true) → (b ≡ false → new ≡ now) → Tells a old new
  tells_after a old now new tells b noted same = grind arith

-- UNDER A KEY
module _ {K X : Type 0} {cmp : K → K → Ordering} (total : IsTotalOrder cmp) (exact : IsAntisymmetric cmp) where
  under_adds : (now : K → X) (m : FinMap cmp X) (k q : K) → Adds (finite.get m q) (finite.get (noted_under m k (now k)) q) (now q)
  under_adds now m k q = grind (arith, get-insert total m k (now k) q, exact q k, equal_is (cmp q k))

  under_has : (m : FinMap cmp X) (k : K) (now : X) → is_some (finite.get (noted_under m k now) k) ≡ true
  under_has m k now = grind (arith, get-insert total m k now k, (eq_by_cmp_equiv total).refl k)

-- what is noted already stays, and what isn't is put
pub noted_there : {K X : Type 0} {cmp : K → K → Ordering} (m : FinMap cmp X) (k : K) (now : X) → is_some (finite.get m k) ≡ true → m ≡ noted_under m k now
noted_there m k now is = rw is

pub noted_new : {K X : Type 0} {cmp : K → K → Ordering} (m : FinMap cmp X) (k : K) (now : X) → is_some (finite.get m k) ≡ false → finite.insert m k now ≡ noted_under m k now
noted_new m k now is = rw is

-- MORE AND MORE
pub more_itself : (s : State) (a : Noted) → NotesMore s a a
more_itself s a = search adds_nothing

pub more_then : (s : State) (a b c : Noted) → NotesMore s a b → NotesMore s b c → NotesMore s a c
more_then s a b c one other = grind (arith, adds_more)

-- BEFORE ACTS
untold : {X : Type 0} (a : Option X) (now : X) → a ≡ None → Tells a now now
untold a now none = subst (λ o. Tells o now now) (sym none) refl

pub nothing_before : (s : State) → IsBefore (nothing_of s) s s
nothing_before s = search (untold, get-empty, arith)

pub before_more : (a b : Noted) (old s : State) → IsBefore a old s → NotesMore s a b → IsBefore b old s
before_more a b old s before more = grind (arith, tells_more)

pub before_after : (a : Noted) (may : Parts) (old s t : State) → IsBefore a old s → HasNoted may a → Untouched may s t → IsBefore a old t
before_after a may old s t before has untouched = grind (arith, tells_after)

-- ONE PART MORE
pub person_more : (s : State) (a : Noted) (name : List ℕ) → NotesMore s a (with_person name s a)
person_more s a name =
    search (adds_nothing, under_adds nat_list_cmp_total (slice_cmp-IsAntisymmetric nat_cmp-IsAntisymmetric) (λ x. finite.get s.desk.roles x) a.people name)

pub person_noted : (s : State) (a : Noted) (name : List ℕ) → HasNoted (of_person name) (with_person name s a)
person_noted s a name = record {
  people = λ n so. subst (λ x. is_some (finite.get (with_person name s a).people x) ≡ true) (sym ((bytes_eq-Decides n name).0 so))
      (under_has nat_list_cmp_total (slice_cmp-IsAntisymmetric nat_cmp-IsAntisymmetric) a.people name (finite.get s.desk.roles name));
  changes = λ number so. cc so;
  batches = λ number below so. cc so;
  settings = λ so. cc so;
}

pub change_more : (s : State) (a : Noted) (number : ℕ) → NotesMore s a (with_change number s a)
change_more s a number = search (adds_nothing, under_adds nat_cmp_total nat_cmp-IsAntisymmetric (λ n. finite.get s.desk.changes n) a.changes number)

pub change_has : (s : State) (a : Noted) (number : ℕ) → is_some (finite.get (with_change number s a).changes number) ≡ true
change_has s a number = under_has nat_cmp_total nat_cmp-IsAntisymmetric a.changes number (finite.get s.desk.changes number)

-- a batch that isn't new
module _ (s : State) (a : Noted) (number : ℕ) where
  abbrev with_this : Noted
  with_this = record a { batches = noted_under a.batches number (batch_numbered number s.queue) }

  pub batch_more : NotesMore s a (with_batch number s a)
  batch_more = either_way (NotesMore s a) (ltb number a.next) with_this a
      (λ below. search (adds_nothing, another below, under_adds nat_cmp_total nat_cmp-IsAntisymmetric (λ m. batch_numbered m s.queue) a.batches number)) (λ above. more_itself s a) where
        another : ltb number a.next ≡ true → (n : ℕ) → a.next ≤ n → finite.get with_this.batches n ≡ finite.get a.batches n
        another below n above = grind (arith, nat_tests, get-insert nat_cmp_total a.batches number (batch_numbered number s.queue) n, nat_cmp-IsAntisymmetric n number, equal_is (nat_cmp n number))

  -- a new one isn't noted
  pub batch_new : a.next ≤ number → a ≡ with_batch number s a
  batch_new above = let new : ltb number a.next ≡ false = grind (arith, nat_tests) in rw new

  pub batch_old : number < a.next → with_this ≡ with_batch number s a
  batch_old below = let old : ltb number a.next ≡ true = grind (arith, nat_tests) in rw old

  pub batch_has : number < a.next → is_some (finite.get (with_batch number s a).batches number) ≡ true
  batch_has below = subst (λ noted. is_some (finite.get noted.batches number) ≡ true) (batch_old below) (under_has nat_cmp_total nat_cmp-IsAntisymmetric a.batches number (batch_numbered number s.queue))

pub settings_more : (s : State) (a : Noted) → NotesMore s a (with_settings s a)
settings_more s a = let settings : Adds a.settings (with_settings s a).settings s.desk.settings = grind arith in search (adds_nothing, settings)

pub settings_has : (s : State) (a : Noted) → is_some (with_settings s a).settings ≡ true
settings_has s a = grind arith
