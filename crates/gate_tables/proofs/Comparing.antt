-- A test that each item passes.
use Rattle.std.proofs.Common.{◌≡◌, true, false, Bool, List, [], ◌∷◌, refl}
use Rattle.std.specs.List.{list_all}
use Rattle.gate_tables.specs.Plain.{is_none}

pub all_pass : {A : Type 0} (passes : A → Bool) → ((x : A) → passes x ≡ true) → (xs : List A) → list_all passes xs ≡ true
all_pass passes each [] = refl
all_pass passes each (x ∷ xs) = rw (each x) (all_pass passes each xs)

-- of items that are always plain, all are
pub all_plain : {A : Type 0} → (xs : List A) → list_all (λ _. true) xs ≡ true
all_plain = all_pass _ (λ _. refl)

-- of items that are never plain, all are if there is none
pub none_plain : {A : Type 0} → (xs : List A) → is_none xs ≡ true → list_all (λ _. false) xs ≡ true
none_plain [] none = refl
none_plain (x ∷ xs) none = none
