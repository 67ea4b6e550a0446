-- What holds of each case holds of all: of both ends of a choice, of both truth values, of nothing and of something.
use Rattle.std.proofs.Common.{◌≡◌, Bool, true, false, if◌then◌else◌, Option, Some, None, refl}

pub either_way : {X : Type 0} (P : X → Type 0) (b : Bool) (x y : X) → (b ≡ true → P x) → (b ≡ false → P y) → P (if b then x else y)
either_way P true x y so other = so refl
either_way P false x y so other = other refl

pub by_bool : (P : Bool → Type 0) → P true → P false → (b : Bool) → P b
by_bool P so other true = so
by_bool P so other false = other

pub by_option : {X : Type 0} (P : Option X → Type 0) → P None → ((x : X) → P (Some x)) → (it : Option X) → P it
by_option P none some None = none
by_option P none some (Some x) = some x
