-- What a test or an option that gave something says of its parts.
use Rattle.std.proofs.Common.{◌≡◌, Bool, true, false, cond, ◌||◌, ◌⊎◌, inl, inr, Option, Some, None, refl}
use Rattle.std.specs.Option.{option_map, option_and_then, option_or}

-- what a test chose
pub chosen : {X : Type 0} (b : Bool) {x y z : X} → cond b x y ≡ z → ((b ≡ true) × (x ≡ z)) ⊎ ((b ≡ false) × (y ≡ z))
chosen true is = inl (refl, is)
chosen false is = inr (refl, is)

pub either : (b c : Bool) → b || c ≡ true → (b ≡ true) ⊎ (c ≡ true)
either true c is = inl refl
either false c is = inr is

-- which of two options gave the value
pub first_given : {X : Type 0} (x y : Option X) {z : X} → option_or x y ≡ Some z → (x ≡ Some z) ⊎ (y ≡ Some z)
first_given (Some w) y is = inl is
first_given None y is = inr is

-- what a mapped option held
pub mapped : {X Y : Type 0} (f : X → Y) (x : Option X) {y : Y} → option_map f x ≡ Some y → (w : X) × (x ≡ Some w) × (f w ≡ y)
mapped f (Some w) is = (w, refl, cc is)
mapped f None is = cc is

-- what the first of two steps gave to the second
pub bound : {X Y : Type 0} (f : X → Option Y) (x : Option X) {y : Y} → option_and_then f x ≡ Some y → (w : X) × (x ≡ Some w) × (f w ≡ Some y)
bound f (Some w) is = (w, refl, is)
bound f None is = cc is
