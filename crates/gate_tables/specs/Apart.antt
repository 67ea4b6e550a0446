-- ITEMS WITH KEYS OF THEIR OWN
use Rattle.std.specs.Prelude.{◌≢◌, List, [], ◌∷◌}
use Rattle.std.specs.List.{AllByRecursion}

-- No later item has the key of an earlier one.
abbrev pub AreApartBy : {X K : Type 0} → (X → K) → List X → Type 0
AreApartBy key [] = Unit {0}
AreApartBy key (x ∷ xs) = AllByRecursion (λ y. key y ≢ key x) xs × AreApartBy key xs
