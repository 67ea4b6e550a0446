-- Items in another order, or fewer: their keys are apart if they were.
use Rattle.std.proofs.Common.{◌≢◌, List, [], ◌∷◌, Bool, true, false, cond, filter, IsPermutation, sym}
use Rattle.std.specs.List.{AllByRecursion}
use Rattle.gate_tables.specs.Contents.{AreSame}
use Rattle.gate_tables.specs.Apart.{AreApartBy}
use Rattle.gate_tables.specs.Differences.{HaveKeys}
use Rattle.gate_tables.specs.declared.row.Rows.{Rows}
use Rattle.sqlite_trees.proofs.ListLemmas.{along_permutation}
pub use Rattle.sqlite_trees.proofs.ListLemmas.{IsPermutation-flat_map}

module _ {X K : Type 0} (key : X → K) where
  -- items of which none has a key
  abbrev Lack : K → List X → Type 0
  Lack k xs = AllByRecursion (λ x. key x ≢ k) xs

  record Keep (xs ys : List X) : Type 0 where
    lack : (k : K) → Lack k xs → Lack k ys
    apart : AreApartBy key xs → AreApartBy key ys

  pub apart_moved : (xs ys : List X) → IsPermutation xs ys → AreApartBy key xs → AreApartBy key ys
  apart_moved xs ys moved = (along_permutation Keep
      (λ xs. record { lack = λ k all. all; apart = λ apart. apart })
      (λ x xs ys keep. record { lack = λ k all. (all.0, keep.lack k all.1); apart = λ apart. (keep.lack (key x) apart.0, keep.apart apart.1) })
      (λ x y xs. record { lack = λ k all. (all.1.0, (all.0, all.1.1)); apart = λ apart. (((λ same. apart.0.0 (sym same)), apart.1.0), (apart.0.1, apart.1.1)) })
      (λ xs ys zs one other. record { lack = λ k all. other.lack k (one.lack k all); apart = λ apart. other.apart (one.apart apart) })
      xs ys moved).apart

  lack_filtered : (p : X → Bool) (k : K) (xs : List X) → Lack k xs → Lack k (filter p xs)
  lack_filtered p k [] all = tt
  lack_filtered p k (x ∷ xs) all = by (p x) (lack_filtered p k xs all.1) where
    by : (b : Bool) → Lack k (filter p xs) → Lack k (cond b (x ∷ filter p xs) (filter p xs))
    by true rest = (all.0, rest)
    by false rest = rest

  pub apart_filtered : (p : X → Bool) (xs : List X) → AreApartBy key xs → AreApartBy key (filter p xs)
  apart_filtered p [] apart = tt
  apart_filtered p (x ∷ xs) apart = by (p x) (apart_filtered p xs apart.1) where
    by : (b : Bool) → AreApartBy key (filter p xs) → AreApartBy key (cond b (x ∷ filter p xs) (filter p xs))
    by true rest = (lack_filtered p (key x) xs apart.0, rest)
    by false rest = rest

-- their rows in another order
pub keys_moved : (a b : Rows) → AreSame a b → HaveKeys a → HaveKeys b
keys_moved a b same keys = search apart_moved
