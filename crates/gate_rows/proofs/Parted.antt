-- Two lists that are two first parts and the same others behind them, in any order.
use Rattle.std.proofs.Common.{List, [], ◌++◌, map, flat_map, IsPermutation, sym, subst}
use Rattle.std.proofs.lemmas.List.{append-nil, map-append}
use Rattle.std.proofs.lemmas.Grind.{flat_map-append}
use Rattle.std.proofs.lemmas.List.Sorted.{IsPermutation-map, IsPermutation-refl, IsPermutation-trans}
use Rattle.gate_tables.proofs.Moved.{IsPermutation-flat_map}

pub record Parted {X : Type 0} (then now old new : List X) : Type 0 where
  pub others : List X
  pub was : IsPermutation (then ++ others) old
  pub is : IsPermutation (now ++ others) new

module _ {X : Type 0} where
  -- the whole is the part
  pub all_parted : (old new : List X) → Parted old new old new
  all_parted old new = record {
    others = [];
    was = subst (λ xs. IsPermutation xs old) (sym (append-nil old)) (IsPermutation-refl old);
    is = subst (λ xs. IsPermutation xs new) (sym (append-nil new)) (IsPermutation-refl new);
  }

  -- nothing is the part
  pub none_parted : (xs : List X) → Parted [] [] xs xs
  none_parted xs = record { others = xs; was = IsPermutation-refl xs; is = IsPermutation-refl xs }

  -- the wholes in another order
  pub parted_moved : {then now : List X} (old new olds news : List X) → IsPermutation old olds → IsPermutation new news → Parted then now old new → Parted then now olds news
  parted_moved {then = then} {now = now} old new olds news was is parts = record {
    others = parts.others;
    was = IsPermutation-trans (then ++ parts.others) old olds parts.was was;
    is = IsPermutation-trans (now ++ parts.others) new news parts.is is;
  }

module _ {X Y : Type 0} {then now old new : List X} where
  pub map_parted : (f : X → Y) → Parted then now old new → Parted (map f then) (map f now) (map f old) (map f new)
  map_parted f parts = record { others = map f parts.others; was = mapped then old parts.was; is = mapped now new parts.is } where
    mapped : (xs ys : List X) → IsPermutation (xs ++ parts.others) ys → IsPermutation (map f xs ++ map f parts.others) (map f ys)
    mapped xs ys p = subst (λ all. IsPermutation all (map f ys)) (map-append f xs parts.others) (IsPermutation-map f (xs ++ parts.others) ys p)

  pub flat_parted : (f : X → List Y) → Parted then now old new → Parted (flat_map f then) (flat_map f now) (flat_map f old) (flat_map f new)
  flat_parted f parts = record { others = flat_map f parts.others; was = mapped then old parts.was; is = mapped now new parts.is } where
    mapped : (xs ys : List X) → IsPermutation (xs ++ parts.others) ys → IsPermutation (flat_map f xs ++ flat_map f parts.others) (flat_map f ys)
    mapped xs ys p = subst (λ all. IsPermutation all (flat_map f ys)) (flat_map-append f xs parts.others) (IsPermutation-flat_map f (xs ++ parts.others) ys p)
