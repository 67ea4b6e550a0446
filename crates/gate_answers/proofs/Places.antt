-- The item at a place of a list: it begins what is left there, and ends what is taken up to it.
use Rattle.std.proofs.Common.{◌≡◌, ◌<◌, ◌+◌, ℕ, suc, List, [], ◌∷◌, ◌++◌, length, drop, take, get_or, sym, ◌∙◌, ap, add-one}
use Rattle.std.proofs.Math.Seq.{drop-cons}
use Rattle.std.proofs.lemmas.List.{take_more}

module _ {A : Type 0} (items : List A) (place : ℕ) (item : A) (at : item ≡ get_or items place item) (within : place < length items) where
  pub here : drop place items ≡ item ∷ drop (place + 1) items
  here = rw add-one (drop-cons items place item within ∙ ap (λ (first : A). first ∷ drop (suc place) items) (sym at))

  pub up_to : take (place + 1) items ≡ take place items ++ item ∷ []
  up_to = take_more items place item within ∙ ap (λ (last : A). take place items ++ last ∷ []) (sym at)
