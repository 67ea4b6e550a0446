-- The order of keys, column by column.
use Rattle.std.proofs.Common.{◌≡◌, ℕ, ℤ, List, [], ◌∷◌, refl, sym, ap, ◌∙◌}
use Rattle.std.specs.Cmp.Lexicographic.{slice_cmp}
use Rattle.std.specs.Ordering.{int_cmp, nat_cmp, ordering_then}
use Rattle.std.specs.declared.cmp.Ordering.{Ordering}
use Rattle.std.specs.declared.cmp.Ordering.TheVariants.{Less, Equal, Greater}
use Rattle.sqlite.specs.Order.{Row}
use Rattle.sqlite.specs.declared.types.Value.TheVariants.{Int, Text}
use Rattle.sqlite_value.proofs.OrderLemmas.{then-Equal, value_cmp-Int, value_cmp-Text}
use Rattle.sqlite_value.specs.Order.{row_cmp}

then_both : (o p q : Ordering) → ordering_then (ordering_then o p) q ≡ ordering_then o (ordering_then p q)
then_both Less p q = refl
then_both Equal p q = refl
then_both Greater p q = refl

number_first : (a b : ℤ) (xs ys : Row) → row_cmp (Int a ∷ xs) (Int b ∷ ys) ≡ ordering_then (int_cmp a b) (row_cmp xs ys)
number_first a b xs ys = ap (λ (o : Ordering). ordering_then o (row_cmp xs ys)) (value_cmp-Int a b)

pub number_alone : (a b : ℤ) → row_cmp (Int a ∷ []) (Int b ∷ []) ≡ int_cmp a b
number_alone a b = number_first a b [] [] ∙ then-Equal (int_cmp a b)

pub text_alone : (s t : List ℕ) → row_cmp (Text s ∷ []) (Text t ∷ []) ≡ slice_cmp nat_cmp s t
text_alone s t = ap (λ (o : Ordering). ordering_then o Equal) (value_cmp-Text s t) ∙ then-Equal (slice_cmp nat_cmp s t)

pub numbers : (a b c d : ℤ) → row_cmp (Int a ∷ Int c ∷ []) (Int b ∷ Int d ∷ []) ≡ ordering_then (int_cmp a b) (int_cmp c d)
numbers a b c d = number_first a b (Int c ∷ []) (Int d ∷ []) ∙ ap (ordering_then (int_cmp a b)) (number_alone c d)

pub number_and_text : (a b : ℤ) (s t : List ℕ) → row_cmp (Int a ∷ Text s ∷ []) (Int b ∷ Text t ∷ []) ≡ ordering_then (int_cmp a b) (slice_cmp nat_cmp s t)
number_and_text a b s t = number_first a b (Text s ∷ []) (Text t ∷ []) ∙ ap (ordering_then (int_cmp a b)) (text_alone s t)

pub numbers_and_text : (a b c d : ℤ) (s t : List ℕ) → row_cmp (Int a ∷ Int c ∷ Text s ∷ []) (Int b ∷ Int d ∷ Text t ∷ []) ≡ ordering_then (ordering_then (int_cmp a b) (int_cmp c d)) (slice_cmp nat_cmp s t)
numbers_and_text a b c d s t =
    number_first a b (Int c ∷ Text s ∷ []) (Int d ∷ Text t ∷ []) ∙ ap (ordering_then (int_cmp a b)) (number_and_text c d s t)
    ∙ sym (then_both (int_cmp a b) (int_cmp c d) (slice_cmp nat_cmp s t))
