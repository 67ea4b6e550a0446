-- A row is another one if `==` says so, and if the two agree in every column.
use Rattle.std.proofs.Common.{◌≡◌, Bool, true, sym, subst}
use Rattle.std.specs.Cmp.{IsEquivalence, both_ways}
use Rattle.gate_tables.proofs.Differing.{same_as_itself, same_is}
use Rattle.gate_tables.specs.Differences.{is_same}
use Rattle.gate_tables.specs.Forms.{Form}
use Rattle.gate_tables.specs.Known.{IsKeyed}

pub first_same : {R : Type 0} (form : Form R) (known : IsKeyed form) (eq : R → R → Bool) → IsEquivalence eq → ((one other : R) → eq one other ≡ true → one ≡ other)
    → (first row : R) → eq first row ≡ is_same form row first
first_same form known eq laws same first row = both_ways (eq first row) (is_same form row first) to from where
  to : eq first row ≡ true → is_same form row first ≡ true
  to is = subst (λ r. is_same form row r ≡ true) (sym (same first row is)) (same_as_itself form known row)

  from : is_same form row first ≡ true → eq first row ≡ true
  from is = subst (λ r. eq r row ≡ true) (same_is form known row first is) (laws.refl row)
