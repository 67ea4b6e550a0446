-- A change that was altered in place, and one that isn't there.
use Rattle.std.specs.Prelude.{◌≡◌, ℕ, Option, Some, None}
use Rattle.std.proofs.Common.{sym, subst}
use Rattle.std.specs.FinMap as map
use Rattle.gate_rules.specs.View.{DeskView, Alters, AltersOne, with_change}
use Rattle.gate_rules.specs.declared.change.Change.{Change}

module _ {T : Type 0} (run : Change → T → Change → Type 0) (number : ℕ) (desk after : DeskView) where
  pub alters_none : map.get desk.changes number ≡ None → after ≡ desk → Alters run number desk None after
  alters_none absent same = subst (λ (found : Option Change). AltersOne run number desk found None after) (sym absent) same

  pub alters_one : (change altered : Change) (answer : T) → map.get desk.changes number ≡ Some change → run change answer altered
      → after ≡ with_change desk number altered → Alters run number desk (Some answer) after
  alters_one change altered answer found ran is =
      subst (λ (it : Option Change). AltersOne run number desk it (Some answer) after) (sym found) (altered, ran, is)
