use Rattle.std.proofs.Common.{ℕ, List, ◌∙◌, ap}
use Rattle.std.specs.Cmp.{nat_cmp_total}
use Rattle.std.specs.FinMap.{nat_cmp-IsAntisymmetric}
use Rattle.gate_rules.specs.declared.change.Change.{Change}
use Rattle.gate_state.specs.Checks.{are_held}
use Rattle.gate_state.specs.State.{marks_on}
use Rattle.gate_state.proofs.Deciding.{entries_are}
use Rattle.gate_state.proofs.checking.places.are_all_held.Goals as goal

pub returns : goal.returns
returns c =
    let listed = entries_are nat_cmp_total nat_cmp-IsAntisymmetric _ _ c.are_held.ensures.ordered c.changes.ensures.value in
    c.are_held.ensures.value ∙ ap (λ (entries : List (ℕ × Change)). are_held (marks_on c.args.on c.args.desk.now) c.args.lane.now entries) listed
