use Rattle.std.proofs.Common.{ℕ, Bool, List, ◌∙◌, ap}
use Rattle.std.specs.Cmp.{nat_cmp_total}
use Rattle.std.specs.FinMap.{nat_cmp-IsAntisymmetric}
use Rattle.gate_rules.specs.declared.change.Change.{Change}
use Rattle.gate_state.specs.Checks.{fit_changes, is_ready}
use Rattle.gate_state.proofs.Deciding.{entries_are}
use Rattle.gate_state.proofs.checking.changes.all_fit.Goals as goal

pub returns : goal.returns
returns c =
    let desk = c.args.desk.now in
    let listed = entries_are nat_cmp_total nat_cmp-IsAntisymmetric _ _ c.fit_changes.ensures.ordered c.changes.ensures.value in
    c.fit_changes.ensures.value ∙ ap (λ (ready : Bool). fit_changes ready c.changes.result.now.entries) c.is_ready.ensures
    ∙ ap (λ (entries : List (ℕ × Change)). fit_changes (is_ready desk) entries) listed
