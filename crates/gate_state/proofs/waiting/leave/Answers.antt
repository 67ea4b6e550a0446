use Rattle.std.proofs.Common.{ap, rules, ◌∙◌}
use Rattle.std.proofs.lemmas.Fn.{filter_same}
use Rattle.std.specs.List.{filter}
use Rattle.gate_state.specs.Lanes.{has_changes}
use Rattle.gate_state.proofs.waiting.leave.Goals as goal

pub returns : goal.returns
returns g c =
    let kept = filter_same _ has_changes _ (λ x b f' k. search rules) _ _ c.retain.ensures.filtered in
    kept ∙ ap (filter has_changes) c.keep_in_all.ensures
