use Rattle.std.proofs.Common.{◌≡◌, Some, None, refl, sym, rules}
use Rattle.gate_text.specs.LastWhere.{last_where-none, last_where-at}
use Rattle.gate_text.specs.Spaces.{last_space}
use Rattle.gate_text.proofs.spaces.last_space.Goals as goal

pub returns-clause-value : goal.returns-clause-value
returns-clause-value c =
    let text = c.args.text.now in
    elim c.rposition.result as (λ found. c.rposition.result ≡ found → found ≡ last_space text) [
      | None ↦ λ is. sym (last_where-none _ text (search rules))
      | Some place ↦ λ is. sym (last_where-at _ text place (search rules) (λ default. search rules) (λ k after inside default. search rules))
    ] refl
