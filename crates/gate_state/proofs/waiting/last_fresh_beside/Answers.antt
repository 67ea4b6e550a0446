use Rattle.std.proofs.Common.{◌≡◌, Some, None, refl, sym, rules}
use Rattle.gate_text.specs.LastWhere.{last_where, last_where-none, last_where-at}
use Rattle.gate_state.specs.Lanes.{is_fresh_beside}
use Rattle.gate_state.proofs.waiting.last_fresh_beside.Goals as goal

pub returns-clause-value : goal.returns-clause-value
returns-clause-value c =
    let waiting = c.args.waiting.now in
    let test = is_fresh_beside c.args.priority c.args.change in
    elim c.rposition.result as (λ found. c.rposition.result ≡ found → found ≡ last_where test waiting) [
      | None ↦ λ is. sym (last_where-none test waiting (search rules))
      | Some place ↦ λ is. sym (last_where-at test waiting place (search rules) (λ default. search rules) (λ k after inside default. search rules))
    ] refl
