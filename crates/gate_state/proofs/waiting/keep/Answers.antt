use Rattle.std.proofs.Common.{◌≡◌, ℕ, Bool, List, ap, rules}
use Rattle.std.proofs.lemmas.Fn.{filter_same}
use Rattle.std.specs.List.{filter}
use Rattle.gate_state.proofs.waiting.keep.Goals as goal

pub returns : goal.returns
returns g c =
    let stays : ℕ → Bool = λ change. g.C.Choice.chooses change c.args.choice.now in
    let kept : c.retain.new.self ≡ filter stays c.args.batch.now.changes = filter_same _ stays _ (λ x b f' k. search rules) _ _ c.retain.ensures.filtered in
    ap (λ (changes : List ℕ). record c.args.batch.now { changes = changes }) kept
