use Rattle.std.proofs.Common.{rules, sym, subst}
use Rattle.gate_queue.proofs.Noting.{nothing_before}
use Rattle.gate_queue.proofs.before.Before.of.Goals as goal
use Rattle.gate_queue.specs.Before.{IsBefore, Noted}

pub returns-clause-before : goal.returns-clause-before
returns-clause-before c =
    let gate = c.args.gate.now in
    subst (λ (noted : Noted). IsBefore noted gate gate) (sym (search rules)) (nothing_before gate)
