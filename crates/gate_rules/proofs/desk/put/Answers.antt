use Rattle.std.proofs.Common.{◌∙◌, rules}
use Rattle.std.specs.Cmp.{nat_cmp_total}
use Rattle.std.specs.FinMap.{nat_cmp-IsAntisymmetric}
use Rattle.gate_text.specs.Finite.{get-entries, inserted}
use Rattle.gate_rules.proofs.desk.put.Goals as goal

pub returns-in_err-insert-clause-absent : goal.returns-in_err-insert-clause-absent
returns-in_err-insert-clause-absent c =
    let absent = get-entries nat_cmp_total c.args.changes.now c.args.number ∙ c.in_err-insert.ensures.absent in
    search (rules, absent)

pub returns-clause-ok : goal.returns-clause-ok
returns-clause-ok c = inserted nat_cmp_total nat_cmp-IsAntisymmetric c.args.changes.now c.insert.new.self c.args.number _ c.in_ok-insert.ensures.updates
