use Rattle.std.proofs.Common.{arith}
use Rattle.gate_tables.proofs.Comparing.{all_pass, all_plain, none_plain}
use Rattle.gate_tables.proofs.same_schema.TableSame.is_same.Goals as goal

pub returns-clause-told : goal.returns-clause-told
returns-clause-told c =
    let table = c.args.other.now in
    let uniques = all_pass _ all_plain table.uniques in
    grind (arith, all_plain table.primary, uniques, all_plain table.orders, none_plain table.references, all_plain table.computed)
