use Rattle.std.proofs.Common.{Bool, ◌∙◌, sym, ap}
use Rattle.std.specs.Cmp.{nat_cmp_total}
use Rattle.std.specs.FinMap.{nat_cmp-IsAntisymmetric}
use Rattle.std.specs.Ordering.{nat_cmp}
use Rattle.gate_text.specs.Finite.{entries-from_entries}
use Rattle.gate_rules.specs.View.{DeskView, numbers_in, numbers_where}
use Rattle.gate_rules.specs.declared.change.Change.{Change}
use Rattle.gate_rules.proofs.desk.Desk.numbers_where.Goals as goal

pub returns : goal.returns
returns g c =
    let meets : Change → Bool = λ change. g.C.Condition.meets change c.args.condition.now in
    record {
      value =
          c.in_ok-numbers.ensures.value
          ∙ ap (numbers_in meets) (sym (entries-from_entries nat_cmp nat_cmp_total nat_cmp-IsAntisymmetric c.self.inside.changes.entries c.in_ok-numbers.ensures.ordered))
          ∙ ap (λ (desk : DeskView). numbers_where meets desk) c.self.view_is;
    }
