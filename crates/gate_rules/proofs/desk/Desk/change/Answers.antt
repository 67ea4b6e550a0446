use Rattle.std.proofs.Common.{◌∙◌, sym, ap}
use Rattle.std.specs.Cmp.{nat_cmp_total}
use Rattle.std.specs.FinMap as map
use Rattle.gate_text.specs.Finite.{get-entries}
use Rattle.gate_rules.specs.View.{DeskView}
use Rattle.gate_rules.proofs.desk.Desk.change.Goals as goal

pub returns : goal.returns
returns c = record {
  value =
      c.get.ensures.value ∙ sym (get-entries nat_cmp_total c.self.inside.changes c.args.number)
      ∙ ap (λ (desk : DeskView). map.get desk.changes c.args.number) c.self.view_is;
}
