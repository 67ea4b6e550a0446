use Rattle.std.proofs.Common.{◌∙◌, sym, ap}
use Rattle.std.specs.Cmp.Lexicographic.{nat_list_cmp_total}
use Rattle.std.specs.FinMap.{get}
use Rattle.gate_text.specs.Finite.{get-entries}
use Rattle.gate_state.proofs.batch.Reports.last.Goals as goal

pub returns : goal.returns
returns c = record {
  value = c.copied.ensures ∙ c.get.ensures.value ∙ sym (get-entries nat_list_cmp_total c.self.inside.reports c.args.name.now) ∙ ap (λ reports. get reports c.args.name.now) c.self.view_is;
}
