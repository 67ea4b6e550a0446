use Rattle.std.specs.Cmp.Lexicographic.{nat_list_cmp_total}
use Rattle.gate_text.specs.Finite.{subset-keys}
use Rattle.gate_text.proofs.set.Set.is_subset.Goals as goal

pub returns : goal.returns
returns g c = record {
  value = rw (← c.self.view_is, ← c.other.view_is) (subset-keys nat_list_cmp_total c.self.inside.texts c.other.inside.texts c.is_subset.result c.is_subset.ensures.0 c.is_subset.ensures.1);
}
