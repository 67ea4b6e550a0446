use Rattle.std.proofs.Common.{sym, ◌∙◌, subst}
use Rattle.std.specs.Prelude.{IsPermutation}
use Rattle.gate_rows.proofs.Alike.{alike_sorted}
use Rattle.gate_rows.proofs.sorting.have_same.Goals as goal

pub returns : goal.returns
returns g c same =
    let one = subst (λ rows. IsPermutation rows c.sort_unstable.new.self.items) c.into_vec-ones.ensures.value c.sort_unstable.ensures.permutation in
    let other = subst (λ rows. IsPermutation rows c.sort_unstable-2.new.self.items) c.into_vec-others.ensures.value c.sort_unstable-2.ensures.permutation in
    alike_sorted g.R.PartialEq.eq g.met.R.Same.same _ _ _ _ one other (sym c.eq.ensures ∙ same)
