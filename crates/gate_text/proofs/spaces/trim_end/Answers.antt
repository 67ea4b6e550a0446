use Rattle.std.proofs.Common.{◌∙◌, sym, ap, Some, None}
use Rattle.std.proofs.lemmas.Bool.Decides.{Decides-eqb}
use Rattle.std.proofs.lemmas.Slice.Eq.{strip_suffix_is}
use Rattle.gate_text.specs.Spaces.{trim_end}
use Rattle.gate_text.proofs.Trims.{trim_end-push_space, trim_end-kept}
use Rattle.gate_text.proofs.spaces.trim_end.Goals as goal

pub loop-others-preserved : goal.loop-others-preserved
loop-others-preserved c =
    let stripped = strip_suffix_is Decides-eqb c.loop-others.rest.now c.as_slice.result.now (Some c.in-Some.others) c.in-Some.ensures.cases in
    let space = rw c.as_slice.ensures at stripped in
    sym (trim_end-push_space c.in-Some.others.now) ∙ sym (ap trim_end space) ∙ c.loop-others.invariant

pub returns : goal.returns
returns c =
    let stripped = strip_suffix_is Decides-eqb c.loop-others.rest.now c.as_slice.result.now None c.in_default.ensures.cases in
    let no_space = rw c.as_slice.ensures at stripped in
    sym (trim_end-kept c.loop-others.rest.now no_space) ∙ c.loop-others.invariant
