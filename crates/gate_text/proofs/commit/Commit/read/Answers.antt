use Rattle.std.proofs.Common.{◌∙◌, sym}
use Rattle.gate_text.specs.SmallTexts.{is_commit_digit}
use Rattle.gate_text.proofs.GoodBytes.{all_good, neither}
use Rattle.gate_text.proofs.commit.Commit.read.Goals as goal

pub invariant_of-result : goal.invariant_of-result
invariant_of-result c =
    rw c.copy_from_slice.ensures.after (all_good is_commit_digit c.as_bytes-text.result.now (neither _ (sym c.first_bad_or_end.ensures ∙ c.in_default.ensures.passed.0)))
