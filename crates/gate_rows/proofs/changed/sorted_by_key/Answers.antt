use Rattle.std.proofs.Common.{ap, subst, rules}
use Rattle.std.proofs.lemmas.List.Sorted.{IsPermutation-trans, ranks_by, answers_always}
use Rattle.std.specs.Ordering.{is_lt}
use Rattle.std.specs.Prelude.{IsPermutation}
use Rattle.gate_rows.proofs.ByKey.{sorted_by_key}
use Rattle.gate_rows.proofs.changed.sorted_by_key.Goals as goal
use Rattle.gate_tables.specs.Keys.{key_of}
use Rattle.sqlite_value.proofs.OrderLemmas.{row_cmp_total}

pub returns : goal.returns
returns g c those apart moved =
    let rows = subst (λ xs. IsPermutation xs c.sort_unstable_by.new.self.items) c.into_vec-rows.ensures.value c.sort_unstable_by.ensures.permutation in
    let rising = c.sort_unstable_by.ensures.sorted _ (ranks_by row_cmp_total (key_of g.R.Keyed.form)) (answers_always _ _ _ (λ f a r f' k. ap is_lt (search rules))) in
    sorted_by_key g.R.Keyed.form g.met.R.Keyed.keyed those _ apart (IsPermutation-trans those _ _ moved rows) rising
