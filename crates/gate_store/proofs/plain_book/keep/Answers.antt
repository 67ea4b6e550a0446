use Rattle.std.specs.Cmp.Lexicographic.{nat_list_cmp_total}
use Rattle.std.specs.FinMap.{slice_cmp-IsAntisymmetric, nat_cmp-IsAntisymmetric}
use Rattle.gate_text.specs.Finite.{inserted}
use Rattle.gate_store.proofs.plain_book.keep.Goals as goal

pub returns-clause-ok : goal.returns-clause-ok
returns-clause-ok c =
    rw (c.in_ok-copy.ensures.value, c.in_ok-copy-2.ensures.value) at
    (inserted nat_list_cmp_total (slice_cmp-IsAntisymmetric nat_cmp-IsAntisymmetric) c.args.answers.now c.insert.new.self _ _ c.in_ok-insert.ensures.updates)
