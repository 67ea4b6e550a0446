use Rattle.std.proofs.Common.{◌++◌, List, IsPermutation, subst}
use Rattle.std.specs.Vec.Iter.{into_iter_items}
use Rattle.gate_rows.proofs.FirstMarks.{first_marks, one_more}
use Rattle.gate_rows.proofs.upgrading.split_marks.Goals as goal
use Rattle.gate_tables.specs.declared.row.MarkRow.{MarkRow}

pub loop-row-preserved : goal.loop-row-preserved
loop-row-preserved c =
    let done = first_marks c.loop-row.kept.items c.loop-row.wanted.items in
    let next = first_marks c.push_mark.new.kept.items c.push_mark.new.wanted.items in
    let before = subst (λ (rest : List MarkRow). IsPermutation c.args.marks (done ++ rest)) c.in-Some.ensures.steps.0 c.loop-row.invariant in
    one_more c.args.marks done next c.in-Some.row (into_iter_items c.next.new.self) before c.in_ok-push_mark.ensures
