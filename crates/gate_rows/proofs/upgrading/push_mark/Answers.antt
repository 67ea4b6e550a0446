use Rattle.std.proofs.Common.{◌≡◌, ◌∷◌, sym, subst, subst₂, List, IsPermutation, SFits, to_z-of_z, w64, rules}
use Rattle.gate_rows.proofs.FirstMarks.{first_marks, one_kept, one_wanted}
use Rattle.gate_rows.proofs.upgrading.push_mark.Goals as goal
use Rattle.gate_rows.specs.FirstRows.{as_mark}
use Rattle.gate_tables.specs.declared.row.MarkRow.{MarkRow}
use Rattle.gate_tables.specs.declared.row.WantedRow.{WantedRow}

pub returns-in_ok-push-in-Some : goal.returns-in_ok-push-in-Some
returns-in_ok-push-in-Some c =
    let kept = c.args.kept.now.items in
    let wanted = c.args.wanted.now.items in
    let row = c.args.row in
    let kind : SFits w64 c.in-Some.kind = search rules in
    let place : SFits w64 row.place = search rules in
    let own : WantedRow = record { kind = c.in-Some.kind; place = row.place; word = row.word } in
    let is : as_mark own ≡ row = λ i. record { change_no = sym c.in-Some.ensures.some.1 i; kind = sym c.in-Some.ensures.some.2 i; word = row.word; place = row.place } in
    let items = rw (to_z-of_z kind, to_z-of_z place) at c.in_ok-push-in-Some.ensures.items in
    subst₂ (λ (r : MarkRow) (rows : List WantedRow). IsPermutation (r ∷ first_marks kept wanted) (first_marks kept rows)) is (sym items) (one_wanted kept wanted own)

pub returns-in_ok-push-in-None : goal.returns-in_ok-push-in-None
returns-in_ok-push-in-None c =
    let wanted = c.args.wanted.now.items in
    subst (λ (rows : List MarkRow). IsPermutation (c.args.row ∷ first_marks c.args.kept.now.items wanted) (first_marks rows wanted)) (sym c.in_ok-push-in-None.ensures.items) (one_kept c.args.kept.now.items wanted c.args.row)
