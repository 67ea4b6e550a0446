use Rattle.std.specs.Cmp.{first_so, second_so}
use Rattle.gate_rows.proofs.sorting.are_same.Goals as goal

pub returns : goal.returns
returns c all =
    let seven = first_so _ c.have_same-8.result all in
    let six = first_so _ c.have_same-7.result seven in
    let five = first_so _ c.have_same-6.result six in
    let four = first_so _ c.have_same-5.result five in
    let three = first_so _ c.have_same-4.result four in
    let two = first_so _ c.have_same-3.result three in record {
      desk = c.have_same.ensures (first_so _ c.have_same-2.result two);
      people = c.have_same-2.ensures (second_so _ _ two);
      changes = c.have_same-3.ensures (second_so _ _ three);
      marks = c.have_same-4.ensures (second_so _ _ four);
      batches = c.have_same-5.ensures (second_so _ _ five);
      members = c.have_same-6.ensures (second_so _ _ six);
      statuses = c.have_same-7.ensures (second_so _ _ seven);
      wanted = c.have_same-8.ensures (second_so _ _ all);
    }
