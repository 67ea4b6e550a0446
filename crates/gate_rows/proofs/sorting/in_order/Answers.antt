use Rattle.std.proofs.Common.{rules}
use Rattle.std.proofs.lemmas.Fn.{always_returns_same}
use Rattle.std.proofs.lemmas.List.Sorted.{IsPermutation-refl}
use Rattle.gate_rows.proofs.sorting.in_order.Goals as goal

pub returns : goal.returns
returns c = record {
  same = record {
    desk = IsPermutation-refl c.args.rows.desk;
    people = IsPermutation-refl c.args.rows.people;
    changes = IsPermutation-refl c.args.rows.changes;
    marks = c.sorted.ensures.same;
    batches = c.sorted-2.ensures.same;
    members = c.sorted-3.ensures.same;
    statuses = IsPermutation-refl c.args.rows.statuses;
    wanted = c.sorted-4.ensures.same;
  };
  sorted = record {
    marks = c.sorted.ensures.sorted (λ row. row.place) (always_returns_same _ _ _ (λ a r f k. search rules));
    batches = c.sorted-2.ensures.sorted (λ row. (record { 0 = row.priority }, record { 0 = row.again }, row.number)) (always_returns_same _ _ _ (λ a r f k. search rules));
    members = c.sorted-3.ensures.sorted (λ row. row.place) (always_returns_same _ _ _ (λ a r f k. search rules));
    wanted = c.sorted-4.ensures.sorted (λ row. row.place) (always_returns_same _ _ _ (λ a r f k. search rules));
  };
}
