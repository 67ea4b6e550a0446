use Rattle.std.proofs.Common.{◌≡◌, List, length, take}
use Rattle.gate_queue.specs.History.{Entry, Legal}
use Rattle.gate_store.specs.Headline.{Each, Tells, acts_of_all, first_in}
use Rattle.gate_store.specs.Run.{NoneMeetsFull, after_deliveries, answers_to}
use Rattle.gate_store.specs.Outlasting.{Outlasts}
use Rattle.gate_store.proofs.keeper.Keeper.answer_all.Given as goal

abbrev pub invariant-loop-delivery : goal.invariant-loop-delivery
invariant-loop-delivery g l = record {
  answers : g.B.Book.is_honest l.self → l.answers.items ≡ answers_to (g.B.Book.shows l.fn.self) (take l.delivery-index l.deliveries);
  book : g.B.Book.is_sound l.self → g.B.Book.shows l.self ≡ after_deliveries (g.B.Book.shows l.fn.self) (take l.delivery-index l.deliveries);
  history : g.B.Book.is_honest l.self → (history : List Entry) → Legal history (g.B.Book.shows l.fn.self).state
      → Each Tells history (g.B.Book.shows l.fn.self).state (acts_of_all (first_in (g.B.Book.shows l.fn.self) (take l.delivery-index l.deliveries)));
  room : g.B.Book.is_honest l.self → NoneMeetsFull (g.B.Book.shows l.fn.self) (take l.delivery-index l.deliveries);
  count : length l.answers.items ≡ l.delivery-index;
  outlasts : Outlasts g.B.Book l.fn.self l.self;
  stays : g.B.Book.is_sound l.fn.self → g.B.Book.is_honest l.self → g.B.Book.is_sound l.self;
}
