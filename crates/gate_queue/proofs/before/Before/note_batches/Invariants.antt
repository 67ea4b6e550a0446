use Rattle.std.proofs.Common.{◌≡◌, ◌<◌, ℕ, true, is_some, take}
use Rattle.std.specs.FinMap.{get}
use Rattle.gate_queue.proofs.before.Before.note_batches.Given as goal
use Rattle.gate_queue.specs.Before.{NotesMore}
use Rattle.gate_queue.specs.Touching.{lists}

abbrev pub invariant-loop-number : goal.invariant-loop-number
invariant-loop-number l = record {
  more : NotesMore l.state l.fn.self l.self;
  has : (number : ℕ) → number < l.self.next → lists number (take l.number-index l.numbers) ≡ true → is_some (get l.self.batches number) ≡ true;
}
