use Rattle.std.proofs.Common.{◌≡◌, drop}
use Rattle.gate_store.specs.Logged.{CanBeRepeated, after_log}
use Rattle.gate_store.proofs.plain_book.PlainBook.gate_now.Given as goal

abbrev pub invariant-loop-acts : goal.invariant-loop-acts
invariant-loop-acts l = record {
  rest : CanBeRepeated l.gate (drop l.acts-index l.acts-items);
  led : after_log l.gate (drop l.acts-index l.acts-items) ≡ l.fn.self.state;
}
