use Rattle.std.proofs.Common.{◌≡◌, ◌+◌, ◌^◌, ℕ, List, length}
use Rattle.std.specs.Io.KnownBytes.{Consumes}
use Rattle.gate_hook.specs.Serving.{IsUpTo}
use Rattle.gate_hook.specs.Sessions.{Turns}
use Rattle.gate_hook.proofs.lines.Session.take_input.Given as goal

abbrev pub invariant-chunks : goal.invariant-chunks
invariant-chunks g l = record {
  turns : Turns g.B.Book l.fn.self l.self;
  stays : (g.B.Book.is_honest l.fn.self.keeper.now → g.B.Book.is_sound l.fn.self.keeper.now) → g.B.Book.is_honest l.self.keeper.now → g.B.Book.is_sound l.self.keeper.now;
  taken : (input : List ℕ) × Consumes (g.R.Read.remaining l.fn.reader) (g.R.Read.remaining l.reader) input
      × IsUpTo (g.B.Book.is_sound l.self.keeper.now) (g.B.Book.shows l.fn.self.keeper.now) input (g.B.Book.shows l.self.keeper.now)
      l.self.line l.self.count (g.W.Write.contents l.fn.self.writer.now) (g.W.Write.contents l.self.writer.now)
      × (length input + l.left ≡ 2 ^ 32);
}

abbrev pub decreases-chunks : goal.decreases-chunks
decreases-chunks g l = l.left
