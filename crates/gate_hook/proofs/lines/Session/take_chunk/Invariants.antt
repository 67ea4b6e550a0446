use Rattle.std.proofs.Common.{◌≤◌, ◌+◌, ◌++◌, ℕ, List, Option, take}
use Rattle.gate_store.specs.Run.{Records}
use Rattle.gate_hook.specs.Serving.{IsUpTo}
use Rattle.gate_hook.specs.Sessions.{Turns}
use Rattle.gate_hook.proofs.lines.Session.take_chunk.Given as goal

abbrev pub invariant-loop-byte : goal.invariant-loop-byte
invariant-loop-byte g l = record {
  counted : l.self.count ≤ l.fn.self.count + l.byte-index;
  turns : Turns g.B.Book l.fn.self l.self;
  stays : (g.B.Book.is_honest l.fn.self.keeper.now → g.B.Book.is_sound l.fn.self.keeper.now) → g.B.Book.is_honest l.self.keeper.now → g.B.Book.is_sound l.self.keeper.now;
  taken : (opened : Records) (input : List ℕ) (before : Option (List ℕ))
      → IsUpTo (g.B.Book.is_sound l.fn.self.keeper.now) opened input (g.B.Book.shows l.fn.self.keeper.now)
      l.fn.self.line l.fn.self.count before (g.W.Write.contents l.fn.self.writer.now)
      → IsUpTo (g.B.Book.is_sound l.self.keeper.now) opened (input ++ take l.byte-index l.bytes) (g.B.Book.shows l.self.keeper.now)
      l.self.line l.self.count before (g.W.Write.contents l.self.writer.now);
}
