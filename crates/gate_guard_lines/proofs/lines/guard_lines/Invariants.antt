use Rattle.gate_guard_lines.specs.Serving.{StaysKnown, TellsSoFar}
use Rattle.gate_store.specs.Outlasting.{Outlasts, RemainsSound}
use Rattle.gate_guard_lines.proofs.lines.guard_lines.Given as goal

abbrev pub invariant-loop-count : goal.invariant-loop-count
invariant-loop-count g l = record {
  told : TellsSoFar g.B.Book l.fn.keeper l.keeper (g.R.Read.remaining l.fn.reader) (g.R.Read.remaining l.reader) (g.W.Write.contents l.fn.writer) (g.W.Write.contents l.writer);
  stays : RemainsSound g.B.Book l.fn.keeper l.keeper (λ sound. sound);
  known : StaysKnown (g.R.Read.remaining l.fn.reader) (g.R.Read.remaining l.reader);
  outlasts : Outlasts g.B.Book l.fn.keeper l.keeper;
}
