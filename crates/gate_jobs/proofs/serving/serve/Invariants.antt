use Rattle.std.proofs.Common.{◌≡◌, List, length}
use Rattle.std.specs.List.{All}
use Rattle.gate_jobs.specs.Accepting.{AreAcceptedInTurn, AreEndedInTurn, Connection}
use Rattle.gate_jobs.specs.Serving.{AreServedInTurn, AreServedOver, IsTakenAsNeeded}
use Rattle.gate_store.specs.Outlasting.{Outlasts}
use Rattle.gate_jobs.proofs.serving.serve.Given as goal

abbrev pub invariant-loop : goal.invariant-loop
invariant-loop g l = record {
  served : (connections : List Connection) × (length connections ≡ l.counter)
      × AreAcceptedInTurn connections (g.A.Acceptor.waiting l.fn.acceptor) (g.A.Acceptor.waiting l.acceptor)
      × AreEndedInTurn (λ (connection : Connection). connection.written) connections (g.A.Acceptor.ended l.fn.acceptor) (g.A.Acceptor.ended l.acceptor)
      × AreEndedInTurn (λ (connection : Connection). connection.left) connections (g.A.Acceptor.unread l.fn.acceptor) (g.A.Acceptor.unread l.acceptor)
      × All (IsTakenAsNeeded l.fn.routes) connections
      × (g.B.Book.is_sound l.keeper → AreServedInTurn l.fn.routes connections (g.B.Book.shows l.fn.keeper) (g.B.Book.shows l.keeper))
      × (g.B.Book.is_honest l.keeper → AreServedOver g.B.Book.shows g.B.Book.is_sound l.fn.routes connections l.fn.keeper l.keeper);
  outlasts : Outlasts g.B.Book l.fn.keeper l.keeper;
}
