use Rattle.std.proofs.Common.{subst}
use Rattle.gate_hook.specs.Lines.{IsServed}
use Rattle.gate_store.specs.Run.{Records}
use Rattle.gate_hook.proofs.memory.serve_in_memory.Goals as goal

pub returns-clause-served : goal.returns-clause-served
returns-clause-served g c =
    let served = c.serve_book-served.ensures.served in
    let last = c.serve_book-served.result.1 in
    let left = g.R.Read.remaining c.serve_book-served.new.reader in
    let before = g.W.Write.contents c.args.writer.now in
    let after = g.W.Write.contents c.serve_book-served.new.writer in
    (served.0, served.1, served.2, (last, subst (λ (old : Records). IsServed c.serve_book-served.result.0 old served.0 left last before after) c.book_in_memory.ensures.value (served.3 tt)))
