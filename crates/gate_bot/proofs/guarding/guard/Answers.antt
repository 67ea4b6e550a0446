use Rattle.std.proofs.Common.{subst}
use Rattle.gate_guard_lines.specs.Lines.{IsTold}
use Rattle.gate_store.specs.Run.{Records}
use Rattle.gate_bot.proofs.guarding.guard.Goals as goal

pub returns-clause-told : goal.returns-clause-told
returns-clause-told g c =
    let last = c.guard_over-told.result.1 in
    let before = g.W.Write.contents c.args.writer.now in
    let after = g.W.Write.contents c.guard_over-told.new.writer in
    let told = c.guard_over-told.ensures.told tt in
    (last, told.0, told.1, subst (λ (old : Records). IsTold c.guard_over-told.result.0 old last told.0 before after) c.book_in_memory.ensures.value told.2)
