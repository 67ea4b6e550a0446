use Rattle.std.proofs.Common.{subst}
use Rattle.gate_tables.proofs.Standing.{taken_rows, taken_stands}
use Rattle.gate_tables.specs.Tables.{is_sound}
use Rattle.gate_tables.proofs.found_tables.FoundTables.take.Goals as goal

pub of-requires : goal.of-requires
of-requires g c = record {
  stands = taken_stands g.S.Store c.self.inside.connection c.take_over.new.conn c.args.changes.now c.self.invariant (λ sound. (c.take_over.ensures.lasts.clean sound.0, c.take_over.ensures.lasts.was sound.0 sound.1))
      c.take_over.ensures.mode c.in-Ok.ensures.did;
}

pub returns-in-Ok-clause-rows : goal.returns-in-Ok-clause-rows
returns-in-Ok-clause-rows g c sound =
    let new = subst (is_sound g.S.Store) c.of.ensures.value sound in
    let brought = taken_rows g.S.Store c.self.inside.connection c.take_over.new.conn c.args.changes.now c.self.invariant (λ sound. (c.take_over.ensures.lasts.clean sound.0, c.take_over.ensures.lasts.was sound.0 sound.1)) c.in-Ok.ensures.did new in
    rw (c.of.ensures.value, ← c.self.view_is) brought.rows_are
