use Rattle.gate_tables.proofs.Standing.{commit_stands, commit_answers}
use Rattle.gate_tables.proofs.tables.Tables.apply.Goals as goal

pub invariant_of-self : goal.invariant_of-self
invariant_of-self g c =
    commit_stands g.S.Store c.self.inside.connection c.apply_all.new.conn c.args.changes.now c.args.id.now c.args.body.now c.self.invariant (rw (c.self.view_is) c.requires.free)
    (λ sound. (c.apply_all.ensures.lasts.clean sound.0, c.apply_all.ensures.lasts.was sound.0 sound.1)) c.apply_all.ensures.mode c.apply_all.result c.apply_all.ensures.did c.apply_all.ensures.left

pub returns-clause-answers : goal.returns-clause-answers
returns-clause-answers g c sound =
    rw (← c.self.view_is) (commit_answers g.S.Store c.self.inside.connection c.apply_all.new.conn c.args.changes.now c.args.id.now c.args.body.now c.self.invariant (rw (c.self.view_is) c.requires.free)
    (λ sound. (c.apply_all.ensures.lasts.clean sound.0, c.apply_all.ensures.lasts.was sound.0 sound.1)) c.apply_all.result c.apply_all.ensures.did sound)
