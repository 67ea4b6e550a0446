use Rattle.gate_hook.proofs.Kept.{added, full}
use Rattle.gate_hook.proofs.line.Line.add.Goals as goal

pub returns-then-self-lt-MAX_KEPT : goal.returns-then-self-lt-MAX_KEPT
returns-then-self-lt-MAX_KEPT c = rw (← c.self.view_is) (added 65537 c.self.inside.len c.self.inside.bytes c.args.byte c.if-self-lt-MAX_KEPT.true c.self.told)

pub returns-else-self-lt-MAX_KEPT : goal.returns-else-self-lt-MAX_KEPT
returns-else-self-lt-MAX_KEPT c = rw (← c.self.view_is) (full 65537 c.self.inside.len c.self.inside.bytes c.args.byte c.if-self-lt-MAX_KEPT.false c.self.told)
