use Rattle.std.proofs.Common.{take}
use Rattle.gate_tables.specs.Calls.{Does}
use Rattle.gate_tables.specs.Database.{all_schema}
use Rattle.gate_tables.specs.Effects.{Changes, IsInside}
use Rattle.gate_tables.proofs.apply.change_all.Given as goal

-- the changes so far are made
abbrev pub invariant-loop-change : goal.invariant-loop-change
invariant-loop-change g l =
    Does g.S.Store l.initial.tx l.tx (λ first now. IsInside all_schema first → IsInside all_schema now × Changes (take l.change-index l.changes) first.now.trees now.now.trees)
