use Rattle.std.proofs.Common.{refl, subst}
use Rattle.gate_queue.specs.Judging.{IsJudgement}
use Rattle.gate_queue.proofs.Meaning.{meaning_allowed, retry_takes}
use Rattle.gate_queue.proofs.stepping.step.Goals as goal

pub act_on-requires-clause-holds : goal.act_on-requires-clause-holds
act_on-requires-clause-holds c =
    let judged = subst (IsJudgement c.args.state c.args.act.now) c.in-Repeats.is c.requires.judged in
    rw (judged.2, meaning_allowed c.args.state c.args.act.now judged.0) refl

pub returns-in_err-act_on-in-Repeats-clause-no_memory :
    goal.returns-in_err-act_on-in-Repeats-clause-no_memory
returns-in_err-act_on-in-Repeats-clause-no_memory c takes moves =
    let judged = subst (IsJudgement c.args.state c.args.act.now) c.in-Repeats.is c.requires.judged in
    absurd (retry_takes c.args.state.desk c.args.act.now judged.1 takes)
