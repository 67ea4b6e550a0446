use Rattle.gate_state.specs.Lemmas.Counts.{enqueue_law, try_law, take_out_law, restart_law, start_law, stage_law, report_law, land_law, requeue_law, fail_law, drop_law}
use Rattle.gate_state.proofs.laws.law_of_changes.Goals as goal

pub returns-clause-enqueue : goal.returns-clause-enqueue
returns-clause-enqueue c = enqueue_law

pub returns-clause-enqueue_try : goal.returns-clause-enqueue_try
returns-clause-enqueue_try c = try_law

pub returns-clause-take_out : goal.returns-clause-take_out
returns-clause-take_out c = take_out_law

pub returns-clause-restart : goal.returns-clause-restart
returns-clause-restart c = restart_law

pub returns-clause-start : goal.returns-clause-start
returns-clause-start c = start_law

pub returns-clause-stage : goal.returns-clause-stage
returns-clause-stage c = stage_law

pub returns-clause-report : goal.returns-clause-report
returns-clause-report c = report_law

pub returns-clause-land : goal.returns-clause-land
returns-clause-land c = land_law

pub returns-clause-requeue : goal.returns-clause-requeue
returns-clause-requeue c = requeue_law

pub returns-clause-fail : goal.returns-clause-fail
returns-clause-fail c = fail_law

pub returns-clause-drop : goal.returns-clause-drop
returns-clause-drop c = drop_law
