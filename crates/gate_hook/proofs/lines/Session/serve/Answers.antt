use Rattle.gate_hook.proofs.Ending.{serves}
use Rattle.gate_hook.proofs.lines.Session.serve.Goals as goal

pub returns-clause-served : goal.returns-clause-served
returns-clause-served g c =
    let served = c.take_input.ensures.served in (
      served.0,
      served.1,
      served.2,
      served.3,
      λ begun honest. serves _ _ _ served.0 _ _ _ _ (c.take_input.ensures.steps.stays (λ _. begun) honest) served.3 (served.4 (λ _. begun) honest),
    )
