use Rattle.std.proofs.Common.{rules}
use Rattle.gate_store.proofs.keeper.Keeper.step.Goals as goal

pub returns-in_err-commit-clause-steps : goal.returns-in_err-commit-clause-steps
returns-in_err-commit-clause-steps g c = record {
  book = search rules;
  tells = search rules;
  err = search rules;
  full = search rules;
  cause = search rules;
  outlasts = search rules;
  stays = search rules;
}
