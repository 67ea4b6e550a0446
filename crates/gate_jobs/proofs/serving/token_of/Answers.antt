use Rattle.std.proofs.Common.{ℕ, List, Result, subst, sym}
use Rattle.gate_jobs.proofs.Tokens.{told-of}
use Rattle.gate_jobs.specs.Serving.{IsTokenOf}
use Rattle.gate_jobs.specs.declared.fault.JobFault.{JobFault}
use Rattle.gate_jobs.proofs.serving.token_of.Goals as goal

pub returns : goal.returns
returns g c =
    let before = g.R.Read.remaining c.args.file.now in
    let after = g.R.Read.remaining c.read_token.new.reader in
    record {
      token = subst (λ (told : Result (List ℕ) JobFault). IsTokenOf told before after) (sym c.token_told.ensures)
          (told-of c.read_token.result before after c.read_token.ensures.read);
    }
