use Rattle.std.proofs.Common.{◌∙◌, ap₂}
use Rattle.std.proofs.lemmas.Result.{IfOk-weaker}
use Rattle.clap.specs.Words.{App, with_subcommand}
use Rattle.gate_words.proofs.command.with_serve.Goals as goal

pub returns : goal.returns
returns c = IfOk-weaker c.subcommand.result _ _ (λ made adds.
    adds.shape c.in_ok-serve.ensures.local ∙ ap₂ (λ (a b : App). with_subcommand a b.top) c.in_ok-with_guard.ensures c.in_ok-serve.ensures.words) c.subcommand.ensures
