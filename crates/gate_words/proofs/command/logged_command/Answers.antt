use Rattle.std.proofs.Common.{◌∙◌, ◌||◌, ap₂}
use Rattle.std.proofs.lemmas.Result.{IfOk-weaker}
use Rattle.clap.specs.Words.{with_rule}
use Rattle.gate_words.proofs.command.logged_command.Goals as goal

pub returns-clause-words : goal.returns-clause-words
returns-clause-words c = IfOk-weaker c.arg.result _ _ (λ made adds. adds.shape c.flag.ensures.local ∙ ap₂ with_rule c.in_ok-guarded_command.ensures.words c.flag.ensures.rule) c.arg.ensures

pub returns-clause-local : goal.returns-clause-local
returns-clause-local c = IfOk-weaker c.arg.result _ _ (λ made adds. adds.globals ∙ ap₂ (◌||◌) c.in_ok-guarded_command.ensures.local c.flag.ensures.local) c.arg.ensures
