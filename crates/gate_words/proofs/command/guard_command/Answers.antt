use Rattle.std.proofs.Common.{◌∙◌, ◌||◌, ap₂}
use Rattle.std.proofs.lemmas.Result.{IfOk-weaker}
use Rattle.clap.specs.Words.{with_rule}
use Rattle.gate_words.proofs.command.guard_command.Goals as goal

pub returns-clause-words : goal.returns-clause-words
returns-clause-words c = IfOk-weaker c.arg.result _ _ (λ made adds. adds.shape c.db.ensures.local ∙ ap₂ with_rule c.command.ensures.words c.db.ensures.rule) c.arg.ensures

pub returns-clause-local : goal.returns-clause-local
returns-clause-local c = IfOk-weaker c.arg.result _ _ (λ made adds. adds.globals ∙ ap₂ (◌||◌) c.command.ensures.local c.db.ensures.local) c.arg.ensures
