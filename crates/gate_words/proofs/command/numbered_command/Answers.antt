use Rattle.std.proofs.Common.{◌∙◌, ◌||◌, ap, ap₂, codes}
use Rattle.std.proofs.lemmas.Result.{IfOk-weaker}
use Rattle.clap.specs.Words.{with_rule}
use Rattle.gate_words.specs.Words.{number_rule}
use Rattle.gate_words.proofs.command.numbered_command.Goals as goal

pub returns-clause-words : goal.returns-clause-words
returns-clause-words c =
    let port = c.number.ensures.rule ∙ ap (number_rule (codes "port")) c.ports.ensures in
    let count = c.number-2.ensures.rule ∙ ap (number_rule (codes "count")) c.counts.ensures in
    let first = c.in_ok-arg.ensures.shape c.number.ensures.local ∙ ap₂ with_rule c.command.ensures.words port in
    IfOk-weaker c.arg-2.result _ _ (λ made adds. adds.shape c.number-2.ensures.local ∙ ap₂ with_rule first count) c.arg-2.ensures

pub returns-clause-local : goal.returns-clause-local
returns-clause-local c = IfOk-weaker c.arg-2.result _ _ (λ made adds.
    adds.globals ∙ ap₂ (◌||◌) (c.in_ok-arg.ensures.globals ∙ ap₂ (◌||◌) c.command.ensures.local c.number.ensures.local) c.number-2.ensures.local) c.arg-2.ensures
