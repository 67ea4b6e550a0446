use Rattle.std.proofs.Common.{◌≡◌, IfOk, List, ℕ, subst}
use Rattle.std.specs.String.{string_bytes}
use Rattle.gate_report.specs.Change.{listed}
use Rattle.gate_text.specs.Finite.{words_are}
use Rattle.gate_report.proofs.lists.word_list.Goals as goal

pub returns : goal.returns
returns g c =
    let is = words_are _ _ c.text_list.ensures.ordered c.texts.ensures.value in
    subst (λ (words : List (List ℕ)). IfOk c.text_list.result (λ text. string_bytes text ≡ listed words)) is c.text_list.ensures.value
