use Rattle.std.proofs.Common.{◌≡◌, ◌++◌, List, ℕ, pos, OnOk, map, subst, to_z-of_z}
use Rattle.gate_rows.specs.Encoding.{mark}
use Rattle.gate_text.specs.Finite.{words_are}
use Rattle.gate_rows.proofs.rows.marks.words.push_set.Goals as goal

pub returns : goal.returns
returns g c =
    let listed = words_are _ _ c.push_texts.ensures.ordered c.texts.ensures.value in
    subst (λ (words : List (List ℕ)). OnOk c.push_texts.result (c.push_texts.new.rows.items ≡ c.args.rows.now.items ++ map (λ word. mark c.args.change c.args.kind (pos 0, word)) words)) listed
    (rw (to_z-of_z c.ranges.kind) at c.push_texts.ensures.value)
