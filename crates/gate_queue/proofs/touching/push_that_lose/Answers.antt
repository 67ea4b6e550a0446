use Rattle.std.proofs.Common.{◌≡◌, ◌+◌, ◌++◌, ℕ, Bool, List, [], ◌∷◌, drop, sym, ap, ◌∙◌, append_assoc}
use Rattle.std.proofs.lemmas.List.{drop_more}
use Rattle.gate_queue.proofs.Collecting.{numbers_so-more}
use Rattle.gate_queue.proofs.touching.push_that_lose.Goals as goal
use Rattle.gate_queue.specs.Touching.{numbers_so}
use Rattle.gate_state.specs.Lanes.{loses}
use Rattle.gate_queue.specs.Vocabulary.{Batch}

pub loop-batch-preserved : goal.loop-batch-preserved
loop-batch-preserved g c =
    let test : Batch → Bool = loses (λ change. g.C.Choice.chooses change c.args.choice.now) in
    let at = c.loop-batch.batch-index in
    let batch = c.batch-item.result in
    let rest = drop (at + 1) c.args.batches.now in
    let cut : drop at c.args.batches.now ≡ batch ∷ rest = drop_more c.args.batches.now at batch c.loop-batch-test.true ∙ ap (λ (b : Batch). b ∷ rest) (sym c.batch-item.is) in
    let pushed : c.push_if_losing.new.numbers.items ≡ c.loop-batch.numbers.items ++ numbers_so test (batch ∷ []) = c.in_ok-push_if_losing.ensures in
    let so_far : c.loop-batch.numbers.items ++ numbers_so test (drop at c.args.batches.now) ≡ c.args.numbers.now.items ++ numbers_so test c.args.batches.now = c.loop-batch.invariant in
    ap (λ (l : List ℕ). l ++ numbers_so test rest) pushed
    ∙ append_assoc c.loop-batch.numbers.items (numbers_so test (batch ∷ [])) (numbers_so test rest)
    ∙ ap (λ (l : List ℕ). c.loop-batch.numbers.items ++ l) (sym (numbers_so-more test batch rest) ∙ sym (ap (numbers_so test) cut))
    ∙ so_far
