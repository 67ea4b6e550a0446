use Rattle.std.proofs.Common.{◌≡◌, ◌++◌, ◌+◌, ◌-◌, ◌<◌, ℕ, suc, Bor, List, [], map, Option, Some, None, append_assoc, refl, sym, ap, subst, ◌∙◌, arith}
use Rattle.std.specs.List.{cons_option, range_with_len}
use Rattle.gate_state.specs.declared.batch.Batch.{Batch}
use Rattle.gate_rows.specs.Parts.{batches_under}
use Rattle.gate_rows.proofs.rows.batches.push_new.Goals as goal

in_front : {X : Type 0} (one : Option X) (xs : List X) → cons_option one [] ++ xs ≡ cons_option one xs
in_front None xs = refl
in_front (Some x) xs = refl

left : (number next : ℕ) → number < next → next - number ≡ suc (next - (number + 1))
left number next below = omega (arith, below)

-- one number more of those that are left
one_more : (number next : ℕ) → number < next → range_with_len number (next - number) ≡ range_with_len number (suc (next - (number + 1)))
one_more number next below = ap (range_with_len number) (left number next below)

pub loop-number-preserved : goal.loop-number-preserved
loop-number-preserved c =
    let queue = c.args.gate.now.queue in
    let number = c.loop-number.number in
    let rest = batches_under (range_with_len (number + 1) (queue.next - (number + 1))) queue in
    let listed = map (λ (batch : Bor Batch). batch.now) c.loop-number.batches.items in
    let more = one_more number queue.next (subst (λ (end : ℕ). number < end) c.next-number-end.ensures.value c.loop-number-test.true) in
    ap (λ (batches : List Batch). batches ++ rest) c.in_ok-push_one.ensures ∙ append_assoc listed _ rest ∙ ap (λ (batches : List Batch). listed ++ batches) (in_front _ rest ∙ ap (λ (batch : Option Batch). cons_option batch rest) c.batch.ensures.value)
    ∙ ap (λ (numbers : List ℕ). listed ++ batches_under numbers queue) (sym more) ∙ c.loop-number.invariant
