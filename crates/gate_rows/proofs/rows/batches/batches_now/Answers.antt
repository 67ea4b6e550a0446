use Rattle.std.proofs.Common.{◌++◌, ◌-◌, Bor, map, sym, ap, ◌∙◌}
use Rattle.std.proofs.lemmas.List.Elements.{filter_map-append}
use Rattle.std.specs.Cmp.{nat_cmp_total}
use Rattle.std.specs.FinMap as finite
use Rattle.std.specs.FinSet.{nat_cmp-IsAntisymmetric}
use Rattle.std.specs.List.{range_with_len}
use Rattle.std.specs.Map.{keys_of}
use Rattle.gate_state.specs.Queue.{batch_numbered}
use Rattle.gate_state.specs.declared.batch.Batch.{Batch}
use Rattle.gate_rows.specs.Parts.{batches_under, new_numbers}
use Rattle.gate_rows.proofs.Entries.{entries_are}
use Rattle.gate_rows.proofs.rows.batches.batches_now.Goals as goal

pub returns : goal.returns
returns c =
    let queue = c.args.gate.now.queue in
    let before = c.args.before.now in
    let listed = entries_are nat_cmp_total nat_cmp-IsAntisymmetric _ _ c.push_present.ensures.ordered c.batches.ensures.value in
    let noted = c.in_ok-push_present.ensures.value ∙ (λ i. map (λ (batch : Bor Batch). batch.now) (c.new-batches.ensures.items i) ++ batches_under (keys_of (listed i)) queue) in
    let new = ap (λ next. batches_under (range_with_len next (queue.next - next)) queue) c.next.ensures.value in
    c.in_ok-push_new.ensures ∙ (λ i. noted i ++ new i) ∙ sym (filter_map-append (λ number. batch_numbered number queue) (finite.keys before.batches) (new_numbers before queue))
