use Rattle.std.proofs.Common.{◌≡◌, List, ℕ, Option, IfOk, map, subst}
use Rattle.std.specs.Cmp.{nat_cmp_total}
use Rattle.std.specs.FinSet.{nat_cmp-IsAntisymmetric}
use Rattle.std.specs.List.{filter_map}
use Rattle.gate_state.specs.declared.batch.Batch.{Batch}
use Rattle.gate_rows.proofs.Entries.{entries_are}
use Rattle.gate_rows.proofs.rows.batches.batches_then.Goals as goal

pub returns : goal.returns
returns c =
    let listed = entries_are nat_cmp_total nat_cmp-IsAntisymmetric _ _ c.noted_batches.ensures.ordered c.batches.ensures.value in
    subst (λ (entries : List (ℕ × Option Batch)). IfOk c.noted_batches.result (λ batches. map (λ batch. batch.now) batches.items ≡ filter_map (λ (e : ℕ × Option Batch). e.1) entries)) listed c.noted_batches.ensures.value
