-- A change joins the batch at a place.
use Rattle.std.proofs.Common.{◌≡◌, ℕ, ℤ, List, slice_get, slice_set, Option, Some, ap}
use Rattle.gate_state.specs.Lanes.{with_change, entered}
use Rattle.gate_state.specs.declared.batch.Batch.{Batch}

pub joined_at : (number : ℕ) (priority : ℤ) (change : ℕ) (waiting : List Batch) (place : ℕ) (old new : Batch) (found : Option ℕ) → Some place ≡ found → slice_get waiting place ≡ Some old
    → new ≡ with_change change old → slice_set waiting place new ≡ entered number priority change waiting found
joined_at number priority change waiting place old new found is there joined = rw (← is, there) (ap (λ (batch : Batch). slice_set waiting place batch) joined)
