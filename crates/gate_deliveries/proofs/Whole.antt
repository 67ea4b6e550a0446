-- Nothing that is written holds a float, so its text is compact.
use Rattle.std.proofs.Common.{◌≡◌, false, refl}
use Rattle.serde_json.specs.Written.{has_float}
use Rattle.gate_deliveries.specs.Errors.{error_data}
use Rattle.gate_deliveries.specs.declared.reading.DeliveryFault.{DeliveryFault}
use Rattle.gate_deliveries.specs.declared.reading.DeliveryFault.TheVariants.{NotJson, BadField, UnknownEvent, Memory}

pub error_whole : (fault : DeliveryFault) → has_float (error_data fault) ≡ false
error_whole NotJson = refl
error_whole (BadField field) = refl
error_whole UnknownEvent = refl
error_whole Memory = refl
