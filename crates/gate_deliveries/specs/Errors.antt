-- ERRORS AS TEXTS: the JSON of a refusal (RFC 8259), compact, the names of an object in the order of their bytes.
use Rattle.std.specs.Prelude.{ℕ, List, codes}
use Rattle.serde_json.specs.Data.{Data, number, unsigned, string, object, no_members, member}
use Rattle.serde_json.specs.Written.{compact_text}
use Rattle.gate_deliveries.specs.Deliveries.{field_name}
use Rattle.gate_deliveries.specs.declared.reading.DeliveryFault.{DeliveryFault}
use Rattle.gate_deliveries.specs.declared.reading.DeliveryFault.TheVariants.{NotJson, BadField, UnknownEvent, Memory}

abbrev pub error_named : List ℕ → ℕ → Data
error_named name n =
    object (member (codes "error") (string name)
    (member (codes "number") (number (unsigned n)) no_members))

abbrev pub error_data : DeliveryFault → Data
error_data NotJson = error_named (codes "NotJson") 1
error_data (BadField field) =
    object (member (codes "error") (string (codes "BadField"))
    (member (codes "field") (string (field_name field))
    (member (codes "number") (number (unsigned 2)) no_members)))
error_data UnknownEvent = error_named (codes "UnknownEvent") 3
error_data Memory = error_named (codes "Memory") 4

-- the text of an error
unfoldable pub error_text_of : DeliveryFault → List ℕ
error_text_of fault = compact_text (error_data fault)
