use Rattle.std.proofs.Common.{◌≡◌, Bool, true, false, cond, List, ℕ, Option, Some, None, Ok, Err, is_some, refl, sym, ◌∙◌, ap}
use Rattle.std.proofs.lemmas.Str.{is_utf8-from_IsUtf8, IsUtf8-from_is_utf8}
use Rattle.std.specs.Str.{IsUtf8, is_utf8}
use Rattle.serde_json.specs.Data.{Data, null, boolean, number, string, array, object}
use Rattle.serde_json.specs.Find.{as_object}
use Rattle.serde_json.specs.Read.{read}
use Rattle.serde_json.specs.View.{view}
use Rattle.gate_deliveries.specs.Deliveries.{object_in, object_of}
use Rattle.gate_deliveries.specs.declared.reading.DeliveryFault.TheVariants.{NotJson}
use Rattle.gate_deliveries.proofs.reading.object_in.Goals as goal

-- an object is taken as it is
object_kept : (d : Data) → is_some (as_object d) ≡ true → object_in (Some d) ≡ Ok d
object_kept null is = cc is
object_kept (boolean b) is = cc is
object_kept (number n) is = cc is
object_kept (string s) is = cc is
object_kept (array ds) is = cc is
object_kept (object ms) is = refl

-- a text that is UTF-8, and what was read of it
text_read : (text : List ℕ) (d : Option Data) → IsUtf8 text → read text ≡ d → object_of text ≡ object_in d
text_read text d utf8 is = ap (λ (b : Bool). cond b (object_in (read text)) (Err NotJson)) (is_utf8-from_IsUtf8 text utf8) ∙ ap object_in is

-- a text that holds no JSON value, or isn't UTF-8
none_read : (text : List ℕ) (b : Bool) → is_utf8 text ≡ b → (IsUtf8 text → read text ≡ None) → cond b (object_in (read text)) (Err NotJson) ≡ Err NotJson
none_read text true utf8 none = ap object_in (none (IsUtf8-from_is_utf8 text utf8))
none_read text false utf8 none = refl

pub returns-else-not-is_object : goal.returns-else-not-is_object
returns-else-not-is_object c =
    text_read c.args.text.now _ c.in-Ok.ensures.ok.0 c.in-Ok.ensures.ok.1 ∙ object_kept (view c.in-Ok.value) (sym c.if-not-is_object.ensures)

pub returns-else-is_memory : goal.returns-else-is_memory
returns-else-is_memory c =
    none_read c.args.text.now _ refl (c.in-Err.ensures.err (λ memory. cc (c.if-is_memory.ensures.1 memory)))
