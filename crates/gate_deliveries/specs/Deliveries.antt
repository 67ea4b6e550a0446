-- DELIVERIES: the delivery that a text is, as JSON (RFC 8259), or why it is none.
use Rattle.std.specs.Prelude.{◌≡◌, ℕ, nat_le, Bool, ◌&&◌, List, Option, Some, None, Result, Ok, Err, option_and_then, ok_or, codes, if◌then◌else◌}
use Rattle.std.specs.Result.{result_ok}
use Rattle.std.specs.Str.{bytes_eq, is_utf8}
use Rattle.serde_json.specs.Data.{Data, object}
use Rattle.serde_json.specs.Find.{get, as_str, as_bool, as_u64, as_number}
use Rattle.serde_json.specs.Read.{read}
use Rattle.gate_text.specs.Steps.{◌>>=◌}
use Rattle.gate_text.specs.SmallTexts.{name_of, plain_of, commit_of, delivery_id_of}
use Rattle.gate_text.specs.declared.fault.TextFault.{TextFault}
use Rattle.gate_text.specs.declared.fault.TextFault.TheVariants as text_fault
use Rattle.serde_json.specs.View.{view}
use Rattle.serde_json.specs.declared.value.Value.{Value}
use Rattle.std.specs.Borrow.{Bor}
use Rattle.gate_rules.specs.declared.role.Role.{Role as RoleOf}
use Rattle.gate_rules.specs.Words.{role_called}
use Rattle.gate_state.specs.Words.{state_called}
use Rattle.gate_state.specs.declared.act.ChangeFact.TheVariants.{Opened, Pushed, Closed, Labeled, Unlabeled, Review}
use Rattle.gate_state.specs.declared.act.Fact.TheVariants.{Role, Settings, Base, Staged, Conflict, Status, Refused, Tick}
use Rattle.gate_state.specs.declared.act.StatusState.{StatusState}
use Rattle.gate_deliveries.specs.declared.delivery.Delivery.{Delivery}
use Rattle.gate_deliveries.specs.declared.delivery.Event.{Event}
use Rattle.gate_deliveries.specs.declared.delivery.Event.TheVariants.{Comment, On, Other}
use Rattle.gate_deliveries.specs.declared.field.Field.{Field}
use Rattle.gate_deliveries.specs.declared.field.Field.TheVariants as field
use Rattle.gate_deliveries.specs.declared.reading.DeliveryFault.{DeliveryFault}
use Rattle.gate_deliveries.specs.declared.reading.DeliveryFault.TheVariants.{NotJson, BadField, UnknownEvent, Memory}

-- What `read_delivery` answers if `reading` is what the text says. Want of memory is `serde_json`'s to meet.
abbrev pub Reads : {X : Type 0} → Result X DeliveryFault → Result X DeliveryFault → Type 0
Reads (Ok value) reading = reading ≡ Ok value
Reads (Err Memory) reading = Unit {0}
Reads (Err NotJson) reading = reading ≡ Err NotJson
Reads (Err (BadField name)) reading = reading ≡ Err (BadField name)
Reads (Err UnknownEvent) reading = reading ≡ Err UnknownEvent

-- FIELDS
abbrev pub field_name : Field → List ℕ
field_name field.Id = codes "id"
field_name field.Event = codes "event"
field_name field.Change = codes "change"
field_name field.Person = codes "person"
field_name field.Text = codes "text"
field_name field.Role = codes "role"
field_name field.Author = codes "author"
field_name field.Head = codes "head"
field_name field.Commit = codes "commit"
field_name field.Label = codes "label"
field_name field.Approves = codes "approves"
field_name field.Batch = codes "batch"
field_name field.Name = codes "name"
field_name field.State = codes "state"
field_name field.Now = codes "now"

-- a value that has to be there, or the refusal that names its field
abbrev pub required : {X : Type 0} → Field → Option X → Result X DeliveryFault
required name value = ok_or value (BadField name)

abbrev pub text_at : Field → Data → Result (List ℕ) DeliveryFault
text_at name d = required name (option_and_then as_str (get (field_name name) d))

abbrev pub id_at : Data → Result (List ℕ) DeliveryFault
id_at d = do
  text ← text_at field.Id d
  required field.Id (result_ok (delivery_id_of text))

-- the number, if it is within the limits
abbrev pub between : ℕ → ℕ → ℕ → Option ℕ
between least greatest n = if nat_le least n && nat_le n greatest then Some n else None

-- such a number that stands at a field, written in digits alone
abbrev pub number_at : Field → ℕ → ℕ → Data → Result ℕ DeliveryFault
number_at name least greatest d = required name (option_and_then (between least greatest) (option_and_then as_u64 (option_and_then as_number (get (field_name name) d))))

abbrev pub change_at : Data → Result ℕ DeliveryFault
change_at d = number_at field.Change 1 4_294_967_295 d

abbrev pub batch_at : Data → Result ℕ DeliveryFault
batch_at d = number_at field.Batch 1 9_000_000_000_000_000 d

abbrev pub now_at : Data → Result ℕ DeliveryFault
now_at d = number_at field.Now 0 9_000_000_000_000_000 d

abbrev pub name_at : Field → Data → Result (List ℕ) DeliveryFault
name_at name d = do
  text ← text_at name d
  required name (result_ok (name_of text))

abbrev pub commit_at : Field → Data → Result (List ℕ) DeliveryFault
commit_at name d = do
  text ← text_at name d
  required name (result_ok (commit_of text))

abbrev pub label_at : Data → Result (List ℕ) DeliveryFault
label_at d = do
  text ← text_at field.Label d
  required field.Label (result_ok (plain_of text))

abbrev pub context_at : Data → Result (List ℕ) DeliveryFault
context_at d = do
  text ← text_at field.Name d
  required field.Name (result_ok (plain_of text))

abbrev pub approves_at : Data → Result Bool DeliveryFault
approves_at d = required field.Approves (option_and_then as_bool (get (field_name field.Approves) d))

abbrev pub role_at : Data → Result RoleOf DeliveryFault
role_at d = do
  text ← text_at field.Role d
  required field.Role (role_called text)

abbrev pub state_at : Data → Result StatusState DeliveryFault
state_at d = do
  text ← text_at field.State d
  required field.State (state_called text)

-- EVENTS: the fields of each, in the order in which they are checked
abbrev pub comment_in : Data → Result Event DeliveryFault
comment_in d = do
  change ← change_at d
  person ← name_at field.Person d
  text ← text_at field.Text d
  Ok (Comment change person text)

abbrev pub role_in : Data → Result Event DeliveryFault
role_in d = do
  person ← name_at field.Person d
  role ← role_at d
  Ok (Other (Role person role))

abbrev pub settings_in : Data → Result Event DeliveryFault
settings_in d = do
  text ← text_at field.Text d
  Ok (Other (Settings text))

abbrev pub opened_in : Data → Result Event DeliveryFault
opened_in d = do
  change ← change_at d
  author ← name_at field.Author d
  head ← commit_at field.Head d
  Ok (On change (Opened author head))

abbrev pub base_in : Data → Result Event DeliveryFault
base_in d = do
  commit ← commit_at field.Commit d
  Ok (Other (Base commit))

abbrev pub pushed_in : Data → Result Event DeliveryFault
pushed_in d = do
  change ← change_at d
  head ← commit_at field.Head d
  Ok (On change (Pushed head))

abbrev pub closed_in : Data → Result Event DeliveryFault
closed_in d = do
  change ← change_at d
  Ok (On change Closed)

abbrev pub labeled_in : Data → Result Event DeliveryFault
labeled_in d = do
  change ← change_at d
  label ← label_at d
  Ok (On change (Labeled label))

abbrev pub unlabeled_in : Data → Result Event DeliveryFault
unlabeled_in d = do
  change ← change_at d
  label ← label_at d
  Ok (On change (Unlabeled label))

abbrev pub review_in : Data → Result Event DeliveryFault
review_in d = do
  change ← change_at d
  person ← name_at field.Person d
  head ← commit_at field.Head d
  approves ← approves_at d
  Ok (On change (Review person head approves))

abbrev pub staged_in : Data → Result Event DeliveryFault
staged_in d = do
  batch ← batch_at d
  commit ← commit_at field.Commit d
  Ok (Other (Staged batch commit))

abbrev pub conflict_in : Data → Result Event DeliveryFault
conflict_in d = do
  batch ← batch_at d
  Ok (Other (Conflict batch))

abbrev pub status_in : Data → Result Event DeliveryFault
status_in d = do
  commit ← commit_at field.Commit d
  name ← context_at d
  state ← state_at d
  Ok (Other (Status commit name state))

abbrev pub refused_in : Data → Result Event DeliveryFault
refused_in d = do
  batch ← batch_at d
  Ok (Other (Refused batch))

abbrev pub tick_in : Data → Result Event DeliveryFault
tick_in d = do
  now ← now_at d
  Ok (Other (Tick now))

abbrev pub event_called : List ℕ → Data → Result Event DeliveryFault
event_called kind d =
    if bytes_eq kind (codes "comment") then comment_in d
    else (if bytes_eq kind (codes "role") then role_in d
    else (if bytes_eq kind (codes "settings") then settings_in d
    else (if bytes_eq kind (codes "base") then base_in d
    else (if bytes_eq kind (codes "opened") then opened_in d
    else (if bytes_eq kind (codes "pushed") then pushed_in d
    else (if bytes_eq kind (codes "closed") then closed_in d
    else (if bytes_eq kind (codes "labeled") then labeled_in d
    else (if bytes_eq kind (codes "unlabeled") then unlabeled_in d
    else (if bytes_eq kind (codes "review") then review_in d
    else (if bytes_eq kind (codes "staged") then staged_in d
    else (if bytes_eq kind (codes "conflict") then conflict_in d
    else (if bytes_eq kind (codes "status") then status_in d
    else (if bytes_eq kind (codes "refused") then refused_in d
    else (if bytes_eq kind (codes "tick") then tick_in d
    else Err UnknownEvent))))))))))))))

-- DELIVERIES: the identifier first, then the event and its fields
abbrev pub delivery_in : Data → Result Delivery DeliveryFault
delivery_in d = do
  id ← id_at d
  kind ← text_at field.Event d
  event ← event_called kind d
  Ok (record { id = id; event = event })

-- The text has to be UTF-8, JSON, and an object.
abbrev pub object_in : Option Data → Result Data DeliveryFault
object_in (Some (object members)) = Ok (object members)
object_in _ = Err NotJson

abbrev pub object_of : List ℕ → Result Data DeliveryFault
object_of text = if is_utf8 text then object_in (read text) else Err NotJson

unfoldable pub delivery_of : List ℕ → Result Delivery DeliveryFault
delivery_of text = object_of text >>= delivery_in

-- WHAT THE CODE HOLDS, as clauses see it: a text that was found, an object that was read, a small text at a field
abbrev pub now_of : Result (Bor (List ℕ)) DeliveryFault → Result (List ℕ) DeliveryFault
now_of (Ok text) = Ok text.now
now_of (Err fault) = Err fault

abbrev pub view_of : Result Value DeliveryFault → Result Data DeliveryFault
view_of (Ok value) = Ok (view value)
view_of (Err fault) = Err fault

abbrev pub at_field : {X : Type 0} → Field → Result X TextFault → Result X DeliveryFault
at_field key (Ok value) = Ok value
at_field key (Err text_fault.Memory) = Err Memory
at_field key (Err text_fault.Empty) = Err (BadField key)
at_field key (Err text_fault.TooLong) = Err (BadField key)
at_field key (Err (text_fault.BadByte place)) = Err (BadField key)
at_field key (Err text_fault.BadNumber) = Err (BadField key)
