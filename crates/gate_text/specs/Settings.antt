-- SETTINGS: what the text of a `bors.toml` says (TOML 1.1), or why it is refused.
use Rattle.std.specs.Prelude.{◌≡◌, ℕ, nat_eq, ◌==◌, pos, Bool, true, not, ◌&&◌, List, [], ◌∷◌, length, map, Option, Some, None, Result, Ok, Err, codes, if◌then◌else◌}
use Rattle.std.specs.Int.{is_in_range}
use Rattle.std.specs.List.{fold, list_any}
use Rattle.std.specs.Cmp.Lexicographic.{pointwise}
use Rattle.std.specs.Option.{option_map, option_and_then, option_eq, unwrap_or, ok_or}
use Rattle.std.specs.Result.{result_ok}
use Rattle.std.specs.Str.{bytes_eq}
use Rattle.toml.specs.Data.{Data, integer, array, Items, no_items, item, Members, as_str, get_member}
use Rattle.toml.specs.Parse.{parse_document}
use Rattle.gate_text.specs.Arguments.{all_of, with_name}
use Rattle.gate_text.specs.SmallTexts.{plain_of}
use Rattle.gate_text.specs.Steps.{◌>>=◌}
use Rattle.gate_text.specs.declared.settings.fault.Key.{Key}
use Rattle.gate_text.specs.declared.settings.fault.Key.TheVariants.{Status, TimeoutSec, BlockLabels, RequiredApprovals, MaxBatchSize, PrStatus}
use Rattle.gate_text.specs.declared.settings.fault.SettingsFault.{SettingsFault}
use Rattle.gate_text.specs.declared.settings.fault.SettingsFault.TheVariants.{NotToml, NoStatus, BadKey, Memory}

-- times in seconds; no greatest size: no limit
pub record SettingsView : Type 0 where
  pub status : List (List ℕ)
  pub timeout_sec : ℕ
  pub block_labels : List (List ℕ)
  pub required_approvals : ℕ
  pub max_batch_size : Option ℕ
  pub pr_status : List (List ℕ)

-- whether all six values are equal, lists in their order
abbrev pub same_settings : SettingsView → SettingsView → Bool
same_settings one other =
    pointwise (pointwise nat_eq) one.status other.status
    && ((one.timeout_sec == other.timeout_sec)
    && (pointwise (pointwise nat_eq) one.block_labels other.block_labels
    && ((one.required_approvals == other.required_approvals)
    && (option_eq nat_eq one.max_batch_size other.max_batch_size
    && pointwise (pointwise nat_eq) one.pr_status other.pr_status))))

-- THEIR LIMITS
abbrev pub are_distinct : {X : Type 0} → (X → X → Bool) → List X → Bool
are_distinct is_same [] = true
are_distinct is_same (x ∷ xs) = not (list_any (is_same x) xs) && are_distinct is_same xs

-- so many texts, no two the same
abbrev pub are_items : ℕ → ℕ → List (List ℕ) → Bool
are_items least most texts = is_in_range least most (length texts) && are_distinct bytes_eq texts

abbrev pub is_size : Option ℕ → Bool
is_size None = true
is_size (Some size) = is_in_range 1 1000 size

abbrev pub are_settings : SettingsView → Bool
are_settings s =
    are_items 1 64 s.status
    && (is_in_range 1 2147483647 s.timeout_sec
    && (are_items 0 64 s.block_labels
    && (is_in_range 0 100 s.required_approvals
    && (is_size s.max_batch_size
    && are_items 0 64 s.pr_status))))

abbrev pub if_settings : SettingsView → Option SettingsView
if_settings s = if are_settings s then Some s else None

-- VALUES
-- a whole number from the least to the most
abbrev pub whole_in : ℕ → ℕ → Data → Option ℕ
whole_in least most (integer (pos n)) = if is_in_range least most n then Some n else None
whole_in least most _ = None

-- the items of an array that has so many
abbrev pub listed : Items → List Data
listed no_items = []
listed (item first others) = first ∷ listed others

abbrev pub items_in : ℕ → ℕ → Data → Option (List Data)
items_in least most (array items) = if is_in_range least most (length (listed items)) then Some (listed items) else None
items_in least most _ = None

-- a label, or the name of a status
abbrev pub plain_in : Data → Option (List ℕ)
plain_in value = option_and_then (λ text. result_ok (plain_of text)) (as_str value)

-- 1 to 64 names of statuses, no two the same
abbrev pub if_distinct : List (List ℕ) → Option (List (List ℕ))
if_distinct texts = if are_distinct bytes_eq texts then Some texts else None

abbrev pub statuses_in : Data → Option (List (List ℕ))
statuses_in value = option_and_then if_distinct (option_and_then (λ items. all_of (map plain_in items)) (items_in 1 64 value))

-- 0 to 64 labels or names of statuses, of which a later repeat is dropped
abbrev pub texts_in : Data → Option (List (List ℕ))
texts_in value = option_and_then (λ items. option_map (fold with_name []) (all_of (map plain_in items))) (items_in 0 64 value)

-- KEYS
abbrev pub key_name : Key → List ℕ
key_name Status = codes "status"
key_name TimeoutSec = codes "timeout_sec"
key_name BlockLabels = codes "block_labels"
key_name RequiredApprovals = codes "required_approvals"
key_name MaxBatchSize = codes "max_batch_size"
key_name PrStatus = codes "pr_status"

-- what is read at a key that may be absent
abbrev pub if_there : {X : Type 0} → Key → (Data → Option X) → Option Data → Result (Option X) SettingsFault
if_there key read None = Ok None
if_there key read (Some value) = ok_or (option_map Some (read value)) (BadKey key)

abbrev pub read_at : {X : Type 0} → Key → (Data → Option X) → Members → Result (Option X) SettingsFault
read_at key read table = if_there key read (get_member (key_name key) table)

-- SETTINGS: `status` has to be there; the keys are checked in this order, and all others are ignored.
abbrev pub settings_in : Members → Result SettingsView SettingsFault
settings_in table = do
  value ← ok_or (get_member (key_name Status) table) NoStatus
  status ← ok_or (statuses_in value) (BadKey Status)
  timeout_sec ← read_at TimeoutSec (whole_in 1 2147483647) table
  block_labels ← read_at BlockLabels texts_in table
  required_approvals ← read_at RequiredApprovals (whole_in 0 100) table
  max_batch_size ← read_at MaxBatchSize (whole_in 1 1000) table
  pr_status ← read_at PrStatus texts_in table
  Ok (record {
    status = status;
    timeout_sec = unwrap_or timeout_sec 3600;
    block_labels = unwrap_or block_labels [];
    required_approvals = unwrap_or required_approvals 0;
    max_batch_size = max_batch_size;
    pr_status = unwrap_or pr_status [];
  })

unfoldable pub settings_of : List ℕ → Result SettingsView SettingsFault
settings_of text = ok_or (parse_document text) NotToml >>= settings_in

-- What is answered if `reading` is what the text says. Want of memory is `toml`'s to meet, which takes memory while it
-- reads; every other refusal is the text's.
abbrev pub Gives : {X : Type 0} → Result X SettingsFault → Result X SettingsFault → Type 0
Gives (Ok value) reading = reading ≡ Ok value
Gives (Err Memory) reading = Unit {0}
Gives (Err NotToml) reading = reading ≡ Err NotToml
Gives (Err NoStatus) reading = reading ≡ Err NoStatus
Gives (Err (BadKey key)) reading = reading ≡ Err (BadKey key)

abbrev pub fault_number : SettingsFault → ℕ
fault_number NotToml = 1
fault_number NoStatus = 2
fault_number (BadKey key) = 3
fault_number Memory = 4
