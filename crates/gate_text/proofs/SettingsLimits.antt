-- What the text of settings says keeps the limits of settings.
use Rattle.std.proofs.Common.{◌≡◌, ◌≤◌, ◌+◌, ℕ, suc, pos, negsuc, Bool, true, false, cond, not, ◌&&◌, ◌||◌, inl, inr, List, [], ◌∷◌, ◌++◌, length, map, Option, Some, None, Ok, refl, sym, ◌∙◌, ap, arith}
use Rattle.std.proofs.lemmas.List.{length_push, length-map}
use Rattle.std.proofs.lemmas.List.Folds.{list_any-append}
use Rattle.std.specs.Int.{is_in_range}
use Rattle.std.specs.List.{fold, list_any}
use Rattle.std.specs.Option.{option_map, option_and_then, unwrap_or, ok_or}
use Rattle.std.specs.Str.{bytes_eq}
use Rattle.toml.specs.Data.{Data, Members, string, integer, float, boolean, datetime, array, table, get_member}
use Rattle.gate_text.specs.Arguments.{all_of, with_name}
use Rattle.gate_text.specs.Settings.{are_distinct, are_items, are_settings, is_size, key_name, read_at, items_in, listed, plain_in, statuses_in, texts_in, whole_in, if_distinct, if_there}
use Rattle.gate_text.specs.declared.settings.fault.Key.{Key}
use Rattle.gate_text.specs.declared.settings.fault.Key.TheVariants.{Status, TimeoutSec, BlockLabels, RequiredApprovals, MaxBatchSize, PrStatus}
use Rattle.gate_text.specs.declared.settings.fault.SettingsFault.{SettingsFault}
use Rattle.gate_text.specs.declared.settings.fault.SettingsFault.TheVariants.{BadKey}
use Rattle.gate_text.proofs.Tools.{bound, chosen, mapped}

-- NUMBERS
pub whole_within : (least most : ℕ) (value : Data) (n : ℕ) → whole_in least most value ≡ Some n → is_in_range least most n ≡ true
whole_within least most (integer (pos m)) n read = elim (chosen (is_in_range least most m) read) [
  | inl within ↦ let same : m ≡ n = cc within.1 in ap (is_in_range least most) (sym same) ∙ within.0
  | inr past ↦ cc past.1
]
whole_within least most (integer (negsuc m)) n read = cc read
whole_within least most (string text) n read = cc read
whole_within least most (float x) n read = cc read
whole_within least most (boolean b) n read = cc read
whole_within least most (datetime d) n read = cc read
whole_within least most (array items) n read = cc read
whole_within least most (table entries) n read = cc read

-- LISTS
counted : (least most : ℕ) (value : Data) (values : List Data) → items_in least most value ≡ Some values → is_in_range least most (length values) ≡ true
counted least most (array items) values read = elim (chosen (is_in_range least most (length (listed items))) read) [
  | inl within ↦ let same : listed items ≡ values = cc within.1 in ap (λ (v : List Data). is_in_range least most (length v)) (sym same) ∙ within.0
  | inr past ↦ cc past.1
]
counted least most (integer n) values read = cc read
counted least most (string text) values read = cc read
counted least most (float x) values read = cc read
counted least most (boolean b) values read = cc read
counted least most (datetime d) values read = cc read
counted least most (table entries) values read = cc read

length-all_of : {X : Type 0} (values : List (Option X)) (xs : List X) → all_of values ≡ Some xs → length xs ≡ length values
length-all_of [] xs read = let none : [] ≡ xs = cc read in ap length (sym none)
length-all_of (value ∷ values) xs read =
    let first = bound (λ x. option_map (λ others. x ∷ others) (all_of values)) value read in
    let others = mapped (λ more. first.0 ∷ more) (all_of values) first.2 in
    ap length (sym others.2) ∙ ap suc (length-all_of values others.0 others.1)

pub statuses_within : (value : Data) (texts : List (List ℕ)) → statuses_in value ≡ Some texts → are_items 1 64 texts ≡ true
statuses_within value texts read =
    let all = bound if_distinct (option_and_then (λ items. all_of (map plain_in items)) (items_in 1 64 value)) read in
    let items = bound (λ items. all_of (map plain_in items)) (items_in 1 64 value) all.1 in
    let size : length all.0 ≡ length items.0 = length-all_of (map plain_in items.0) all.0 items.2 ∙ length-map items.0 plain_in in
    elim (chosen (are_distinct bytes_eq all.0) all.2) [
      | inl distinct ↦
          let same : all.0 ≡ texts = cc distinct.1 in
          rw (← same, size, counted 1 64 value items.0 items.1) distinct.0
      | inr repeated ↦ cc repeated.1
    ]

-- LISTS OF WHICH LATER REPEATS ARE DROPPED
not_among : (text name : List ℕ) (texts : List (List ℕ)) → list_any (bytes_eq text) texts ≡ false → bytes_eq text name ≡ false → list_any (bytes_eq text) (texts ++ name ∷ []) ≡ false
not_among text name texts none other = list_any-append (bytes_eq text) texts (name ∷ []) ∙ rw (none, other) refl

distinct_push : (texts : List (List ℕ)) (name : List ℕ) → are_distinct bytes_eq texts ≡ true → list_any (λ other. bytes_eq other name) texts ≡ false → are_distinct bytes_eq (texts ++ name ∷ []) ≡ true
distinct_push [] name distinct none = refl
distinct_push (text ∷ texts) name distinct none = by (list_any (bytes_eq text) texts) refl (bytes_eq text name) refl (distinct_push texts name) distinct none where
  by : (among : Bool) → list_any (bytes_eq text) texts ≡ among → (same : Bool) → bytes_eq text name ≡ same
      → (are_distinct bytes_eq texts ≡ true → list_any (λ other. bytes_eq other name) texts ≡ false → are_distinct bytes_eq (texts ++ name ∷ []) ≡ true)
      → not among && are_distinct bytes_eq texts ≡ true → same || list_any (λ other. bytes_eq other name) texts ≡ false
      → not (list_any (bytes_eq text) (texts ++ name ∷ [])) && are_distinct bytes_eq (texts ++ name ∷ []) ≡ true
  by true among same is others distinct none = cc distinct
  by false among true is others distinct none = cc none
  by false among false is others distinct none = rw (not_among text name texts among is) (others distinct none)

still_distinct : (texts : List (List ℕ)) (name : List ℕ) → are_distinct bytes_eq texts ≡ true → are_distinct bytes_eq (with_name texts name) ≡ true
still_distinct texts name distinct = by (list_any (λ other. bytes_eq other name) texts) refl where
  by : (there : Bool) → list_any (λ other. bytes_eq other name) texts ≡ there → are_distinct bytes_eq (cond there texts (texts ++ name ∷ [])) ≡ true
  by true is = distinct
  by false is = distinct_push texts name distinct is

all_distinct : (texts more : List (List ℕ)) → are_distinct bytes_eq texts ≡ true → are_distinct bytes_eq (fold with_name texts more) ≡ true
all_distinct texts [] distinct = distinct
all_distinct texts (name ∷ more) distinct = all_distinct (with_name texts name) more (still_distinct texts name distinct)

one_at_most : (texts : List (List ℕ)) (name : List ℕ) (there : Bool) → length (cond there texts (texts ++ name ∷ [])) ≤ length texts + 1
one_at_most texts name true = omega arith
one_at_most texts name false = rw (length_push texts name) (omega arith)

no_more : (texts more : List (List ℕ)) → length (fold with_name texts more) ≤ length texts + length more
no_more texts [] = omega arith
no_more texts (name ∷ more) = omega (arith, no_more (with_name texts name) more, one_at_most texts name (list_any (λ other. bytes_eq other name) texts))

pub texts_within : (value : Data) (texts : List (List ℕ)) → texts_in value ≡ Some texts → are_items 0 64 texts ≡ true
texts_within value texts read =
    let items = bound (λ items. option_map (fold with_name []) (all_of (map plain_in items))) (items_in 0 64 value) read in
    let all = mapped (fold with_name []) (all_of (map plain_in items.0)) items.2 in
    let size : length all.0 ≡ length items.0 = length-all_of (map plain_in items.0) all.0 all.1 ∙ length-map items.0 plain_in in
    let few : is_in_range 0 64 (length (fold with_name [] all.0)) ≡ true =
    within_few (length items.0) (length (fold with_name [] all.0)) (counted 0 64 value items.0 items.1) (omega (arith, no_more [] all.0, size)) in
    rw (← all.2, few) (all_distinct [] all.0 refl)
  where
    within_few : (m n : ℕ) → is_in_range 0 64 m ≡ true → n ≤ m → is_in_range 0 64 n ≡ true
    within_few m n within less = search (arith)

-- A KEY THAT MAY BE ABSENT
pub read_within : {X : Type 0} (P : Option X → Type 0) (key : Key) (read : Data → Option X) → P None → ((value : Data) (x : X) → read value ≡ Some x → P (Some x))
    → (found : Option Data) (r : Option X) → if_there key read found ≡ Ok r → P r
read_within P key read none some None r is = let same : None ≡ r = cc is in rw (← same) none
read_within {X} P key read none some (Some value) r is = by (read value) refl is where
  by : (given : Option X) → read value ≡ given → ok_or (option_map Some given) (BadKey key) ≡ Ok r → P r
  by None given is = cc is
  by (Some x) given is = let same : Some x ≡ r = cc is in rw (← same) (some value x given)

-- ALL VALUES
given : {X : Type 0} (found : Option X) (fault : SettingsFault) (x : X) → ok_or found fault ≡ Ok x → found ≡ Some x
given None fault x is = cc is
given (Some y) fault x is = let same : y ≡ x = cc is in ap Some same

size_within : (value : Data) (size : ℕ) → whole_in 1 1000 value ≡ Some size → is_size (Some size) ≡ true
size_within value size read = whole_within 1 1000 value size read

pub settings_within : (members : Members) (value : Data) (status : List (List ℕ)) (timeout : Option ℕ) (labels : Option (List (List ℕ))) (approvals size : Option ℕ) (own : Option (List (List ℕ)))
    → ok_or (statuses_in value) (BadKey Status) ≡ Ok status → read_at TimeoutSec (whole_in 1 2147483647) members ≡ Ok timeout → read_at BlockLabels texts_in members ≡ Ok labels
    → read_at RequiredApprovals (whole_in 0 100) members ≡ Ok approvals → read_at MaxBatchSize (whole_in 1 1000) members ≡ Ok size
    → read_at PrStatus texts_in members ≡ Ok own
    → are_settings (record { status = status; timeout_sec = unwrap_or timeout 3600; block_labels = unwrap_or labels []; required_approvals = unwrap_or approvals 0; max_batch_size = size; pr_status = unwrap_or own [] }) ≡ true
settings_within members value status timeout labels approvals size own is_status is_timeout is_labels are_approvals is_max is_own =
    rw (
      statuses_within value status (given (statuses_in value) (BadKey Status) status is_status),
      read_within (λ r. is_in_range 1 2147483647 (unwrap_or r 3600) ≡ true) TimeoutSec (whole_in 1 2147483647) refl (whole_within 1 2147483647) (get_member (key_name TimeoutSec) members) timeout is_timeout,
      read_within (λ r. are_items 0 64 (unwrap_or r []) ≡ true) BlockLabels texts_in refl texts_within (get_member (key_name BlockLabels) members) labels is_labels,
      read_within (λ r. is_in_range 0 100 (unwrap_or r 0) ≡ true) RequiredApprovals (whole_in 0 100) refl (whole_within 0 100) (get_member (key_name RequiredApprovals) members) approvals are_approvals,
      read_within (λ r. is_size r ≡ true) MaxBatchSize (whole_in 1 1000) refl size_within (get_member (key_name MaxBatchSize) members) size is_max,
      read_within (λ r. are_items 0 64 (unwrap_or r []) ≡ true) PrStatus texts_in refl texts_within (get_member (key_name PrStatus) members) own is_own,
    ) refl
