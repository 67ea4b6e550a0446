-- The small texts: which texts each type takes, the value that is read, and the first check that fails.
use Rattle.std.specs.Prelude.{◌≡◌, ℕ, ◌+◌, ◌==◌, nat_lt, nat_eq, Bool, not, ◌||◌, List, length, drop, map, Option, Some, None, Result, Ok, Err, IsOk, codes, if◌then◌else◌}
use Rattle.std.specs.Char.{to_ascii_lowercase, is_ascii_alphanumeric, is_ascii_digit, is_ascii_graphic, is_ascii_control}
use Rattle.std.specs.Int.{is_in_range}
use Rattle.std.specs.List.{list_any, position, starts_with}
use Rattle.std.specs.Option.{option_map, option_or}
use Rattle.std.specs.Bool.{then_some}
use Rattle.std.specs.Str.Parse.{digits_value}
use Rattle.gate_text.specs.declared.fault.TextFault.{TextFault}
use Rattle.gate_text.specs.declared.fault.TextFault.TheVariants.{Empty, TooLong, BadByte, BadNumber, Memory}

-- The checks that all small texts share, in their order: the first that fails, if one does. `size` is the text's length
-- in bytes, `most` the greatest length allowed, and `bad` the place of its first byte that isn't allowed.
abbrev pub first_fault : ℕ → ℕ → Option ℕ → Option TextFault
first_fault size most bad =
    if size == 0 then Some Empty
    else (if nat_lt most size then Some TooLong
    else option_map BadByte bad)

-- the place of the first byte that is not good
abbrev pub first_bad : (ℕ → Bool) → List ℕ → Option ℕ
first_bad is_good text = position (λ b. not (is_good b)) text

-- the result, unless a check failed before
abbrev pub unless_refused : {X : Type 0} → Option TextFault → Result X TextFault → Result X TextFault
unless_refused None result = result
unless_refused (Some fault) result = Err fault

-- What `read` answers if `reading` is what the text says: the same, except that memory may be wanting for a text
-- that is good. So a bad text is never answered `Memory`.
abbrev pub Reads : {X : Type 0} → Result X TextFault → Result X TextFault → Type 0
Reads (Ok value) reading = reading ≡ Ok value
Reads (Err Memory) reading = IsOk reading
Reads (Err Empty) reading = reading ≡ Err Empty
Reads (Err TooLong) reading = reading ≡ Err TooLong
Reads (Err (BadByte place)) reading = reading ≡ Err (BadByte place)
Reads (Err BadNumber) reading = reading ≡ Err BadNumber

-- NAMES. One leading `@` is dropped; then 1 to 64 ASCII letters, digits, `-`, `_`, `.`, `[`, `]`; letters become lower case.
abbrev pub is_name_byte : ℕ → Bool
is_name_byte b = is_ascii_alphanumeric b || list_any (λ c. c == b) (codes "-_.[]")

abbrev pub begins_with_at : List ℕ → Bool
begins_with_at text = starts_with nat_eq text (codes "@")

-- how many bytes are dropped in front
abbrev pub dropped_count : List ℕ → ℕ
dropped_count text = if begins_with_at text then 1 else 0

abbrev pub without_at : List ℕ → List ℕ
without_at text = drop (dropped_count text) text

-- The place of a bad byte counts the dropped `@`.
unfoldable pub name_of : List ℕ → Result (List ℕ) TextFault
name_of text =
    unless_refused (first_fault (length (without_at text)) 64 (option_map (λ place. place + dropped_count text) (first_bad is_name_byte (without_at text))))
    (Ok (map to_ascii_lowercase (without_at text)))

-- DELIVERY IDENTIFIERS: 1 to 128 bytes from `!` to `~`.
unfoldable pub delivery_id_of : List ℕ → Result (List ℕ) TextFault
delivery_id_of text = unless_refused (first_fault (length text) 128 (first_bad is_ascii_graphic text)) (Ok text)

-- LABELS AND NAMES OF STATUSES: 1 to 255 bytes without control characters.
abbrev pub first_control : List ℕ → Option ℕ
first_control text = position is_ascii_control text

unfoldable pub plain_of : List ℕ → Result (List ℕ) TextFault
plain_of text = unless_refused (first_fault (length text) 255 (first_control text)) (Ok text)

-- COMMITS: exactly 40 of `0` to `9` and `a` to `f`. A text that ends too soon is bad at its end.
abbrev pub is_commit_digit : ℕ → Bool
is_commit_digit b = is_in_range 48 57 b || is_in_range 97 102 b

abbrev pub first_bad_or_end : List ℕ → Option ℕ
first_bad_or_end text = option_or (first_bad is_commit_digit text) (then_some (nat_lt (length text) 40) (length text))

unfoldable pub commit_of : List ℕ → Result (List ℕ) TextFault
commit_of text = unless_refused (first_fault (length text) 40 (first_bad_or_end text)) (Ok text)

-- CHANGE NUMBERS: 1 to 10 decimal digits that do not begin with `0`, at most 4294967295.
abbrev pub number_from : List ℕ → Result ℕ TextFault
number_from digits =
    if starts_with nat_eq digits (codes "0") || nat_lt 4294967295 (digits_value 10 digits) then Err BadNumber
    else Ok (digits_value 10 digits)

unfoldable pub change_no_of : List ℕ → Result ℕ TextFault
change_no_of text = unless_refused (first_fault (length text) 10 (first_bad is_ascii_digit text)) (number_from text)

-- the same from a number
abbrev pub change_no_from : ℕ → Option ℕ
change_no_from number = if number == 0 || nat_lt 4294967295 number then None else Some number
