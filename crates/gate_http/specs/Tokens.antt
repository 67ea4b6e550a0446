-- TOKENS: which texts are one, and which requests bear the one that is needed (RFC 6750, section 2.1, and RFC 9110, section 11).
use Rattle.std.specs.Prelude.{ℕ, ◌-◌, ◌==◌, ◌&&◌, ◌||◌, nat_eq, nat_le, nat_lt, not, Bool, true, false, List, [], ◌∷◌, length, take, drop, map, Option, Some, None, codes, if◌then◌else◌}
use Rattle.std.specs.Char.{is_ascii_alphanumeric, to_ascii_lowercase}
use Rattle.std.specs.List.{before_first, ends_with, list_all, list_any, position_or_len}
use Rattle.std.specs.Str.{bytes_eq}

-- THE TEXT of a token: letters, digits and six signs, at least one of them, and then equals signs, if any. It has so many bytes at
-- the most.
abbrev pub max_token : ℕ
max_token = 1024

abbrev pub is_token_byte : ℕ → Bool
is_token_byte byte = is_ascii_alphanumeric byte || list_any (λ sign. sign == byte) (codes "-._~+/")

abbrev pub is_equals_sign : ℕ → Bool
is_equals_sign byte = byte == 61

abbrev pub before_equals_sign : List ℕ → List ℕ
before_equals_sign text = before_first is_equals_sign text

abbrev pub is_token : List ℕ → Bool
is_token text =
    nat_lt 0 (length (before_equals_sign text)) && (list_all is_token_byte (before_equals_sign text)
    && (list_all is_equals_sign (drop (length (before_equals_sign text)) text) && nat_le (length text) max_token))

-- a text without the end of its last line, if it has one: a line feed, with a carriage return before it or without one
abbrev pub without_line_end : List ℕ → List ℕ
without_line_end text =
    if ends_with nat_eq text (13 ∷ 10 ∷ []) then take (length text - 2) text
    else (if ends_with nat_eq text (10 ∷ []) then take (length text - 1) text
    else text)

-- the token that a file with these bytes holds, if it holds one and nothing else
abbrev pub token_in : List ℕ → Option (List ℕ)
token_in file = if is_token (without_line_end file) then Some (without_line_end file) else None

-- CREDENTIALS, the value of the field `Authorization`: a scheme, one or more spaces, and what stands behind them
abbrev pub is_space : ℕ → Bool
is_space byte = byte == 32

abbrev pub scheme_of : List ℕ → List ℕ
scheme_of value = before_first is_space value

-- what stands behind some spaces
abbrev pub is_no_space : ℕ → Bool
is_no_space byte = not (is_space byte)

abbrev pub without_spaces : List ℕ → List ℕ
without_spaces text = drop (position_or_len is_no_space text) text

abbrev pub credentials_of : List ℕ → List ℕ
credentials_of value = without_spaces (drop (length (scheme_of value)) value)

abbrev pub is_bearer : List ℕ → Bool
is_bearer scheme = bytes_eq (map to_ascii_lowercase scheme) (map to_ascii_lowercase (codes "Bearer"))

-- the scheme is `Bearer`, in either case, and behind it stands this token
abbrev pub bears : List ℕ → List ℕ → Bool
bears token value = is_bearer (scheme_of value) && bytes_eq (credentials_of value) token

-- WHO IS LET IN, by the values of the fields `Authorization`: everybody if no token is needed, and else who has one such field, which
-- bears the token
abbrev pub is_let_in : Option (List ℕ) → List (List ℕ) → Bool
is_let_in None values = true
is_let_in (Some token) [] = false
is_let_in (Some token) (value ∷ others) = length others == 0 && bears token value
