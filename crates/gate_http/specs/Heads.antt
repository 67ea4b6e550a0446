-- HEADS of requests (HTTP/1.0 and HTTP/1.1, RFC 9112), by the grammar of `httparse`: what a head asks for, or why the request is
-- refused.
use Rattle.std.specs.Prelude.{◌≡◌, ◌⊎◌, ℕ, ◌≤◌, ◌==◌, ◌&&◌, ◌||◌, nat_lt, nat_le, Bool, true, false, List, [], ◌∷◌, length, drop, map, Option, Some, None, Result, Ok, Err, codes}
use Rattle.std.specs.List.{before_first, filter, list_all}
use Rattle.std.specs.Char.{is_ascii_digit, to_ascii_lowercase}
use Rattle.std.specs.Str.{bytes_eq}
use Rattle.std.specs.Str.Parse.{digits_value}
use Rattle.httparse.specs.Grammar.{RequestHead, ReadsRequest, HasNoRequest, print_request}
use Rattle.httparse.specs.Spans.{IsWithin, RequestOverflows, name_and_value, span_bytes}
use Rattle.gate_text.specs.Steps.{◌>>=◌}
use Rattle.gate_http.specs.Targets.{method_of, target_of}
use Rattle.gate_http.specs.Tokens.{is_let_in}
use Rattle.gate_http.specs.declared.head.Ask.{Ask}
use Rattle.gate_http.specs.declared.head.Ask.TheVariants.{Delivery, Report}
use Rattle.gate_http.specs.declared.head.Found.{Found}
use Rattle.gate_http.specs.declared.head.Found.TheVariants.{Whole, Unfinished, Never}
use Rattle.gate_http.specs.declared.head.Head.{Head}
use Rattle.gate_http.specs.declared.head.RequestLine.{RequestLine}
use Rattle.gate_http.specs.declared.refusal.Refusal.{Refusal}
use Rattle.gate_http.specs.declared.refusal.Refusal.TheVariants.{BadRequest, Unauthorized, NotFound, MethodNotAllowed, NotImplemented, LengthRequired, ContentTooLarge}
use Rattle.gate_http.specs.declared.target.Target.{Target}
use Rattle.gate_http.specs.declared.target.Target.TheVariants.{Deliveries, Report as ReportOf}

-- LIMITS, in bytes and in fields
abbrev pub max_head : ℕ
max_head = 16384

abbrev pub max_fields : ℕ
max_fields = 64

abbrev pub max_body : ℕ
max_body = 65536

-- The input begins with this head, which keeps the limits, and then comes the rest.
pub record BeginsWith (input : List ℕ) (head : RequestHead) (rest : List ℕ) : Type 0 where
  pub reads : ReadsRequest input head rest
  pub size : length (print_request head) ≤ max_head
  pub fields : length head.fields ≤ max_fields

abbrev pub HasNoHead : List ℕ → Type 0
HasNoHead input = (head : RequestHead) (rest : List ℕ) → BeginsWith input head rest → ⊥

-- whether a field has this name, in either case
abbrev pub is_named : List ℕ → List ℕ × List ℕ → Bool
is_named name field = bytes_eq (map to_ascii_lowercase field.0) (map to_ascii_lowercase name)

-- the values of the fields of this name, in their order and without white space round them
abbrev pub values_in : List ℕ → List (List ℕ × List ℕ) → List (List ℕ)
values_in name fields = map (λ (field : List ℕ × List ℕ). field.1) (filter (is_named name) fields)

abbrev pub values_of : List ℕ → RequestHead → List (List ℕ)
values_of name head = values_in name (map name_and_value head.fields)

abbrev pub has_none : List (List ℕ) → Bool
has_none values = length values == 0

abbrev pub has_one : List (List ℕ) → Bool
has_one values = length values == 1

-- the bytes of a target up to its first question mark
abbrev pub path_of : List ℕ → List ℕ
path_of target = before_first (λ byte. byte == 63) target

-- one or more decimal digits, and nothing else
abbrev pub is_numeral : List ℕ → Bool
is_numeral digits = nat_lt 0 (length digits) && list_all is_ascii_digit digits

-- THE CHECKS of a request, in their order: the first that fails refuses it
abbrev pub checked : Bool → Refusal → Result (Unit {0}) Refusal
checked true refusal = Ok tt
checked false refusal = Err refusal

-- the length of a body, by the values of `Content-Length`
abbrev pub size_of : List ℕ → Result ℕ Refusal
size_of value = do
  numeral ← checked (is_numeral value) BadRequest
  fits ← checked (nat_le (digits_value 10 value) max_body) ContentTooLarge
  Ok (digits_value 10 value)

abbrev pub size_by : List (List ℕ) → Result ℕ Refusal
size_by [] = Err LengthRequired
size_by (value ∷ others) = do
  alone ← checked (has_none others) BadRequest
  size_of value

-- what the path names, if it names something
abbrev pub known : Option Target → Result Target Refusal
known (Some target) = Ok target
known None = Err NotFound

-- what a request to this target asks for: a delivery, which is a body of some length, or a report, whose body isn't looked at
abbrev pub ask_of : Target → RequestHead → Result Ask Refusal
ask_of Deliveries head = do
  encoding ← checked (has_none (values_of (codes "transfer-encoding") head)) NotImplemented
  size ← size_by (values_of (codes "content-length") head)
  Ok (Delivery size)
ask_of (ReportOf report) head = Ok (Report report)

-- with this method, which has to be that of the target
abbrev pub ask_by : Target → List ℕ → RequestHead → Result Ask Refusal
ask_by target method head = do
  right ← checked (bytes_eq method (method_of target)) (MethodNotAllowed target)
  ask_of target head

-- what a head asks for that is let in
abbrev pub ask_let_in : RequestHead → Result Ask Refusal
ask_let_in head = do
  host ← checked (head.minor == 0 || has_one (values_of (codes "host") head)) BadRequest
  target ← known (target_of (path_of head.target))
  ask_by target head.method head

-- what a head asks for, if this token is needed, or none: whether it is let in is looked at first
abbrev pub ask_in : Option (List ℕ) → RequestHead → Result Ask Refusal
ask_in token head = do
  let_in ← checked (is_let_in token (values_of (codes "authorization") head)) Unauthorized
  ask_let_in head

-- how many bytes of a body the answer needs
abbrev pub needed_by : Result Ask Refusal → ℕ
needed_by (Ok (Delivery size)) = size
needed_by (Ok (Report report)) = 0
needed_by (Err refusal) = 0

-- WHAT IS TOLD OF BYTES, for the contracts of the functions that look for a head in them

-- the first of some values, if there is one
abbrev pub first_value : List (List ℕ) → Option (List ℕ)
first_value [] = None
first_value (value ∷ others) = Some value

-- the method and the target of this head stand in the bytes, where it is told
pub record IsLineAt (told : Head) (bytes : List ℕ) (head : RequestHead) : Type 0 where
  pub method_within : IsWithin (length bytes) told.method
  pub target_within : IsWithin (length bytes) told.target
  pub method : span_bytes bytes told.method ≡ head.method
  pub target : span_bytes bytes told.target ≡ head.target

-- these bytes begin with a head, of which this is told, if this token is needed, or none
pub record IsHeadOf (token : Option (List ℕ)) (told : Head) (bytes : List ℕ) : Type 0 where
  pub head : RequestHead
  pub reads : ReadsRequest bytes head (drop told.len bytes)
  pub len : told.len ≡ length (print_request head)
  pub line : IsLineAt told bytes head
  pub fields : length head.fields ≤ max_fields
  pub ask : told.ask ≡ ask_in token head

abbrev pub IsFound : Option (List ℕ) → Found → List ℕ → Type 0
IsFound token (Whole told) bytes = IsHeadOf token told bytes
IsFound token Unfinished bytes = HasNoRequest bytes
IsFound token Never bytes = RequestOverflows max_fields bytes

-- the method and the path of the head with which these bytes begin, if they have one
abbrev pub IsLineOf : Option RequestLine → List ℕ → Type 0
IsLineOf None bytes = HasNoRequest bytes ⊎ RequestOverflows max_fields bytes
IsLineOf (Some line) bytes =
    (head : RequestHead) × (rest : List ℕ) × ReadsRequest bytes head rest × (line.method.now ≡ head.method) × (line.path.now ≡ path_of head.target)

-- these bytes begin with a head, whose method and target stand where this tells
abbrev pub HasLineAt : Head → List ℕ → Type 0
HasLineAt told bytes = (head : RequestHead) × (rest : List ℕ) × ReadsRequest bytes head rest × IsLineAt told bytes head

-- this was told of the head with which these bytes begin, or they have none
abbrev pub IsHeadRead : Option Head → List ℕ → Type 0
IsHeadRead None bytes = HasNoRequest bytes ⊎ RequestOverflows max_fields bytes
IsHeadRead (Some told) bytes = HasLineAt told bytes
