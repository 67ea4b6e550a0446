-- The fields of one name, as a loop comes to them.
use Rattle.std.proofs.Common.{◌≡◌, ℕ, ◌+◌, ◌<◌, ◌≤◌, suc, Bool, true, false, List, [], ◌∷◌, ◌++◌, length, get_or, take, drop, map, Some, refl, ap, ◌∙◌, add-one, length-append, IsTrue, ◌↔◌, arith}
use Rattle.std.proofs.Math.Seq.{split_at, take-suc}
use Rattle.std.proofs.lemmas.List.{append-nil, length-map, length-take, map-append}
use Rattle.std.proofs.lemmas.List.Elements.{filter-append}
use Rattle.std.proofs.lemmas.Slice.Eq.{bytes_eq-Decides}
use Rattle.std.specs.Bool.{one_answer}
use Rattle.std.specs.List.{filter}
use Rattle.std.specs.Char.{to_ascii_lowercase}
use Rattle.std.specs.Str.{bytes_eq}
use Rattle.httparse.specs.Grammar.{Field}
use Rattle.httparse.specs.Spans.{AreFieldsAt, header_bytes, name_and_value, span_bytes}
use Rattle.httparse.specs.declared.spans.HeaderSpan.{HeaderSpan}
use Rattle.gate_http.specs.Heads.{is_named, values_in, first_value}

-- the values of this name in some headers
abbrev pub values : List ℕ → List ℕ → List HeaderSpan → List (List ℕ)
values bytes name headers = values_in name (map (header_bytes bytes) headers)

values-append : (bytes name : List ℕ) (headers others : List HeaderSpan) → values bytes name (headers ++ others) ≡ values bytes name headers ++ values bytes name others
values-append bytes name headers others =
    rw (map-append (header_bytes bytes) headers others)
    (rw (filter-append (is_named name) (map (header_bytes bytes) headers) (map (header_bytes bytes) others))
    (map-append _ (filter (is_named name) (map (header_bytes bytes) headers)) (filter (is_named name) (map (header_bytes bytes) others))))

values-named : (bytes name : List ℕ) (header : HeaderSpan) (others : List HeaderSpan) → is_named name (header_bytes bytes header) ≡ true → values bytes name (header ∷ others) ≡ span_bytes bytes header.value ∷ values bytes name others
values-named bytes name header others named = rw named refl

values-other : (bytes name : List ℕ) (header : HeaderSpan) (others : List HeaderSpan) → is_named name (header_bytes bytes header) ≡ false → values bytes name (header ∷ others) ≡ values bytes name others
values-other bytes name header others other = rw other refl

-- one more header
values-next : (bytes name : List ℕ) (headers : List HeaderSpan) (i : ℕ) (d : HeaderSpan) → i < length headers → values bytes name (take (i + 1) headers) ≡ values bytes name (take i headers) ++ values bytes name (get_or headers i d ∷ [])
values-next bytes name headers i d within =
    rw (add-one i) (rw (take-suc headers i d within) (values-append bytes name (take i headers) (get_or headers i d ∷ [])))

-- it is of another name
pub values-kept : (bytes name : List ℕ) (headers : List HeaderSpan) (i : ℕ) (d : HeaderSpan) → i < length headers → is_named name (header_bytes bytes (get_or headers i d)) ≡ false
    → values bytes name (take (i + 1) headers) ≡ values bytes name (take i headers)
values-kept bytes name headers i d within other =
    values-next bytes name headers i d within
    ∙ ap (λ (more : List (List ℕ)). values bytes name (take i headers) ++ more) (values-other bytes name (get_or headers i d) [] other)
    ∙ append-nil _

-- it is of this name
pub count-more : (bytes name : List ℕ) (headers : List HeaderSpan) (i : ℕ) (d : HeaderSpan) → i < length headers → is_named name (header_bytes bytes (get_or headers i d)) ≡ true
    → length (values bytes name (take (i + 1) headers)) ≡ length (values bytes name (take i headers)) + 1
count-more bytes name headers i d within named =
    ap length
    (values-next bytes name headers i d within
    ∙ ap (λ (more : List (List ℕ)). values bytes name (take i headers) ++ more) (values-named bytes name (get_or headers i d) [] named))
    ∙ length-append (values bytes name (take i headers)) _

-- the first header of that name has the first value
pub first-found : (bytes name : List ℕ) (headers : List HeaderSpan) (i : ℕ) (d : HeaderSpan) → i < length headers → values bytes name (take i headers) ≡ [] → is_named name (header_bytes bytes (get_or headers i d)) ≡ true
    → first_value (values bytes name headers) ≡ Some (span_bytes bytes (get_or headers i d).value)
first-found bytes name headers i d within none named =
    ap first_value
    (ap (values bytes name) (split_at headers i d within)
    ∙ values-append bytes name (take i headers) (get_or headers i d ∷ drop (suc i) headers)
    ∙ ap (λ (front : List (List ℕ)). front ++ values bytes name (get_or headers i d ∷ drop (suc i) headers)) none
    ∙ values-named bytes name (get_or headers i d) (drop (suc i) headers) named)

-- the comparison decides whether a field has the name
pub named-is : (name text : List ℕ) (r : Bool) → IsTrue r ↔ (map to_ascii_lowercase text ≡ map to_ascii_lowercase name) → bytes_eq (map to_ascii_lowercase text) (map to_ascii_lowercase name) ≡ r
named-is name text r tells = one_answer _ r (bytes_eq-Decides _ _) tells

-- Fields are as many as the headers that cover them, and so they fit the room for headers.
pub few-fields : (bytes : List ℕ) (headers : List HeaderSpan) (count : ℕ) (fields : List Field) → AreFieldsAt bytes headers count fields → length fields ≤ length headers
few-fields bytes headers count fields are =
    omega (arith, length-map fields name_and_value, length-map (take count headers) (header_bytes bytes), ap length are, length-take count headers)
