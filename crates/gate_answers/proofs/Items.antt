-- What is found in each item of a list, and what is written for each, one after the other.
use Rattle.std.proofs.Common.{◌≡◌, ◌<◌, ◌≤◌, ◌+◌, ℕ, List, [], ◌∷◌, ◌++◌, length, map, take, drop, get_or, Result, Ok, Err, refl, sym, ◌∙◌, ap, append_assoc}
use Rattle.std.proofs.lemmas.List.{append-nil, drop_all, map_push}
use Rattle.std.proofs.lemmas.List.Elements.{All-push, All-head, All-tail}
use Rattle.std.specs.List.{All}
use Rattle.std.specs.Result.{IsErrAnd}
use Rattle.serde_json.specs.Data.{Data}
use Rattle.serde_json.specs.View.{view, items_of}
use Rattle.serde_json.specs.declared.value.Value.{Value}
use Rattle.gate_answers.specs.Found.{Finds}
use Rattle.gate_answers.specs.declared.reading.AnswerFault.{AnswerFault}
use Rattle.gate_answers.specs.declared.reading.AnswerFault.TheVariants.{Memory}
use Rattle.gate_answers.proofs.Places.{here, up_to}

pub items_same : (ds es : List Data) → items_of ds ≡ items_of es → ds ≡ es
items_same [] [] is = refl
items_same [] (e ∷ es) is = cc
items_same (d ∷ ds) [] is = cc
items_same (d ∷ ds) (e ∷ es) is =
    let rest : items_of ds ≡ items_of es = cc in
    let more : ds ≡ es = items_same ds es rest in
    cc

-- Whatever list the values are written for, it begins with what was found before the place.
abbrev pub Begins : {X : Type 0} → (X → Data) → (X → Type 0) → List Value → List X → ℕ → Type 0
Begins {X} data_of Is values found place =
    (xs : List X) → All Is xs → map view values ≡ map data_of xs
    → (rest : List X) × (xs ≡ found ++ rest) × (map view (drop place values) ≡ map data_of rest) × All Is rest

module _ {X : Type 0} (data_of : X → Data) (Is : X → Type 0) (values : List Value) (found : List X) (place : ℕ) (begun : Begins data_of Is values found place) where
  ended : (xs rest : List X) → xs ≡ found ++ rest → map view (drop place values) ≡ map data_of rest → drop place values ≡ [] → found ≡ xs
  ended xs [] is written none = sym (is ∙ append-nil found)
  ended xs (x ∷ rest) is written none = let at_end : [] ≡ map data_of (x ∷ rest) = sym (ap (map view) none) ∙ written in cc

  pub found_all : length values ≤ place → (xs : List X) → All Is xs → map view values ≡ map data_of xs → found ≡ xs
  found_all over xs good written = let rest = begun xs good written in ended xs rest.0 rest.1 rest.2 (drop_all place values over)

  module _ (value : Value) (at : value ≡ get_or values place value) (within : place < length values) where
    abbrev Goes : List X → Type 0
    Goes xs = (x : X) × (rest : List X) × (xs ≡ found ++ x ∷ rest) × (view value ≡ data_of x) × (map view (drop (place + 1) values) ≡ map data_of rest) × Is x × All Is rest

    goes : (xs rest : List X) → xs ≡ found ++ rest → view value ∷ map view (drop (place + 1) values) ≡ map data_of rest → All Is rest → Goes xs
    goes xs [] is written good = cc
    goes xs (x ∷ rest) is written good = (x, rest, is, cc, cc, All-head Is x rest good, All-tail Is x rest good)

    next : (xs : List X) → All Is xs → map view values ≡ map data_of xs → Goes xs
    next xs good written =
        let rest = begun xs good written in
        goes xs rest.0 rest.1 (sym (ap (map view) (here values place value at within)) ∙ rest.2) rest.3

    pub begins_more : (one : X) → ((x : X) → Is x → view value ≡ data_of x → one ≡ x) → Begins data_of Is values (found ++ one ∷ []) (place + 1)
    begins_more one again = λ xs good written.
        let on = next xs good written in (
          on.1,
          on.2 ∙ ap (λ (first : X). found ++ first ∷ on.1) (sym (again on.0 on.5 on.3)) ∙ sym (append_assoc found (one ∷ []) on.1),
          on.4,
          on.6,
        )

    passed_on : (r : Result (List X) AnswerFault) (fault : AnswerFault) (xs : List X) → IsErrAnd r (λ passed. passed ≡ fault) → fault ≡ Memory → Finds r xs
    passed_on (Ok others) fault xs passed memory = absurd passed
    passed_on (Err told) fault xs passed memory = passed ∙ memory

    -- the fault at this value, and it is passed on
    pub none_found : (r : Result (List X) AnswerFault) (fault : AnswerFault) → IsErrAnd r (λ passed. passed ≡ fault)
        → ((x : X) → Is x → view value ≡ data_of x → fault ≡ Memory) → (xs : List X) → All Is xs → map view values ≡ map data_of xs → Finds r xs
    none_found r fault passed again xs good written = let on = next xs good written in passed_on r fault xs passed (again on.0 on.5 on.3)

module _ {X : Type 0} (data_of : X → Data) (Is : X → Type 0) (xs : List X) (place : ℕ) (x : X) (at : x ≡ get_or xs place x) (within : place < length xs) where
  pub written_next : (values pushed : List Value) (value : Value) → pushed ≡ values ++ value ∷ []
      → (map view values ≡ map data_of (take place xs)) × All Is (take place xs) → view value ≡ data_of x → Is x
      → (map view pushed ≡ map data_of (take (place + 1) xs)) × All Is (take (place + 1) xs)
  written_next values pushed value added before is good = (
    ap (map view) added ∙ map_push view values value ∙ ap (λ (front : List Data). front ++ view value ∷ []) before.0
        ∙ ap (λ (last : Data). map data_of (take place xs) ++ last ∷ []) is ∙ sym (ap (map data_of) (up_to xs place x at within) ∙ map_push data_of (take place xs) x),
    rw (up_to xs place x at within) (All-push Is _ _ before.1 good),
  )
