-- The part of a path that its route names, and that it is text.
use Rattle.std.proofs.Common.{◌≡◌, ℕ, ◌≤◌, ◌+◌, ◌-◌, true, List, [], ◌∷◌, ◌++◌, length, Option, Some, codes, refl, sym, ap, ◌∙◌, arith, length-append, lit<}
use Rattle.std.proofs.lemmas.Bool.{le-leb, lt-ltb}
use Rattle.std.proofs.lemmas.List.{take_all}
use Rattle.std.proofs.lemmas.Str.{IsCharBoundary-after_ascii, IsUtf8-drop}
use Rattle.std.specs.Option.{unwrap_or}
use Rattle.std.specs.Str.{IsUtf8}
use lib.Utf8.{encode}
use Rattle.matchit.specs.Params.{AllText, named, next_at, part_of, walk, wild_from, wild_stop}
use Rattle.matchit.specs.Router.{RouteOf}
use Rattle.matchit.specs.Rows.{param_token}
use Rattle.gate_http.proofs.Numerals.{both}
use Rattle.gate_http.proofs.Walks.{are_bytes, is_byte}
use Rattle.gate_http.specs.Routes.{change_route}
use Rattle.gate_http.specs.Targets.{before_number}
use Rattle.gate_http.specs.declared.routes.Route.{Route}

-- bytes of a pattern stand for one byte of the path each
past-bytes : (w rest : List ℕ) (len token at : ℕ) → are_bytes w ≡ true → at + length w ≤ len
    → wild_from (w ++ param_token ∷ rest) len token at ≡ (token + length w, at + length w)
past-bytes [] rest len token at bytes fits =
    let same : token + 0 ≡ token = omega arith in
    let same_at : at + 0 ≡ at = omega arith in
    ap (λ (t : ℕ). (t, at)) (sym same) ∙ ap (λ (a : ℕ). (token + 0, a)) (sym same_at)
past-bytes (x ∷ w) rest len token at bytes fits =
    let next : next_at len at ≡ at + 1 = rw (lt-ltb at len (omega (arith, fits))) refl in
    let token_on : (token + 1) + length w ≡ token + length (x ∷ w) = omega arith in
    let at_on : (at + 1) + length w ≡ at + length (x ∷ w) = omega arith in
    rw ((both (is_byte x) (are_bytes w) bytes).0, next)
    (past-bytes w rest len (token + 1) (at + 1) (both _ _ bytes).1 (omega (arith, fits)) ∙ rw (token_on, at_on) refl)

before-fits : (text : List ℕ) → 0 + length before_number ≤ length (before_number ++ text)
before-fits text = omega (arith, length-append before_number text)

-- what is left of the path
rest-is : (text : List ℕ) (len : ℕ) → len ≡ 9 + length text → part_of (before_number ++ text) 9 len ≡ text
rest-is text len is =
    rw (le-leb 9 len (omega (arith, is)), le-leb len (length (before_number ++ text)) (omega (arith, is, length-append before_number text)))
    (take_all (len - 9) text (omega (arith, is)))

number-walk : (text : List ℕ) → walk change_route.pattern change_route.text (before_number ++ text) change_route.names 0 0 ≡ (codes "n", text) ∷ []
number-walk text =
    let path = before_number ++ text in
    let wild = past-bytes before_number [] (length path) 0 0 refl (before-fits text) in
    ap (λ (at : ℕ × ℕ). (codes "n", part_of path at.1 (wild_stop change_route.pattern at.0 path at.1)) ∷ []) wild
    ∙ ap (λ (part : List ℕ). (codes "n", part) ∷ []) (rest-is text (length path) (length-append before_number text))

-- the text behind the front is one
number-utf8 : (text : List ℕ) → IsUtf8 (before_number ++ text) → IsUtf8 text
number-utf8 text utf8 =
    IsUtf8-drop (before_number ++ text) 9 utf8 (IsCharBoundary-after_ascii (before_number ++ text) 8 utf8 (omega (arith, before-fits text)) (lit< tt))

all-text : (text : List ℕ) → IsUtf8 (before_number ++ text) → AllText ((codes "n", text) ∷ [])
unfolding encode
all-text text utf8 = ((codes "n", (refl, refl)), number-utf8 text utf8, tt)

-- What is told of a path by the route of a change, which may be known by other names: its part `n`.
abbrev parts : RouteOf Route → List ℕ → List (List ℕ × List ℕ)
parts route path = walk route.pattern route.text path route.names 0 0

pub part-is : (route : RouteOf Route) (told path text : List ℕ) → route ≡ change_route → told ≡ path → path ≡ before_number ++ text → IsUtf8 path
    → AllText (parts route told) × (named (codes "n") (parts route told) ≡ Some text)
part-is route told path text is told_is path_is utf8 =
    let walked : parts route told ≡ (codes "n", text) ∷ [] =
    ap (λ (r : RouteOf Route). parts r told) is ∙ ap (parts change_route) (told_is ∙ path_is) ∙ number-walk text in
    rw walked (all-text text (rw path_is at utf8), refl)

pub same-text : (a b : List ℕ) → Some a ≡ Some b → a ≡ b
same-text a b is = ap (λ (text : Option (List ℕ)). unwrap_or text []) is
