-- The answers of texts, text by text.
use Rattle.std.proofs.Common.{◌≡◌, ℕ, Bool, true, false, cond, List, [], ◌∷◌, map, Option, Some, None, refl, sym, ap, ◌∙◌}
use Rattle.std.specs.Cmp.Lexicographic.{slice_cmp, nat_list_cmp_total}
use Rattle.std.specs.FinMap as finite
use Rattle.std.specs.FinMap.{FinMap, find}
use Rattle.std.specs.FinSet.{slice_cmp-IsAntisymmetric, nat_cmp-IsAntisymmetric}
use Rattle.std.specs.Option.{option_map}
use Rattle.std.specs.Ordering.{eq_by_cmp, nat_cmp}
use Rattle.gate_answers.specs.Reading.{answer_of}
use Rattle.gate_sql.specs.Shown.{read_entry, answers_of}

map_cond : (b : Bool) (text : List ℕ) (other : Option (List ℕ)) → option_map answer_of (cond b (Some text) other) ≡ cond b (Some (answer_of text)) (option_map answer_of other)
map_cond true text other = refl
map_cond false text other = refl

find-read : (id : List ℕ) (es : List (List ℕ × List ℕ)) → find (slice_cmp nat_cmp) id (map read_entry es) ≡ option_map answer_of (find (slice_cmp nat_cmp) id es)
find-read id [] = refl
find-read id (e ∷ es) = ap (cond (eq_by_cmp (slice_cmp nat_cmp) id e.0) (Some (answer_of e.1))) (find-read id es) ∙ sym (map_cond (eq_by_cmp (slice_cmp nat_cmp) id e.0) e.1 _)

pub get-answers : (texts : FinMap (slice_cmp nat_cmp) (List ℕ)) (id : List ℕ) → finite.get (answers_of texts) id ≡ option_map answer_of (finite.get texts id)
get-answers texts id =
    finite.get-from_entries nat_list_cmp_total (map read_entry (finite.entries texts)) id ∙ find-read id (finite.entries texts)
    ∙ ap (option_map answer_of) (sym (finite.get-entries texts id))

-- one more text is one more answer
pub one_more : (texts : FinMap (slice_cmp nat_cmp) (List ℕ)) (id text : List ℕ) → answers_of (finite.insert texts id text) ≡ finite.insert (answers_of texts) id (answer_of text)
one_more texts id text = finite.same_map nat_list_cmp_total (slice_cmp-IsAntisymmetric nat_cmp-IsAntisymmetric) _ _ (λ q.
    get-answers (finite.insert texts id text) q
    ∙ ap (option_map answer_of) (finite.get-insert nat_list_cmp_total texts id text q)
    ∙ map_cond (eq_by_cmp (slice_cmp nat_cmp) q id) text (finite.get texts q)
    ∙ ap (cond (eq_by_cmp (slice_cmp nat_cmp) q id) (Some (answer_of text))) (sym (get-answers texts q))
    ∙ sym (finite.get-insert nat_list_cmp_total (answers_of texts) id (answer_of text) q))

pub none_of_none : answers_of finite.empty ≡ finite.empty
none_of_none = finite.same_map nat_list_cmp_total (slice_cmp-IsAntisymmetric nat_cmp-IsAntisymmetric) _ _ (λ q.
    get-answers finite.empty q ∙ ap (option_map answer_of) (finite.get-empty (slice_cmp nat_cmp) q) ∙ sym (finite.get-empty (slice_cmp nat_cmp) q))

-- no answer where there is no text
pub none_there : (text : Option (List ℕ)) → option_map answer_of text ≡ None → text ≡ None
none_there None none = refl
none_there (Some text) none = cc none
