-- The query for the answer under an identifier.
use Rattle.std.proofs.Common.{◌≡◌, ◌⊎◌, inl, inr, ℕ, List, [], ◌∷◌, map, filter, codes, Bool, true, false, ◌&&◌, cond, Some, None, IsPermutation, refl, sym, ap, subst, ◌∙◌, arith}
use Rattle.std.specs.Cmp.{eq_by_cmp_equiv}
use Rattle.std.specs.Cmp.Lexicographic.{slice_cmp, nat_list_cmp_total}
use Rattle.std.specs.FinMap.{get, find, get-from_entries}
use Rattle.std.specs.List.{AllByRecursion, IsDistinct, list_all}
use Rattle.std.specs.Ordering.{eq_by_cmp, is_eq, nat_cmp}
use Rattle.std.proofs.lemmas.List.Sorted.{length_permutation}
use Rattle.gate_tables.proofs.Answering.{exact}
use Rattle.gate_tables.proofs.Selecting.{picks}
use Rattle.gate_tables.specs.Contents.{answers_at}
use Rattle.gate_tables.specs.Database.{all_schema, columns_of}
use Rattle.gate_tables.specs.Effects.{IsReady}
use Rattle.gate_tables.specs.Forms.{answers}
use Rattle.gate_tables.specs.Known.{picked, program}
use Rattle.gate_tables.specs.Tables.{AreAnswers, answer_of}
use Rattle.sqlite.proofs.Callers.{IsPlain, command_of, reads_as, one_permutation}
use Rattle.sqlite.specs.Collation.TheVariants.{Binary}
use Rattle.sqlite.specs.Command.TheVariants.{Select}
use Rattle.sqlite.specs.Listing.{understood, reads_listing}
use Rattle.sqlite.specs.Ops.{binary, is_true, from_truth}
use Rattle.sqlite.specs.Order.{Row, column, bytes}
use Rattle.sqlite.specs.State.{State, Shown}
use Rattle.sqlite.specs.Term.{Term, col, op2, eval_all, holds}
use Rattle.sqlite.specs.declared.types.Value.TheVariants.{Text}
use Rattle.sqlite_sql.specs.declared.ops.BinaryOp.TheVariants.{Compare}
use Rattle.sqlite_sql.specs.declared.ops.CompareOp.TheVariants.{Eq}
use Rattle.sqlite_tied.specs.Compute.{everything}
use Rattle.sqlite_value.proofs.OrderLemmas.{value_cmp-Text}
use Rattle.sqlite_value.specs.Order.{value_cmp}

abbrev pub find_text : List ℕ
find_text = codes "SELECT body FROM answers WHERE id = ?1"

abbrev test : List Term
test = op2 (Compare Eq Binary) (col 1 1) (col 0 0) ∷ []

find_is : command_of (understood all_schema find_text) ≡ Select (program (picked 11 test (col 1 2 ∷ []))) (codes "body" ∷ [])
unfolding understood everything
find_is = refl

pub find_plain : IsPlain (understood all_schema find_text)
unfolding understood everything
find_plain = (refl, refl)

find_unlisted : reads_listing all_schema find_text ≡ false
unfolding understood everything
find_unlisted = refl

abbrev pub same : List ℕ → List ℕ → Bool
same = eq_by_cmp (slice_cmp nat_cmp)

truth_of : (b : Bool) → is_true (from_truth (Some b)) && true ≡ b
truth_of true = refl
truth_of false = refl

abbrev passes : List ℕ → Row → Bool
passes id r = list_all (holds ((Text id ∷ []) ∷ r ∷ [])) test

passes_text : (id x : List ℕ) (r : Row) → column r 1 ≡ Text x → passes id r ≡ same id x
unfolding binary
passes_text id x r is =
    ap (λ v. is_true (binary (Compare Eq Binary) v (Text id)) && true) is ∙ truth_of (is_eq (value_cmp (Text x) (Text id))) ∙ ap is_eq (value_cmp-Text x id)
    ∙ (eq_by_cmp_equiv nat_list_cmp_total).symm x id

abbrev pub entries : List Row → List (List ℕ × List ℕ)
entries stored = map answers.read (map (columns_of answers.layout) stored)

abbrev pub AreWhole : List Row → Type 0
AreWhole stored = AllByRecursion (λ c. answers.values (answers.read c) ≡ c) (map (columns_of answers.layout) stored)

pub first_text : (r : Row) → answers.values (answers.read (columns_of answers.layout r)) ≡ columns_of answers.layout r → column r 1 ≡ Text (bytes (column r 1))
first_text r whole = sym (ap (λ c. column c 0) whole)

kept_or_not : (b c : Bool) (r : Row) (more : List Row) → b ≡ c → cond b (r ∷ more) more ≡ cond c (r ∷ more) more
kept_or_not b c r more is = ap (λ (d : Bool). cond d (r ∷ more) more) is

no_row : (id : List ℕ) (stored : List Row) → AreWhole stored → AllByRecursion (λ y. same id y ≡ false) (map (λ e. e.0) (entries stored)) → filter (passes id) stored ≡ []
no_row id [] whole apart = refl
no_row id (r ∷ rs) whole apart =
    kept_or_not (passes id r) false r (filter (passes id) rs) (passes_text id (bytes (column r 1)) r (first_text r whole.0) ∙ apart.0) ∙ no_row id rs whole.1 apart.1

abbrev IsOnly : List ℕ → List Row → Type 0
IsOnly id stored = ((filter (passes id) stored ≡ []) × (find (slice_cmp nat_cmp) id (entries stored) ≡ None))
    ⊎ ((r : Row) × (filter (passes id) stored ≡ r ∷ []) × (find (slice_cmp nat_cmp) id (entries stored) ≡ Some (bytes (column r 2))))

others : (id x : List ℕ) (ys : List (List ℕ)) → id ≡ x → AllByRecursion (λ y. same x y ≡ false) ys → AllByRecursion (λ y. same id y ≡ false) ys
others id x ys is apart = subst (λ k. AllByRecursion (λ y. same k y ≡ false) ys) (sym is) apart

only_step : (id : List ℕ) (b : Bool) (r : Row) (rs : List Row) → same id (bytes (column r 1)) ≡ b → AreWhole (r ∷ rs)
    → AllByRecursion (λ y. same (bytes (column r 1)) y ≡ false) (map (λ e. e.0) (entries rs)) → IsOnly id rs → IsOnly id (r ∷ rs)
only_step id true r rs is whole apart more =
    let none = no_row id rs whole.1 (others id (bytes (column r 1)) _ (exact id (bytes (column r 1)) is) apart) in
    inr (
      r,
      kept_or_not (passes id r) true r (filter (passes id) rs) (passes_text id (bytes (column r 1)) r (first_text r whole.0) ∙ is) ∙ ap (λ l. r ∷ l) none,
      ap (λ (b : Bool). cond b (Some (bytes (column r 2))) (find (slice_cmp nat_cmp) id (entries rs))) is,
    )
only_step id false r rs is whole apart (inl more) = inl (
  kept_or_not (passes id r) false r (filter (passes id) rs) (passes_text id (bytes (column r 1)) r (first_text r whole.0) ∙ is) ∙ more.0,
  ap (λ (b : Bool). cond b (Some (bytes (column r 2))) (find (slice_cmp nat_cmp) id (entries rs))) is ∙ more.1,
)
only_step id false r rs is whole apart (inr more) = inr (
  more.0,
  kept_or_not (passes id r) false r (filter (passes id) rs) (passes_text id (bytes (column r 1)) r (first_text r whole.0) ∙ is) ∙ more.1,
  ap (λ (b : Bool). cond b (Some (bytes (column r 2))) (find (slice_cmp nat_cmp) id (entries rs))) is ∙ more.2,
)

only : (id : List ℕ) (stored : List Row) → AreWhole stored → IsDistinct same (map (λ e. e.0) (entries stored)) → IsOnly id stored
unfolding IsDistinct
only id [] whole apart = inl (refl, refl)
only id (r ∷ rs) whole apart = only_step id (same id (bytes (column r 1))) r rs refl whole apart.0 (only id rs whole.1 apart.1)

no_rows : (rows : List Row) → IsPermutation [] rows → rows ≡ []
no_rows [] moved = refl
no_rows (r ∷ rs) moved = absurd (omega (arith, length_permutation [] (r ∷ rs) moved))

shown_rows : (id : List ℕ) (stored rows : List Row) → IsOnly id stored → IsPermutation (map (λ r. eval_all (col 1 2 ∷ []) ((Text id ∷ []) ∷ r ∷ [])) (filter (passes id) stored)) rows
    → answer_of rows ≡ find (slice_cmp nat_cmp) id (entries stored)
shown_rows id stored rows (inl is) moved =
    ap answer_of (no_rows rows (subst (λ l. IsPermutation (map (λ r. eval_all (col 1 2 ∷ []) ((Text id ∷ []) ∷ r ∷ [])) l) rows) is.0 moved)) ∙ sym is.1
shown_rows id stored rows (inr is) moved =
    ap answer_of (one_permutation (column is.0 2 ∷ []) rows (subst (λ l. IsPermutation (map (λ r. eval_all (col 1 2 ∷ []) ((Text id ∷ []) ∷ r ∷ [])) l) rows) is.1 moved)) ∙ sym is.2

-- the query finds the answer
pub finds : (old new : State) (id : List ℕ) (rows : List Row) → IsReady old → AreAnswers old.now.trees → Shown find_text (Text id ∷ []) old new rows → answer_of rows ≡ get (answers_at old.now.trees) id
finds old new id rows ready answered shown =
    let stored = old.now.trees 11 in
    let answer = reads_as find_text (Text id ∷ []) old new all_schema ready.schema_is (Select (program (picked 11 test (col 1 2 ∷ []))) (codes "body" ∷ [])) find_is find_plain find_unlisted rows shown in
    let moved = picks 11 test (col 1 2 ∷ []) old.now (Text id ∷ []) rows answer in
    shown_rows id stored rows (only id stored answered.whole answered.apart) moved ∙ sym (get-from_entries nat_list_cmp_total (entries stored) id)
