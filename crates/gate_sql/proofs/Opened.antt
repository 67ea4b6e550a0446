-- A book that is opened shows the state and the answers for which the database stood.
use Rattle.std.proofs.Common.{◌≡◌, ℕ, Bool, true, false, cond, List, [], ◌∷◌, Option, Some, IsOk, IsPermutation, refl, sym, ap, subst, ◌∙◌}
use Rattle.std.specs.Cmp.Lexicographic.{slice_cmp, nat_list_cmp_total}
use Rattle.std.specs.FinMap as finite
use Rattle.std.specs.FinMap.{find, from_entries}
use Rattle.std.specs.List.{AllByRecursion}
use Rattle.std.specs.Option.{option_map}
use Rattle.std.specs.Ordering.{eq_by_cmp, nat_cmp}
use Rattle.std.proofs.lemmas.List.Elements.{All-from_recursion, recursion_from_All}
use Rattle.std.proofs.lemmas.List.Sorted.{All-permutation, IsPermutation-sym}
use Rattle.gate_text.specs.SmallTexts.{delivery_id_of}
use Rattle.gate_state.specs.declared.state.State.{State}
use Rattle.gate_answers.specs.Answers.{answer_text_of}
use Rattle.gate_answers.specs.Reading.{answer_of}
use Rattle.gate_rows.proofs.Alike.{same_back, same_then}
use Rattle.gate_rows.proofs.Each.{all_weaker}
use Rattle.gate_sql.proofs.Holding.{AreTexts, is_held}
use Rattle.gate_sql.proofs.Shown.{get-answers}
use Rattle.gate_rows.specs.Encoding.{rows_of}
use Rattle.gate_sql.specs.Shown.{AreTextsOf, IsHeld, answers_of, shown}
use Rattle.gate_rows.specs.Standing.{LawOfRows}
use Rattle.gate_sql.specs.Versions.{AreKeptAnswers, IsKeptAnswer, StandsFor, Understands, rows_as}
use Rattle.gate_tables.specs.Applied.{applied}
use Rattle.gate_tables.specs.Contents.{AreSame, answers_at}
use Rattle.gate_tables.specs.Forms as forms
use Rattle.gate_tables.specs.Forms.{rows_of as rows_of_table}
use Rattle.gate_tables.specs.Schemas.{stored_rows, version_of}
use Rattle.gate_tables.specs.Tables.{answers_in, rows_in}
use Rattle.gate_tables.specs.declared.change.RowChange.{RowChange}
use Rattle.gate_tables.specs.declared.row.Rows.{Rows}
use Rattle.gate_tables.specs.declared.version.Version.{Version}
use Rattle.sqlite.specs.Effect.{Database}
use Rattle.sqlite.specs.Held.{Held, state}
use Rattle.sqlite.specs.Store.{Ghosts}

abbrev Entry : Type 0
Entry = List ℕ × List ℕ

-- TEXTS OF ANSWERS: what is found under an identifier is the text of the answer that is read of it
again : Option (List ℕ) → Option (List ℕ)
again text = option_map answer_text_of (option_map answer_of text)

first_again : (b : Bool) (body : List ℕ) (rest : Option (List ℕ)) → body ≡ answer_text_of (answer_of body) → rest ≡ again rest → cond b (Some body) rest ≡ again (cond b (Some body) rest)
unfolding again
first_again true body rest is others = ap Some is
first_again false body rest is others = others

found_again : (entries : List Entry) → AreKeptAnswers entries → (id : List ℕ) → find (slice_cmp nat_cmp) id entries ≡ again (find (slice_cmp nat_cmp) id entries)
unfolding again
found_again [] are id = refl
found_again (e ∷ entries) are id = first_again (eq_by_cmp (slice_cmp nat_cmp) id e.0) e.1 (find (slice_cmp nat_cmp) id entries) are.0.1.written (found_again entries are.1 id)

texts_of : (entries : List Entry) → AreKeptAnswers entries → AreTexts (from_entries entries)
unfolding again
texts_of entries are id =
    let got = finite.get-from_entries nat_list_cmp_total entries id in
    got ∙ found_again entries are id ∙ ap again (sym got) ∙ sym (ap (option_map answer_text_of) (get-answers (from_entries entries) id))

kept_moved : (stored read : List Entry) → IsPermutation stored read → AreKeptAnswers read → AreKeptAnswers stored
kept_moved stored read same are =
    recursion_from_All IsKeptAnswer stored (All-permutation IsKeptAnswer read stored (IsPermutation-sym stored read same) (All-from_recursion IsKeptAnswer read are))

-- WHAT IS OPENED
pub record Opened {S : Type 0} (g : Ghosts S) (old new : Held S) : Type 0 where
  pub held : IsHeld (rows_in g new) (answers_in g new)
  pub stands : StandsFor (state g old).now (shown g new)

module _ {S : Type 0} (g : Ghosts S) (old found new : Held S) (version : Version) (read : Rows) (entries : List Entry) (changes : List RowChange) where
  pub opened : LawOfRows → Understands version read changes → AreKeptAnswers entries → version ≡ version_of (state g old).now.schema
      → (state g found).now ≡ (state g old).now → AreSame (stored_rows (state g found).now) read → IsPermutation (rows_of_table forms.answers (state g found).now.trees) entries
      → AreSame (rows_in g new) (applied changes (stored_rows (state g found).now)) → answers_in g new ≡ answers_at (state g found).now.trees
      → Opened g old new
  opened law u are of_it was rows answers led kept =
      let stored = stored_rows (state g found).now in
      let now = same_then (rows_in g new) (applied changes stored) (rows_of u.s) led (u.leads stored rows) in
      let stands = law u.s (rows_in g new) u.state u.limits (same_back (rows_in g new) (rows_of u.s) now) in
      let stored_answers = kept_moved (rows_of_table forms.answers (state g found).now.trees) entries answers are in
      let held = is_held u.s (rows_in g new) (answers_in g new) stands u.state u.limits now (subst AreTexts (sym kept) (texts_of (rows_of_table forms.answers (state g found).now.trees) stored_answers)) in
      record {
        held = held;
        stands = record {
          state = held.state;
          limits = held.limits;
          rows_are = subst (λ (s : State). AreSame (stored_rows (state g old).now) (rows_as (version_of (state g old).now.schema) (rows_of s))) (sym stands)
              (subst (λ (db : Database). AreSame (stored_rows db) (rows_as (version_of (state g old).now.schema) (rows_of u.s))) was
              (same_then stored read (rows_as (version_of (state g old).now.schema) (rows_of u.s)) rows (subst (λ (v : Version). AreSame read (rows_as v (rows_of u.s))) of_it u.rows_are)));
          identified = subst (λ (db : Database). AllByRecursion (λ (e : Entry). IsOk (delivery_id_of e.0)) (rows_of_table forms.answers db.trees)) was
              (all_weaker IsKeptAnswer (λ (e : Entry). IsOk (delivery_id_of e.0)) (λ e is. is.0) (rows_of_table forms.answers (state g found).now.trees) stored_answers);
          texts_are = subst (AreTextsOf (answers_of (answers_in g new))) (kept ∙ ap (λ (db : Database). answers_at db.trees) was) held.texts_are;
        };
      }
