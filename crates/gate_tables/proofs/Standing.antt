-- What tables keep true of their connection.
use Rattle.std.proofs.Common.{◌≡◌, ℕ, [], ◌∷◌, List, map, false, IsPermutation, None, Result, Ok, Err, OnOk, OnErr, refl, sym, subst}
use Rattle.std.specs.List.{AllByRecursion, IsDistinct}
use Rattle.std.specs.Cmp.Lexicographic.{slice_cmp}
use Rattle.std.specs.Ordering.{nat_cmp, eq_by_cmp}
use Rattle.std.specs.FinMap.{get, insert}
use Rattle.std.proofs.lemmas.List.Elements.{All-from_recursion, recursion_from_All}
use Rattle.std.proofs.lemmas.List.Sorted.{IsPermutation-map, All-permutation}
use Rattle.gate_tables.proofs.Answering.{still_apart, one_more}
use Rattle.gate_tables.proofs.Distinct.{answers_apart}
use Rattle.gate_tables.proofs.Leaving.{ready_after}
use Rattle.gate_tables.specs.Database.{all_schema, cells}
use Rattle.gate_tables.specs.Effects.{Applied, Brings, IsReady, Leaves, Made, MayBeTaken, Taken}
use Rattle.gate_tables.specs.Forms.{answers, rows_of}
use Rattle.gate_tables.specs.Tables.{is_sound, answers_in, AreAnswers, AreFound, IsBook, Stands}
use Rattle.gate_tables.specs.declared.change.RowChange.{RowChange}
use Rattle.gate_tables.specs.declared.fault.TablesFault.{TablesFault}
use Rattle.gate_tables.specs.declared.version.Version.TheVariants.{Version2}
use Rattle.sqlite.specs.Effect.{Database}
use Rattle.sqlite.specs.Held.{Held, state}
use Rattle.sqlite.specs.Order.{Row}
use Rattle.sqlite.specs.State.{State, HasCleanDisk}
use Rattle.sqlite.specs.Store.{Ghosts}

module _ {S : Type 0} (g : Ghosts S) (old new : Held S) where
  -- a call that leaves the database keeps what stands, and shows the same
  left_stands : Stands g old → new.in_transaction ≡ false → (is_sound g new → is_sound g old) → (HasCleanDisk (state g new) → IsReady (state g old) → Leaves (state g old) (state g new)) → Stands g new
  left_stands stands mode was left = record {
    autocommit = mode;
    book = λ sound.
        let book = stands.book (was sound) in
        let after = ready_after (state g old) (state g new) book.ready (left sound.0 book.ready) sound.1 in
        record { ready = after.0; answered = subst (λ (d : Database). AreAnswers d.trees) (sym after.1) book.answered };
  }

module _ {S : Type 0} (g : Ghosts S) (new : Held S) (changes : List RowChange) where
  no_answers : (cs : List Row) → cs ≡ [] → AllByRecursion (λ c. answers.values (answers.read c) ≡ c) cs
  no_answers [] none = tt
  no_answers (c ∷ cs) none = cc

  pub made_stands : new.in_transaction ≡ false → (HasCleanDisk (state g new) → Made changes (state g new)) → Stands g new
  unfolding IsDistinct
  made_stands mode made = record {
    autocommit = mode;
    book = λ sound.
        let it = made sound.0 in
        record {
          ready = it.ready;
          answered = record {
            whole = no_answers (cells answers.layout (state g new).now.trees) it.none;
            apart = subst (λ (cs : List Row). IsDistinct (eq_by_cmp (slice_cmp nat_cmp)) (map (λ a. a.0) (map answers.read cs))) (sym it.none) tt;
          };
        };
  }

module _ {S : Type 0} (g : Ghosts S) (old new : Held S) (changes : List RowChange) (id body : List ℕ) (stands : Stands g old) (free : is_sound g old → get (answers_in g old) id ≡ None) (was : is_sound g new → is_sound g old) where
  abbrev was_state : State
  was_state = state g old

  abbrev now_state : State
  now_state = state g new

  entries_moved : Applied changes id body was_state now_state → IsPermutation ((id, body) ∷ rows_of answers was_state.now.trees) (rows_of answers now_state.now.trees)
  entries_moved applied = IsPermutation-map answers.read (answers.values (id, body) ∷ cells answers.layout was_state.now.trees) (cells answers.layout now_state.now.trees) applied.added

  committed_book : is_sound g new → Applied changes id body was_state now_state → IsBook now_state
  committed_book sound applied =
      let book = stands.book (was sound) in
      let before = answers.values (id, body) ∷ cells answers.layout was_state.now.trees in
      let all = All-from_recursion (λ c. answers.values (answers.read c) ≡ c) before (refl, book.answered.whole) in
      record {
        ready = applied.ready;
        answered = record {
          whole = recursion_from_All (λ c. answers.values (answers.read c) ≡ c) (cells answers.layout now_state.now.trees)
              (All-permutation (λ c. answers.values (answers.read c) ≡ c) before (cells answers.layout now_state.now.trees) applied.added all);
          apart = still_apart id body (rows_of answers was_state.now.trees) (rows_of answers now_state.now.trees) (entries_moved applied) book.answered.apart (free (was sound));
        };
      }

  module _ (mode : new.in_transaction ≡ false) where
    pub commit_stands : (r : Result (Unit {0}) TablesFault) → (HasCleanDisk now_state → OnOk r (IsReady was_state → Applied changes id body was_state now_state))
        → (HasCleanDisk now_state → IsReady was_state → OnErr r (Leaves was_state now_state)) → Stands g new
    commit_stands (Ok x) applied left = record { autocommit = mode; book = λ sound. committed_book sound (applied sound.0 (stands.book (was sound)).ready) }
    commit_stands (Err e) applied left = left_stands g old new stands mode was left

  pub commit_answers : (r : Result (Unit {0}) TablesFault) → (HasCleanDisk now_state → OnOk r (IsReady was_state → Applied changes id body was_state now_state)) → is_sound g new
      → OnOk r (answers_in g new ≡ insert (answers_in g old) id body)
  commit_answers (Ok x) applied sound =
      let book = stands.book (was sound) in
      one_more id body (rows_of answers was_state.now.trees) (rows_of answers now_state.now.trees) (entries_moved (applied sound.0 book.ready)) book.answered.apart (free (was sound))
  commit_answers (Err e) applied sound = tt

-- tables that were found, and are taken over
module _ {S : Type 0} (g : Ghosts S) (old new : Held S) (changes : List RowChange) (found : AreFound g old) (was : is_sound g new → is_sound g old) where
  taken_all : (HasCleanDisk (state g new) → MayBeTaken (state g old) → Taken changes (state g old) (state g new)) → is_sound g new → Taken changes (state g old) (state g new)
  taken_all taken sound = taken sound.0 (found.found (was sound))

  pub taken_stands : new.in_transaction ≡ false → (HasCleanDisk (state g new) → MayBeTaken (state g old) → Taken changes (state g old) (state g new)) → Stands g new
  taken_stands mode taken = record {
    autocommit = mode;
    book = λ sound.
        let ready = (taken_all taken sound).ready in
        record { ready = ready; answered = answers_apart all_schema (state g new).now.trees Version2 refl ready.kept };
  }

  pub taken_rows : (HasCleanDisk (state g new) → MayBeTaken (state g old) → Taken changes (state g old) (state g new)) → is_sound g new → Brings changes (state g old).now (state g new).now
  taken_rows taken sound = (taken_all taken sound).brought
