-- What the tables of a book hold, after an answer more.
use Rattle.std.proofs.Common.{◌≡◌, ℕ, Bool, true, false, cond, List, Some, sym, ap, subst, ◌∙◌}
use Rattle.std.specs.Cmp.Lexicographic.{slice_cmp, nat_list_cmp_total}
use Rattle.std.specs.FinMap as finite
use Rattle.std.specs.FinMap.{FinMap}
use Rattle.std.specs.Option.{option_map}
use Rattle.std.specs.Ordering.{eq_by_cmp, nat_cmp}
use Rattle.gate_state.specs.State.{IsState}
use Rattle.gate_state.specs.declared.reply.Reply.{Reply}
use Rattle.gate_state.specs.declared.state.State.{State}
use Rattle.gate_answers.specs.Answers.{answer_text_of}
use Rattle.gate_answers.specs.Reading.{answer_of}
use Rattle.gate_rows.proofs.Alike.{same_back, same_then}
use Rattle.gate_sql.proofs.Shown.{none_of_none, one_more}
use Rattle.gate_rows.specs.Decoding.{state_in}
use Rattle.gate_rows.specs.Encoding.{rows_of}
use Rattle.gate_sql.specs.Shown.{AreTextsOf, Holds, IsHeld, answers_of}
use Rattle.gate_rows.specs.Standing.{KeepsLimits}
use Rattle.gate_tables.specs.Applied.{applied}
use Rattle.gate_tables.specs.Contents.{AreSame}
use Rattle.gate_tables.specs.declared.change.RowChange.{RowChange}
use Rattle.gate_tables.specs.Tables.{IsBook, answers_in, rows_in}
use Rattle.gate_tables.specs.declared.row.Rows.{Rows}
use Rattle.sqlite.specs.Held.{Held, state}
use Rattle.sqlite.specs.Store.{Ghosts}

abbrev pub AreTexts : FinMap (slice_cmp nat_cmp) (List ℕ) → Type 0
AreTexts texts = AreTextsOf (answers_of texts) texts

pub no_texts : AreTexts finite.empty
no_texts id = finite.get-empty (slice_cmp nat_cmp) id ∙ sym (ap (λ answers. option_map answer_text_of (finite.get answers id)) none_of_none ∙ ap (option_map answer_text_of) (finite.get-empty (slice_cmp nat_cmp) id))

pub text_more : (texts : FinMap (slice_cmp nat_cmp) (List ℕ)) (id body : List ℕ) (answer : List Reply) → body ≡ answer_text_of answer → answer_of body ≡ answer → AreTexts texts → AreTexts (finite.insert texts id body)
text_more texts id body answer text reads are q =
    finite.get-insert nat_list_cmp_total texts id body q ∙ by (eq_by_cmp (slice_cmp nat_cmp) q id)
    ∙ sym (ap (λ answers. option_map answer_text_of (finite.get answers q)) (one_more texts id body) ∙ ap (option_map answer_text_of) (finite.get-insert nat_list_cmp_total (answers_of texts) id (answer_of body) q))
  where
    by : (b : Bool) → cond b (Some body) (finite.get texts q) ≡ option_map answer_text_of (cond b (Some (answer_of body)) (finite.get (answers_of texts) q))
    by true = ap Some (text ∙ ap answer_text_of (sym reads))
    by false = are q

-- the rows of a state of the machine, and texts of answers
pub is_held : (s : State) (rows : Rows) (texts : FinMap (slice_cmp nat_cmp) (List ℕ)) → state_in rows ≡ s → IsState s → KeepsLimits s.desk → AreSame rows (rows_of s) → AreTexts texts → IsHeld rows texts
is_held s rows texts stands is limits same are = record {
  state = subst IsState (sym stands) is;
  limits = subst (λ (t : State). KeepsLimits t.desk) (sym stands) limits;
  rows_are = subst (λ (t : State). AreSame rows (rows_of t)) (sym stands) same;
  texts_are = are;
}

-- row changes that were applied lead to some rows
pub led_to : (one other : List RowChange) (new mid old rows : Rows) → AreSame new (applied one mid) → one ≡ other → mid ≡ old → AreSame (applied other old) rows → AreSame new rows
led_to one other new mid old rows wrote same moved led = same_then new (applied other old) rows (subst (AreSame new) (λ i. applied (same i) (moved i)) wrote) led

pub holds_of : {S : Type 0} (g : Ghosts S) (h : Held S) → IsBook (state g h) → IsHeld (rows_in g h) (answers_in g h) → Holds g h
holds_of g h book held = record { tables = book; rows_are = held.rows_are; texts_are = held.texts_are }

-- WHAT A COMMIT LEAVES: a state and its rows, and the answers with one more
pub record Leaves (s : State) (rows : Rows) (texts olds : FinMap (slice_cmp nat_cmp) (List ℕ)) (id : List ℕ) (answer : List Reply) : Type 0 where
  pub held : IsHeld rows texts
  pub state : state_in rows ≡ s
  pub kept : answers_of texts ≡ finite.insert (answers_of olds) id answer

pub leaves : (s : State) (rows : Rows) (texts olds : FinMap (slice_cmp nat_cmp) (List ℕ)) (id body : List ℕ) (answer : List Reply)
    → ((others : Rows) → AreSame (rows_of s) others → state_in others ≡ s) → IsState s → KeepsLimits s.desk → AreSame rows (rows_of s)
    → texts ≡ finite.insert olds id body → body ≡ answer_text_of answer → answer_of body ≡ answer → AreTexts olds → Leaves s rows texts olds id answer
leaves s rows texts olds id body answer stands is limits same added text reads are =
    let state = stands rows (same_back rows (rows_of s) same) in
    record {
      held = is_held s rows texts state is limits same (subst AreTexts (sym added) (text_more olds id body answer text reads are));
      state = state;
      kept = ap answers_of added ∙ one_more olds id body ∙ ap (finite.insert (answers_of olds) id) reads;
    }
