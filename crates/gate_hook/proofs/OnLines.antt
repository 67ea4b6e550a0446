-- What was read as a delivery keeps the limits of its type; lines are served as the deliveries on them are.
use Rattle.std.proofs.Common.{◌≡◌, ℕ, nat_le, Bool, true, false, ◌&&◌, cond, List, [], ◌∷◌, Option, Some, None, Result, Ok, Err, IfOk, codes, refl, subst, arith}
use Rattle.std.proofs.lemmas.Bool.Decides.{nat_tests}
use Rattle.std.proofs.lemmas.List.Elements.{All-nil, All-cons}
use Rattle.std.specs.List.{cons_option}
use Rattle.std.specs.Option.{option_and_then, ok_or}
use Rattle.std.specs.Result.{result_ok}
use Rattle.std.specs.Str.{bytes_eq}
use Rattle.serde_json.specs.Data.{Data}
use Rattle.serde_json.specs.Find.{get, as_u64, as_number}
use Rattle.gate_text.specs.Steps.{◌>>=◌}
use Rattle.gate_state.specs.State.{IsMoment}
use Rattle.gate_deliveries.specs.Acts.{EventKeepsLimits}
use Rattle.gate_store.specs.Headline.{KeepLimits, Headline, HistoryTells, LawOfHeadlines, LawOfTelling}
use Rattle.gate_store.specs.Run.{NoneMeetsFull, Records, after_deliveries, after_delivery, answers_to}
use Rattle.gate_deliveries.specs.declared.delivery.Delivery.{Delivery}
use Rattle.gate_deliveries.specs.declared.delivery.Event.{Event}
use Rattle.gate_deliveries.specs.Deliveries.{between, field_name, change_at, batch_at, now_at, name_at, text_at, commit_at, label_at, context_at, approves_at, role_at, state_at, comment_in, role_in, settings_in, base_in, opened_in, pushed_in, closed_in, labeled_in, unlabeled_in, review_in, staged_in, conflict_in, status_in, refused_in, tick_in, event_called, id_at, delivery_in, object_of, delivery_of}
use Rattle.gate_hook.specs.Lines.{is_too_long, after_lines, after_reading, reading_meets_full, NoLineMeetsFull}
use Rattle.gate_hook.specs.Told.{deliveries_on, LawOfLines, LawOfLineHistories}
use Rattle.gate_deliveries.specs.declared.field.Field.TheVariants as field
use Rattle.gate_deliveries.specs.declared.reading.DeliveryFault.{DeliveryFault}
use Rattle.gate_deliveries.specs.declared.reading.DeliveryFault.TheVariants.{BadField}

-- STEPS: what holds of each value that a step may go on with, or of the values of which something is known
go_on : {X Y : Type 0} (P : Y → Type 0) (step : Result X DeliveryFault) (next : X → Result Y DeliveryFault) → ((x : X) → IfOk (next x) P) → IfOk (step >>= next) P
go_on P (Ok x) next keep = keep x
go_on P (Err fault) next keep = tt

go_with : {X Y : Type 0} (Q : X → Type 0) (P : Y → Type 0) (step : Result X DeliveryFault) (next : X → Result Y DeliveryFault) → IfOk step Q → ((x : X) → Q x → IfOk (next x) P) → IfOk (step >>= next) P
go_with Q P (Ok x) next holds keep = keep x holds
go_with Q P (Err fault) next holds keep = tt

-- THE EVENT of an object
abbrev pub Keeps : Result Event DeliveryFault → Type 0
Keeps result = IfOk result EventKeepsLimits

one : {X : Type 0} (step : Result X DeliveryFault) (next : X → Result Event DeliveryFault) → ((x : X) → Keeps (next x)) → Keeps (step >>= next)
one step next keep = go_on EventKeepsLimits step next keep

within : (n : ℕ) (test : Bool) → (nat_le 0 n && nat_le n 9_000_000_000_000_000) ≡ test → IfOk (ok_or (cond test (Some n) None) (BadField field.Now)) IsMoment
within n true is = grind (arith, nat_tests)
within n false is = tt

moment : (found : Option ℕ) → IfOk (ok_or (option_and_then (between 0 9_000_000_000_000_000) found) (BadField field.Now)) IsMoment
moment (Some n) = within n _ refl
moment None = tt

tick_keeps : (d : Data) → Keeps (tick_in d)
tick_keeps d =
    let found = option_and_then as_u64 (option_and_then as_number (get (field_name field.Now) d)) in
    go_with IsMoment EventKeepsLimits (now_at d) _ (moment found) (λ now is. is)

chosen : (test : Bool) (one_event another : Result Event DeliveryFault) → Keeps one_event → Keeps another → Keeps (cond test one_event another)
chosen true one_event another keeps others = keeps
chosen false one_event another keeps others = others

event_keeps : (kind : List ℕ) (d : Data) → Keeps (event_called kind d)
event_keeps kind d =
    chosen (is (codes "comment")) (comment_in d) _ (one (change_at d) _ (λ change. one (name_at field.Person d) _ (λ person. one (text_at field.Text d) _ (λ text. tt))))
    (chosen (is (codes "role")) (role_in d) _ (one (name_at field.Person d) _ (λ person. one (role_at d) _ (λ role. tt)))
    (chosen (is (codes "settings")) (settings_in d) _ (one (text_at field.Text d) _ (λ text. tt))
    (chosen (is (codes "base")) (base_in d) _ (one (commit_at field.Commit d) _ (λ commit. tt))
    (chosen (is (codes "opened")) (opened_in d) _ (one (change_at d) _ (λ change. one (name_at field.Author d) _ (λ author. one (commit_at field.Head d) _ (λ head. tt))))
    (chosen (is (codes "pushed")) (pushed_in d) _ (one (change_at d) _ (λ change. one (commit_at field.Head d) _ (λ head. tt)))
    (chosen (is (codes "closed")) (closed_in d) _ (one (change_at d) _ (λ change. tt))
    (chosen (is (codes "labeled")) (labeled_in d) _ (one (change_at d) _ (λ change. one (label_at d) _ (λ label. tt)))
    (chosen (is (codes "unlabeled")) (unlabeled_in d) _ (one (change_at d) _ (λ change. one (label_at d) _ (λ label. tt)))
    (chosen (is (codes "review")) (review_in d) _ (one (change_at d) _ (λ change. one (name_at field.Person d) _ (λ person. one (commit_at field.Head d) _ (λ head. one (approves_at d) _ (λ approves. tt)))))
    (chosen (is (codes "staged")) (staged_in d) _ (one (batch_at d) _ (λ batch. one (commit_at field.Commit d) _ (λ commit. tt)))
    (chosen (is (codes "conflict")) (conflict_in d) _ (one (batch_at d) _ (λ batch. tt))
    (chosen (is (codes "status")) (status_in d) _ (one (commit_at field.Commit d) _ (λ commit. one (context_at d) _ (λ name. one (state_at d) _ (λ state. tt))))
    (chosen (is (codes "refused")) (refused_in d) _ (one (batch_at d) _ (λ batch. tt))
    (chosen (is (codes "tick")) (tick_in d) _ (tick_keeps d) tt)))))))))))))) where
      is : List ℕ → Bool
      is name = bytes_eq kind name

-- A DELIVERY that was read
abbrev pub DeliveryKeeps : Delivery → Type 0
DeliveryKeeps delivery = EventKeepsLimits delivery.event

object_keeps : (d : Data) → IfOk (delivery_in d) DeliveryKeeps
object_keeps d =
    go_on DeliveryKeeps (id_at d) _ (λ id. go_on DeliveryKeeps (text_at field.Event d) _ (λ kind. go_with EventKeepsLimits DeliveryKeeps (event_called kind d) _ (event_keeps kind d) (λ event keeps. keeps)))

pub read_keeps : (text : List ℕ) → IfOk (delivery_of text) DeliveryKeeps
unfolding delivery_of
read_keeps text = go_on DeliveryKeeps (object_of text) delivery_in object_keeps

-- LINES
keep_all : (lines : List (List ℕ)) → KeepLimits (deliveries_on lines)
keep_all [] = All-nil DeliveryKeeps
keep_all (line ∷ lines) = by (is_too_long line) (delivery_of line) (read_keeps line) (keep_all lines) where
  by : (long : Bool) (reading : Result Delivery DeliveryFault) → IfOk reading DeliveryKeeps → KeepLimits (deliveries_on lines)
      → KeepLimits (cons_option (cond long None (result_ok reading)) (deliveries_on lines))
  by true reading keeps others = others
  by false (Ok delivery) keeps others = All-cons DeliveryKeeps delivery (deliveries_on lines) keeps others
  by false (Err fault) keeps others = others

records_on : (old : Records) (lines : List (List ℕ)) → after_deliveries old (deliveries_on lines) ≡ after_lines old lines
records_on old [] = refl
records_on old (line ∷ lines) = by (is_too_long line) (delivery_of line) (λ records. records_on records lines) where
  by : (long : Bool) (reading : Result Delivery DeliveryFault) → ((records : Records) → after_deliveries records (deliveries_on lines) ≡ after_lines records lines)
      → after_deliveries old (cons_option (cond long None (result_ok reading)) (deliveries_on lines)) ≡ after_lines (cond long old (after_reading old reading)) lines
  by true reading others = others old
  by false (Ok delivery) others = others (after_delivery old delivery)
  by false (Err fault) others = others old

room_on : (old : Records) (lines : List (List ℕ)) → NoLineMeetsFull old lines → NoneMeetsFull old (deliveries_on lines)
room_on old [] none = tt
room_on old (line ∷ lines) (room, none) = by (is_too_long line) (delivery_of line) room none (λ records. room_on records lines) where
  by : (long : Bool) (reading : Result Delivery DeliveryFault) → cond long false (reading_meets_full old reading) ≡ false → NoLineMeetsFull (cond long old (after_reading old reading)) lines
      → ((records : Records) → NoLineMeetsFull records lines → NoneMeetsFull records (deliveries_on lines))
      → NoneMeetsFull old (cons_option (cond long None (result_ok reading)) (deliveries_on lines))
  by true reading here later others = others old later
  by false (Ok delivery) here later others = (here, others (after_delivery old delivery) later)
  by false (Err fault) here later others = others old later

-- THE LAW
pub lines_law : LawOfHeadlines → LawOfLines
lines_law law old lines none =
    subst (Headline old (deliveries_on lines) (answers_to old (deliveries_on lines))) (records_on old lines) (law old (deliveries_on lines) (keep_all lines) (room_on old lines none))

pub line_histories_law : LawOfTelling → LawOfLineHistories
line_histories_law law old lines none history legal =
    subst (λ (new : Records). HistoryTells old (deliveries_on lines) new history) (records_on old lines) (law old (deliveries_on lines) (keep_all lines) (room_on old lines none) history legal)
