-- The sets of a change by the words of the history.
use Rattle.std.proofs.Common.{◌≡◌, ℕ, Bool, false, cond, not, ◌&&◌, ◌||◌, List, [], ◌∷◌, Option, is_none, ◌∙◌, ap, arith}
use Rattle.std.proofs.lemmas.Map.Text.{is_eq-slice_cmp}
use Rattle.std.specs.Cmp.Lexicographic.{slice_cmp, nat_list_cmp_total}
use Rattle.std.specs.FinSet as set
use Rattle.std.specs.List.{fold, list_any}
use Rattle.std.specs.Option.{unwrap_or, option_or, option_and_then, option_map_or}
use Rattle.std.specs.Ordering.{nat_cmp}
use Rattle.std.specs.Str.{bytes_eq}
use Rattle.gate_queue.specs.Vocabulary.{Texts}
use Rattle.gate_text.specs.Finite.{contains-each, known_by_order}
use Rattle.gate_queue.specs.History.{Event, Mark, marked, Delegation, delegated, last_of, since, said_by, said_on, author_back, head_back, moves, status_said, told_back, passed_back, label_said, labels_back, review_said, reviews_back, delegation_said, delegates_back}
use Rattle.gate_queue.specs.Words.{mark_of, marks, is_labeled, has_reviewed, head_marks, has_succeeded_there, names_person, takes_back, is_delegated}

-- SETS AND TESTS
inserted : (s : Texts) (k q : List ℕ) → set.contains (set.insert s k) q ≡ (bytes_eq q k || set.contains s q)
inserted s k q = set.contains-insert nat_list_cmp_total s k q ∙ ap (λ (b : Bool). b || set.contains s q) (is_eq-slice_cmp q k)

removed : (s : Texts) (k q : List ℕ) → set.contains (set.remove s k) q ≡ (not (bytes_eq q k) && set.contains s q)
removed s k q = set.contains-remove nat_list_cmp_total s k q ∙ ap (λ (b : Bool). not b && set.contains s q) (is_eq-slice_cmp q k)

emptied : (q : List ℕ) → set.contains (set.empty {R = slice_cmp nat_cmp}) q ≡ false
emptied q = set.contains-empty (slice_cmp nat_cmp) q

-- LABELS
label_step : (mark : Option Mark) (labels : Texts) (label : List ℕ) (last : Option Bool) → set.contains labels label ≡ unwrap_or last false
    → set.contains (marked mark labels) label ≡ unwrap_or (option_or (option_and_then (mark_of label) mark) last) false
label_step mark labels label last is = grind (arith, inserted, removed)

pub labels_law : (events : List Event) (c : ℕ) (label : List ℕ) → set.contains (labels_back events c) label ≡ is_labeled events c label
labels_law [] c label = emptied label
labels_law (event ∷ events) c label = label_step (said_on c label_said event events) (labels_back events c) label (last_of (marks c label_said label) events) (labels_law events c label)

-- REVIEWS
review_step : (moving : Bool) (mark : Option Mark) (reviews : Texts) (person : List ℕ) (had : Bool) → set.contains reviews person ≡ had
    → set.contains (cond moving set.empty (marked mark reviews)) person
    ≡ ((not moving && unwrap_or (option_and_then (mark_of person) mark) false) || ((not moving && is_none (option_and_then (mark_of person) mark)) && had))
review_step moving mark reviews person had is = grind (arith, inserted, removed, emptied)

pub reviews_law : (events : List Event) (c : ℕ) (person : List ℕ) → set.contains (reviews_back events c) person ≡ has_reviewed events c person
reviews_law [] c person = emptied person
reviews_law (event ∷ events) c person = review_step (moves c event events) (said_on c review_said event events) (reviews_back events c) person _ (reviews_law events c person)

-- THE STATUSES OF A HEAD
told_law : (events : List Event) (c : ℕ) (name : List ℕ) → set.contains (told_back events c) name
    ≡ since (λ event before. not (moves c event before) && unwrap_or (head_marks c name event before) false) (λ event before. not (moves c event before) && is_none (head_marks c name event before)) events
told_law [] c name = emptied name
told_law (event ∷ events) c name = review_step (moves c event events) (said_by (status_said (head_back events c)) event events) (told_back events c) name _ (told_law events c name)

pub passed_law : (events : List Event) (c : ℕ) (name : List ℕ) → set.contains (passed_back events c) name ≡ has_succeeded_there events c name
passed_law events c name = grind (arith, told_law events c name, emptied name)

-- DELEGATES
names_added : (names : List (List ℕ)) (delegates : Texts) (person : List ℕ)
    → set.contains (fold set.insert delegates names) person ≡ (list_any (bytes_eq person) names || set.contains delegates person)
names_added names delegates person =
    contains-each nat_list_cmp_total delegates names person
    ∙ ap (λ (b : Bool). set.contains delegates person || b) (known_by_order person names)
    ∙ grind arith

delegate_step : (author : Option (List ℕ)) (delegation : Option Delegation) (delegates : Texts) (person : List ℕ) (had : Bool) → set.contains delegates person ≡ had
    → set.contains (delegated author delegation delegates) person
    ≡ (option_map_or (names_person person author) delegation false || (not (option_map_or takes_back delegation false) && had))
delegate_step author delegation delegates person had is = grind (arith, inserted, names_added, emptied)

pub delegates_law : (events : List Event) (c : ℕ) (person : List ℕ) → set.contains (delegates_back events c) person ≡ is_delegated events c person
delegates_law [] c person = emptied person
delegates_law (event ∷ events) c person =
    delegate_step (author_back events c) (said_on c delegation_said event events) (delegates_back events c) person _ (delegates_law events c person)
