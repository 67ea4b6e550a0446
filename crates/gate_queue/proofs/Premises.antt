-- What a row of rules that holds says of the change.
use Rattle.std.proofs.Common.{◌≡◌, ℕ, true, false, List, [], None, eqb, sym, ap, subst, arith}
use Rattle.std.proofs.lemmas.Bool.Decides.{nat_tests}
use Rattle.std.specs.Option.{option_map, option_map_or}
use Rattle.gate_queue.specs.Vocabulary.{Command, first_failing, is_fit, is_open_phase, Change, On, Opened, Happened}
use Rattle.gate_rules.specs.Rules.{begins_with_rules, approval_rules, try_rules}
use Rattle.gate_queue.specs.History.{Event, author_back, landed_back, phase_back, settings_back, fit_back, change_of, look_back}
use Rattle.gate_queue.specs.Machine.{broken, of_open_change}
use Rattle.gate_queue.proofs.Changes.{same_number}
use Rattle.gate_queue.proofs.Choosing.{by_option}
use Rattle.gate_queue.proofs.Fitness.{fit_by_rules}
use Rattle.gate_queue.proofs.Unseen.{Unseen, blank_phase, blank_landed}

-- an approval that no rule denies is of a fit change
pub fits : (events : List Event) (person : List ℕ) (n : ℕ) (command : Command)
    → first_failing (begins_with_rules (look_back events) person n command (approval_rules (look_back events) n)) ≡ None
    → (c : ℕ) → eqb c n ≡ true → fit_back events c ≡ true
fits events person n command holds c same = subst (λ m. fit_back events m ≡ true) (sym (same_number c n same))
    (by_option (λ author. option_map_or (λ (x : Change). is_fit (settings_back events) x.phase x.labels x.reviews) (option_map (change_of events n) author) false ≡ true → fit_back events n ≡ true)
    (λ unfit. cc unfit) (λ author fit. fit) (author_back events n) (fit_by_rules (look_back events) person n command holds))

-- a change that may be opened isn't open, and hasn't landed
pub shut : (events : List Event) (n : ℕ) (author head : List ℕ) → ((c : ℕ) → Unseen events c) → broken (look_back events) (On n (Happened (Opened author head))) ≡ None
    → (c : ℕ) → eqb c n ≡ true → is_open_phase (phase_back events c) ≡ false
shut events n author head unseen holds c same =
    let unopened : author_back events n ≡ None → is_open_phase (phase_back events n) ≡ false = λ none. ap is_open_phase (blank_phase events n (unseen n none)) in
    grind (arith, nat_tests, unopened)

pub fresh : (events : List Event) (n : ℕ) (author head : List ℕ) → ((c : ℕ) → Unseen events c) → broken (look_back events) (On n (Happened (Opened author head))) ≡ None
    → (c : ℕ) → eqb c n ≡ true → landed_back events c ≡ false
fresh events n author head unseen holds c same =
    let unopened : author_back events n ≡ None → landed_back events n ≡ false = λ none. blank_landed events n (unseen n none) in
    grind (arith, nat_tests, unopened)

-- a change that is open hasn't landed
pub still_here : (events : List Event) (n : ℕ) → first_failing (of_open_change (look_back events) n []) ≡ None → (c : ℕ) → eqb c n ≡ true → landed_back events c ≡ false
still_here events n holds c same = grind (arith, nat_tests)

pub tried_here : (events : List Event) (person : List ℕ) (n : ℕ) (command : Command)
    → first_failing (begins_with_rules (look_back events) person n command (try_rules (look_back events) n)) ≡ None → (c : ℕ) → eqb c n ≡ true → landed_back events c ≡ false
tried_here events person n command holds c same = grind (arith, nat_tests)
