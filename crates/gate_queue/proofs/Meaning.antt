-- What an act means: no rule denies it if none denies the act, it keeps the limits, and its orders are right by the act.
use Rattle.std.proofs.Common.{◌≡◌, ℕ, List, ◌∷◌, Option, Some, None, IfSome, refl, sym, ◌∙◌, ap, subst, arith}
use Rattle.std.specs.FinMap as finite
use Rattle.std.specs.List.{All}
use Rattle.std.specs.Option.{option_and_then, option_or}
use Rattle.gate_queue.specs.Vocabulary.{Command, Retry, Known, DeskView, Look, first_failing, asks, is_known, is_open, last_command, look, Change, Repeat, Rule, UnknownChange, NotOpen, Act, On, Said, Order, Land, State}
use Rattle.gate_rules.specs.Rules.{admits, need_of_retry, is_delegate, repeated_rules}
use Rattle.gate_rules.specs.declared.change.Repeat.TheVariants as repeat
use Rattle.gate_rules.specs.declared.rule.Rule.TheVariants.{NotPermitted}
use Rattle.gate_state.specs.Acts.{ActKeepsLimits}
use Rattle.gate_queue.specs.History.{Event, IsRightOrder}
use Rattle.gate_queue.specs.Judging.{IsRetry}
use Rattle.gate_queue.specs.Machine.{DeskTakesNoMemory, broken, missing, denial, repeated, meaning, done, unless_denied, after}
use Rattle.gate_state.specs.State.{IsChange, RepeatKeepsLimits, IsState}
use Rattle.gate_queue.proofs.Wording.{none_both}
use Rattle.gate_queue.proofs.Choosing.{by_option}

-- An act means itself, but for a `retry`.
pub means : (P : Act → Type 0) (s : Look) (act : Act) → P act → ((n : ℕ) (person : List ℕ) → act ≡ On n (Said person (Known Retry)) → P (On n (Said person (Known (repeated (last_command s n)))))) → P (meaning s act)
means P s (On n (Said person (Known Retry))) itself repeats = repeats n person refl
means P s act itself repeats = itself

-- NO RULE DENIES what a `retry` repeats, if none denies the `retry`.
abbrev retry_row : Look → List ℕ → ℕ → Option Repeat → List (Option Rule)
retry_row s person n last =
    asks (is_known s n) UnknownChange
    ∷ asks (admits (need_of_retry last) (s.role person) (is_delegate s n person)) (NotPermitted (need_of_retry last))
    ∷ asks (is_open s n) NotOpen
    ∷ repeated_rules s n last

repeated_holds : (s : Look) (person : List ℕ) (n : ℕ) (last : Option Repeat) → last_command s n ≡ last → first_failing (retry_row s person n last) ≡ None
    → broken s (On n (Said person (Known (repeated last)))) ≡ None
repeated_holds s person n last is holds = grind arith

meaning_holds : (s : Look) (act : Act) → broken s act ≡ None → broken s (meaning s act) ≡ None
meaning_holds s act holds =
    means (λ a. broken s a ≡ None) s act holds (λ n person is. repeated_holds s person n (last_command s n) refl (subst (λ a. broken s a ≡ None) is holds))

meaning_there : (l : Look) (s : State) (act : Act) → missing s (meaning l act) ≡ missing s act
meaning_there l s act = means (λ a. missing s a ≡ missing s act) l act refl (λ n person is. ap (missing s) (sym is))

pub meaning_allowed : (s : State) (act : Act) → denial s act ≡ None → denial s (meaning (look s.desk) act) ≡ None
meaning_allowed s act holds =
    let both = none_both (missing s act) (broken (look s.desk) act) holds in
    λ i. option_or ((meaning_there (look s.desk) s act ∙ both.0) i) (meaning_holds (look s.desk) act both.1 i)

-- What an act means, means itself.
meaning_repeated : (s : Look) (n : ℕ) (person : List ℕ) (last : Option Repeat) → last_command s n ≡ last → meaning s (On n (Said person (Known (repeated last)))) ≡ On n (Said person (Known (repeated last)))
meaning_repeated s n person last is = grind arith

pub retry_means : (s : State) (n : ℕ) (person : List ℕ) → denial s (On n (Said person (Known Retry))) ≡ None
    → after s (On n (Said person (Known Retry))) ≡ after s (On n (Said person (Known (repeated (last_command (look s.desk) n)))))
retry_means s n person holds =
    let last = last_command (look s.desk) n in
    let same = meaning_repeated (look s.desk) n person last refl in
    (λ i. unless_denied (holds i) s (done s (On n (Said person (Known (repeated last))))).state)
    ∙ sym (λ i. unless_denied (meaning_allowed s (On n (Said person (Known Retry))) holds i) s (done s (same i)).state)

-- THE LIMITS: what a change keeps for a `retry` is within them.
repeated_limits : (n : ℕ) (person : List ℕ) (last : Option Repeat) → RepeatKeepsLimits last → ActKeepsLimits (On n (Said person (Known (repeated last))))
repeated_limits n person (Some (repeat.ApproveFor names)) keeps = keeps
repeated_limits n person last keeps = tt

kept_limits : (s : State) → IsState s → (n : ℕ) → RepeatKeepsLimits (last_command (look s.desk) n)
kept_limits s is n =
    by_option (λ had. IfSome had (IsChange s.desk.settings s.desk.base) → RepeatKeepsLimits (option_and_then (λ (c : Change). c.last) had)) (λ was. tt) (λ c was. was.last) (finite.get s.desk.changes n) (is.desk.changes n)

pub meaning_limits : (s : State) → IsState s → (act : Act) → ActKeepsLimits act → ActKeepsLimits (meaning (look s.desk) act)
meaning_limits s is act limits =
    means ActKeepsLimits (look s.desk) act limits (λ n person at. repeated_limits n person (last_command (look s.desk) n) (kept_limits s is n))

-- MEMORY: a `retry` takes some.
pub retry_takes : (desk : DeskView) (act : Act) → IsRetry act → DeskTakesNoMemory desk act → ⊥
retry_takes desk (On n (Said person (Known Retry))) is takes = takes
retry_takes desk other is takes = is

-- AN ORDER is right by the act if it is by what the act means: no command orders a landing.
spoken_right : (events : List Event) (n : ℕ) (person : List ℕ) (command : Command) (act : Act) (order : Order) → IsRightOrder events (On n (Said person (Known command))) order → IsRightOrder events act order
spoken_right events n person command act (Land batch base commit) right = cc right.success
spoken_right events n person command act order right = right

pub meaning_right : (events : List Event) (s : Look) (act : Act) (orders : List Order) → All (IsRightOrder events (meaning s act)) orders → All (IsRightOrder events act) orders
meaning_right events s act orders =
    means (λ a. All (IsRightOrder events a) orders → All (IsRightOrder events act) orders) s act (λ all. all)
    (λ n person is all place order at. spoken_right events n person (repeated (last_command s n)) act _ (all place order at))
