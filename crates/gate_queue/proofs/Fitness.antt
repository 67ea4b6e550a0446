-- Rows of rules that hold, changes that are fit, and what fewer labels leave of that.
use Rattle.std.proofs.Common.{◌≡◌, ℕ, Bool, true, false, List, [], ◌∷◌, Option, None, is_some, refl, ◌∙◌, arith}
use Rattle.std.specs.FinSet as set
use Rattle.std.specs.Cmp.Lexicographic.{slice_cmp, nat_list_cmp_total}
use Rattle.std.specs.List.{find}
use Rattle.std.specs.Option.{option_map_or}
use Rattle.std.specs.Ordering.{nat_cmp}
use Rattle.gate_queue.specs.Vocabulary.{SettingsView, Command, Look, Texts, asks, first_failing, is_open_phase, is_fit, Change, Phase, Rule}
use Rattle.gate_rules.specs.Rules.{begins_with_rules, approval_rules}

-- A ROW THAT HOLDS
pub passed : (b : Bool) (rule : Rule) (others : List (Option Rule)) → first_failing (asks b rule ∷ others) ≡ None → (b ≡ true) × (first_failing others ≡ None)
passed b rule others holds = grind arith

pub unless_so : (b : Bool) (rule : Rule) → asks b rule ≡ None → b ≡ true
unless_so b rule none = grind arith

-- an approval that no rule denies is of a fit change
pub fit_by_rules : (s : Look) (person : List ℕ) (n : ℕ) (command : Command) → first_failing (begins_with_rules s person n command (approval_rules s n)) ≡ None
    → option_map_or (λ (c : Change). is_fit s.settings c.phase c.labels c.reviews) (s.change n) false ≡ true
fit_by_rules s person n command holds = grind arith

-- what is fit is open
pub opened_so : (settings : Option SettingsView) (phase : Phase) (labels reviews : Texts) → is_fit settings phase labels reviews ≡ true → is_open_phase phase ≡ true
opened_so settings phase labels reviews fit = grind arith

-- FEWER LABELS
fewer_found : (one other : List ℕ → Bool) → ((label : List ℕ) → one label ≡ false → other label ≡ false) → (labels : List (List ℕ))
    → is_some (find one labels) ≡ false → is_some (find other labels) ≡ false
fewer_found one other so [] none = refl
fewer_found one other so (label ∷ labels) none = grind (arith, so label, fewer_found one other so labels)

-- a change that isn't blocked isn't when it has one label fewer
pub still_unblocked : (settings : SettingsView) (labels : set.FinSet (slice_cmp nat_cmp)) (label : List ℕ)
    → is_some (find (λ l. set.contains labels l) settings.block_labels) ≡ false
    → is_some (find (λ l. set.contains (set.remove labels label) l) settings.block_labels) ≡ false
still_unblocked settings labels label none =
    fewer_found (λ l. set.contains labels l) (λ l. set.contains (set.remove labels label) l)
    (λ l out. set.contains-remove nat_list_cmp_total labels label l ∙ grind (arith, out)) settings.block_labels none

pub still_fit : (settings : Option SettingsView) (phase : Phase) (labels reviews : Texts) (label : List ℕ) → is_fit settings phase labels reviews ≡ true
    → is_fit settings phase (set.remove labels label) reviews ≡ true
still_fit settings phase labels reviews label fit = grind (arith, λ (s : SettingsView). still_unblocked s labels label)
