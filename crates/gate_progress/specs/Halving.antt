-- HALVING finds a change that makes each batch fail that has it, and leaves the others approved.
use Rattle.std.specs.Prelude.{◌≡◌, ◌≤◌, ◌+◌, ◌-◌, ◌^◌, ◌==◌, ◌&&◌, ◌||◌, not, ℕ, Bool, true, false, List, [], ◌∷◌, length, Some, IfSome, Result, Ok, Err, if◌then◌else◌}
use Rattle.std.proofs.Math.Bool.{beq}
use Rattle.std.specs.FinMap as finite
use Rattle.std.specs.List.{All}
use Rattle.std.specs.Option.{option_map_or}
use Rattle.gate_rules.specs.Rules.{is_landed}
use Rattle.gate_state.specs.Checks as checks
use Rattle.gate_state.specs.State.{IsState, approved_on}
use Rattle.gate_state.specs.declared.act.Act.TheVariants.{On, Other}
use Rattle.gate_state.specs.declared.act.Act.{Act}
use Rattle.gate_state.specs.declared.act.Fact.TheVariants as fact
use Rattle.gate_state.specs.declared.batch.Batch.{Batch}
use Rattle.gate_state.specs.declared.lane.Lane.{Lane}
use Rattle.gate_state.specs.declared.state.State.{State}
use Rattle.gate_queue.specs.Machine.{after, all_but, has_running, loses_approval}
use Rattle.gate_queue.specs.Progress.{CanCome, after_all, each_of, fails, keeps_place}
use Rattle.gate_queue.specs.Vocabulary.{DeskView, SettingsFault, SettingsView, look, settings_of}

abbrev pub is_in : ℕ → Batch → Bool
is_in change batch = checks.is_in change batch.changes

-- a failure of a batch that has the change, and how many of these acts are one
abbrev pub fails_with : ℕ → State → Act → Bool
fails_with change s act = fails s act && has_running (is_in change) s.queue.staging

abbrev pub failures_with : ℕ → State → List Act → ℕ
failures_with change s [] = 0
failures_with change s (act ∷ acts) = (if fails_with change s act then 1 else 0) + failures_with change (after s act) acts

-- whether an act leaves a change alone: it is no deed on it, or one that leaves its approval and its priority
abbrev pub leaves_alone : ℕ → State → Act → Bool
leaves_alone change s (On other deed) = all_but change other || keeps_place s change (after s (On other deed))
leaves_alone change s (Other fact) = true

-- CONFINED to so many: a batch that has the change has no more changes than that, and no other will join it, since it runs or was retried.
pub record IsConfined (change size : ℕ) (lane : Lane) : Type 0 where
  pub running : IfSome lane.running (λ batch. is_in change batch ≡ true → length batch.changes ≤ size)
  pub waiting : All (λ batch. is_in change batch ≡ true → (batch.again ≡ true) × (length batch.changes ≤ size)) lane.waiting

-- EACH FAILURE HALVES the batch that has the change, until the change is alone; the next one ends its approval. So a batch of up to
-- 2 ^ steps changes fails so often at the most, and once more. A change that is alone sooner is one of a batch of up to 2 ^ 0 then.
pub record IsHalved (change steps : ℕ) (s : State) (acts : List Act) : Type 0 where
  pub most : failures_with change s acts ≤ steps + 1
  pub confined : failures_with change s acts ≤ steps → IsConfined change (2 ^ (steps - failures_with change s acts)) (after_all s acts).queue.staging
  pub ended : failures_with change s acts ≡ steps + 1 → approved_on (after_all s acts).desk change ≡ false

abbrev pub LawOfHalving : Type 0
LawOfHalving = (s : State) (batch : Batch) (change steps : ℕ) (acts : List Act) → IsState s → CanCome s acts → s.queue.staging.running ≡ Some batch
    → is_in change batch ≡ true → length batch.changes ≤ 2 ^ steps → each_of (leaves_alone change) s acts ≡ true
    → IsHalved change steps s acts

-- THE OTHERS STAY approved until they land, if each batch that fails has the change that is to blame, and if deeds and settings leave their
-- approval.
abbrev pub is_against : DeskView → ℕ → Result SettingsView SettingsFault → Bool
is_against desk change (Ok settings) = option_map_or (loses_approval settings) (finite.get desk.changes change) false
is_against desk change (Err fault) = false

abbrev pub is_spared_by : ℕ → State → Act → Bool
is_spared_by change s (Other (fact.Settings text)) = not (is_against s.desk change (settings_of text))
is_spared_by change s (On other deed) = all_but change other || beq (approved_on s.desk change) (approved_on (after s (On other deed)).desk change)
is_spared_by change s act = true

abbrev pub is_blamed_by : ℕ → State → Act → Bool
is_blamed_by change s act = not (fails s act) || fails_with change s act

abbrev pub LawOfSparing : Type 0
LawOfSparing = (s : State) (blamed change : ℕ) (acts : List Act) → IsState s → CanCome s acts → approved_on s.desk change ≡ true → (blamed == change) ≡ false
    → each_of (is_blamed_by blamed) s acts ≡ true → each_of (is_spared_by change) s acts ≡ true
    → (approved_on (after_all s acts).desk change || is_landed (look (after_all s acts).desk) change) ≡ true
