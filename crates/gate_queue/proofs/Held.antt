-- What holds of a state, and that it goes on when the open changes at a head are told of a status.
use Rattle.std.proofs.Common.{◌≡◌, ℕ, pos, false, List, is_some, refl, sym, subst, arith}
use Rattle.std.specs.Cmp.{nat_cmp_total}
use Rattle.std.specs.FinMap as finite
use Rattle.std.specs.Option.{option_map_or}
use Rattle.std.specs.Ordering.{nat_cmp}
use Rattle.gate_text.specs.Finite.{get-mapped}
use Rattle.gate_queue.specs.Vocabulary.{Texts, DeskView, look, Change, StatusState, Branch, Staging, Trying, Lane, State}
use Rattle.gate_rules.specs.View.{told_at}
use Rattle.gate_state.specs.State.{IsDesk, Marks, IsBranch, IsQueue, marks_on}
use Rattle.gate_queue.specs.Machine.{is_good, heads_told}
use Rattle.gate_queue.proofs.Keeping.{on_time}
use Rattle.gate_queue.proofs.Limits.{told_keeps}

-- WHAT HOLDS of a state, but for the limit of the next number
pub record Holds (s : State) : Type 0 where
  pub desk : IsDesk (look s.desk)
  pub queue : IsQueue s.desk s.queue

-- the batches of a branch, if the settings, the clock and what the branch sees have stayed
pub record Same (on : Branch) (old new : DeskView) : Type 0 where
  pub settings : new.settings ≡ old.settings
  pub clock : new.clock ≡ old.clock
  pub wanted : (c : ℕ) → (marks_on on new).wanted c ≡ (marks_on on old).wanted c
  pub landing : (c : ℕ) → (marks_on on new).landing c ≡ (marks_on on old).landing c
  pub priority : (c : ℕ) → (marks_on on new).priority c ≡ (marks_on on old).priority c

pub still_branch : (on : Branch) (old new : DeskView) (lane : Lane) → Same on old new → IsBranch on old.clock old.settings (marks_on on old) lane
    → IsBranch on new.clock new.settings (marks_on on new) lane
still_branch on old new lane same is =
    on_time on old new lane same.settings same.clock
    (subst (λ (marks : Marks). IsBranch on old.clock old.settings marks lane) (λ i. record { wanted = λ c. (sym (same.wanted c)) i; landing = λ c. (sym (same.landing c)) i; priority = λ c. (sym (same.priority c)) i }) is)

-- THE OPEN CHANGES AT A HEAD are told of a status of it.
module _ (s : State) (commit name : List ℕ) (state : StatusState) where
  told_seen : {X : Type 0} (seen : Change → X) (none : X) → ((change : Change) (passed : Texts) → seen (record change { passed = passed }) ≡ seen change) → (c : ℕ)
      → option_map_or seen (finite.get (heads_told commit name state s).desk.changes c) none ≡ option_map_or seen (finite.get s.desk.changes c) none
  told_seen seen none same c = let at = get-mapped nat_cmp (told_at commit name (is_good state)) nat_cmp_total s.desk.changes c in grind (arith, same)

  pub heads_told_holds : Holds s → Holds (heads_told commit name state s)
  heads_told_holds is = record {
    desk = told_keeps s.desk commit name (is_good state) is.desk;
    queue = record {
      order = is.queue.order;
      staging =
          still_branch Staging s.desk (heads_told commit name state s).desk s.queue.staging
          (record {
            settings = refl;
            clock = refl;
            wanted = told_seen (λ (x : Change). is_some x.approved) false (λ change passed. refl);
            landing = told_seen (λ (x : Change). x.landing) false (λ change passed. refl);
            priority = told_seen (λ (x : Change). x.priority) (pos 0) (λ change passed. refl);
          }) is.queue.staging;
      trying =
          still_branch Trying s.desk (heads_told commit name state s).desk s.queue.trying
          (record { settings = refl; clock = refl; wanted = told_seen (λ (x : Change). x.trying) false (λ change passed. refl); landing = λ c. refl; priority = λ c. refl }) is.queue.trying;
      alone = is.queue.alone;
    };
  }
