-- What a state keeps, every act keeps.
use Rattle.std.proofs.Common.{◌≡◌, ◌≤◌, ℕ, pos, eqb, leb, Bool, true, false, not, ◌||◌, cond, if◌then◌else◌, List, [], ◌∷◌, length, Option, Some, None, Result, Ok, Err, is_some, IfSome, refl, sym, ◌∙◌, ap, subst, arith}
use Rattle.std.proofs.lemmas.Bool.{leb-true, or_left}
use Rattle.std.proofs.lemmas.Bool.Decides.{Decides-eqb}
use Rattle.std.proofs.lemmas.List.Elements.{All-nil}
use Rattle.std.proofs.lemmas.List.Sums.{sum_by-cons}
use Rattle.std.specs.Cmp.{nat_cmp_total}
use Rattle.std.specs.FinMap as finite
use Rattle.std.specs.FinMap.{get-empty}
use Rattle.std.specs.List.{list_any}
use Rattle.std.specs.Option.{option_map, option_map_or}
use Rattle.std.specs.Ordering.{nat_cmp}
use Rattle.gate_text.specs.Finite.{get-mapped}
use Rattle.gate_queue.specs.Vocabulary.{SettingsView, settings_of, SettingsFault, Look, is_blocked, has_too_few_reviews, DeskView, with_base, with_clock, without_approval, look, is_required, Change, Rule, ClockBack, Act, On, Other, Opened, Pushed, Closed, Labeled, Unlabeled, Review, Deed, Said, Happened, Role, Settings, Base, Staged as StagedFact, Conflict, Status, Refused, Tick, Why, Batch, Branch, Staging, Trying, Report, StageOf as Stage, Lane, Queue, State, Outcome}
use Rattle.gate_state.specs.State.{IsMoment, approved_on, landing_on, priority_on, trying_on, IsChange, IsDesk, Marks, IsRunning, IsBranch, IsQueue, IsState, marks_on}
use Rattle.gate_state.specs.Counts.{occurs, held, held_by, in_landing, of_any_priority}
use Rattle.gate_state.specs.Lanes as lanes
use Rattle.gate_state.specs.Lanes.{empty_lane, is_landing}
use Rattle.gate_state.specs.Acts.{ActKeepsLimits, DeedKeepsLimits}
use Rattle.gate_state.specs.declared.reply.Why.TheVariants as why
use Rattle.gate_queue.specs.Machine.{empty_state, heads_told, broken, denial, meaning, missing, has_ordered, effect, all_altered, without_try, closed, with_label, without_label, with_review, quiet, with_desk, with_queue, about, with_settled, settled, are_present, with_new_settings, under, accepted, lone_altered, has_passed, with_landing, to_land, released, released_at, released_on, sent_back, is_landing_with, lands_with, tries_left, rebased, timed_out, starting, done, unless_denied, after, ending, on_both, told_as, given_up, lone_on, ordered_on}
use Rattle.gate_state.specs.Queue as specs
use Rattle.gate_state.specs.Service.{IsInOrder, QueueIsInOrder, IsAlone, AreAlone}
use Rattle.gate_state.specs.declared.batch.Stage.TheVariants.{Staged, Landing}
use Rattle.gate_queue.specs.Progress.{CanCome, after_all}
use Rattle.gate_queue.proofs.Choosing.{either_way, by_option}
use Rattle.gate_queue.proofs.Changes.{all_look, lone_rest, lone_same, lone_ends}
use Rattle.gate_queue.proofs.Fitness.{passed}
use Rattle.gate_queue.proofs.Growing.{queue_grows}
use Rattle.gate_state.specs.Lemmas.Alone.{singles_law}
use Rattle.gate_state.specs.Lemmas.Apart.{queue_law}
use Rattle.gate_queue.proofs.Keeping.{OnlyAt, lands, none_landing, some_there, none_there, on_time, follow_keeps, taken_out_keeps, restarted_keeps, requeued_keeps, later_keeps, started_keeps, staged_keeps, reported_keeps, landing_keeps, failed_keeps}
use Rattle.gate_queue.proofs.Limits.{lone_keeps, all_keep, ended_keeps, untried_keeps, marked_keeps, released_keeps, effect_keeps, settings_keep, base_keeps, clock_keeps, role_keeps, empty_is_desk}
use Rattle.gate_queue.proofs.Meaning.{meaning_allowed, meaning_limits}
use Rattle.gate_queue.proofs.Only.{opened_only, line_only, pushed_only, fewer_only, against_only}
use Rattle.gate_queue.proofs.Wording.{none_both}
use Rattle.gate_queue.proofs.Held.{Holds, still_branch, heads_told_holds}
use Rattle.gate_state.specs.Room.{HasRoom}
use Rattle.gate_state.specs.Queue.{lane_of}
use Rattle.gate_queue.proofs.Told.{EachStep, told_so, timed_out_both_so}

-- A DEED ON A CHANGE
only_at : (desk : DeskView) (n : ℕ) (deed : Deed) → broken (look desk) (On n deed) ≡ None → OnlyAt n desk (effect desk n deed)
only_at desk n (Said person spoken) holds = line_only desk n person spoken holds
only_at desk n (Happened (Opened author head)) holds = opened_only desk n author head
only_at desk n (Happened (Pushed head)) holds = pushed_only desk n head
only_at desk n (Happened Closed) holds = fewer_only desk n closed (λ change. refl) (λ change some. cc some) (λ change. refl)
only_at desk n (Happened (Labeled label)) holds =
    against_only desk n (λ settings c. is_blocked settings c.labels) (with_label label) (λ change. refl) (λ change. refl) (λ change. refl) desk.settings
only_at desk n (Happened (Unlabeled label)) holds = fewer_only desk n (without_label label) (λ change. refl) (λ change some. some) (λ change. refl)
only_at desk n (Happened (Review person head approves)) holds =
    against_only desk n (λ settings c. has_too_few_reviews settings c.reviews) (with_review person approves) (λ change. refl) (λ change. refl) (λ change. refl) desk.settings

about_holds : (s : State) (n : ℕ) (deed : Deed) → Holds s → DeedKeepsLimits deed → broken (look s.desk) (On n deed) ≡ None → Holds (about s n deed).state
about_holds s n deed is limits holds = record {
  desk = effect_keeps s.desk n deed limits is.desk holds;
  queue = follow_keeps s.desk (effect s.desk n deed) n (only_at s.desk n deed holds) s.queue is.queue;
}

-- NEW SETTINGS
under_holds : (s : State) (settings : SettingsView) → Holds s → Holds (under settings s).state
under_holds s settings is = record {
  desk = settings_keep s.desk settings is.desk;
  queue = record {
    order = (queue_law back ((queue_law out ((queue_law s.queue is.queue.order).take_out Staging (approved_on new))).restart Staging)).restart Trying;
    staging =
        restarted_keeps Staging s.desk.clock s.desk.settings (marks_on Staging new) out.next out.staging
        (taken_out_keeps Staging s.desk.clock s.desk.settings (marks_on Staging s.desk) (marks_on Staging new) s.queue.next s.queue.staging is.queue.staging (approved_on new) (λ change so. (kept change so)) (λ change none. none) (λ change. (lands_as change, λ so. priced_as change)))
        s.desk.clock (Some settings);
    trying =
        restarted_keeps Trying s.desk.clock s.desk.settings (marks_on Trying new) back.next s.queue.trying
        (subst (λ (marks : Marks). IsBranch Trying s.desk.clock s.desk.settings marks s.queue.trying) (λ i. record { wanted = λ c. (sym (tried_as c)) i; landing = λ c. false; priority = λ c. pos 0 }) is.queue.trying)
        s.desk.clock (Some settings);
    alone = (singles_law back.next s.queue.trying is.queue.alone).restart;
  };
} where
  new : DeskView
  new = with_new_settings s.desk settings

  out : Queue
  out = specs.taken_out Staging (approved_on new) s.queue

  back : Queue
  back = specs.restarted Staging out

  at : (change : ℕ) → finite.get (with_settled s.desk settings).changes change ≡ option_map (settled settings) (finite.get s.desk.changes change)
  at change = get-mapped nat_cmp (settled settings) nat_cmp_total s.desk.changes change

  priced_as : (change : ℕ) → priority_on new change ≡ priority_on s.desk change
  priced_as change = let there = at change in grind arith

  lands_as : (change : ℕ) → landing_on new change ≡ landing_on s.desk change
  lands_as change = let there = at change in grind arith

  tried_as : (change : ℕ) → trying_on new change ≡ trying_on s.desk change
  tried_as change = let there = at change in grind arith

  kept : (change : ℕ) → approved_on new change ≡ true → (approved_on new change ≡ approved_on s.desk change) × (priority_on new change ≡ priority_on s.desk change)
  kept change some = let there = at change in (grind arith, priced_as change)

accepted_holds : (s : State) (read : Result SettingsView SettingsFault) → Holds s → Holds (accepted s read).state
accepted_holds s (Err fault) is = is
accepted_holds s (Ok settings) is = either_way (λ (o : Outcome). Holds o.state) (are_present s.desk settings) (quiet s) (under settings s) (λ present. is) (λ new. under_holds s settings is)

-- No try is landing, so that one that fails is dropped.
pub try_not_landing : (lane : Lane) → AreAlone lane → lands lane.running ≡ false
try_not_landing lane alone =
    by_option (λ running. IfSome running (λ batch. IsAlone batch × (is_landing batch.stage ≡ false)) → lands running ≡ false) (λ is. refl) (λ batch is. is.1) lane.running alone.running

-- A BATCH ENDS: the desk then
module _ (branch : Branch) (s : State) where
  abbrev ended_desk : DeskView
  ended_desk = lone_altered (given_up branch) s.desk (lone_on branch s)

  ended_rest : (ended_desk.settings ≡ s.desk.settings) × (ended_desk.clock ≡ s.desk.clock)
  ended_rest = lone_rest (given_up branch) s.desk (lone_on branch s)

  -- what is read of a change, if what it loses isn't
  still_seen : {X : Type 0} (seen : Change → X) (none : X) → ((change : Change) → seen (given_up branch change) ≡ seen change) → (c : ℕ)
      → option_map_or seen (finite.get ended_desk.changes c) none ≡ option_map_or seen (finite.get s.desk.changes c) none
  still_seen = lone_same (given_up branch) s.desk (lone_on branch s)

pub ending_holds : (branch : Branch) (s : State) (why : Why) → Holds s → lands (lane_of branch s.queue).running ≡ false → Holds (ending branch why s).state
ending_holds Staging s why is not_so = record {
  desk = lone_keeps without_approval s.desk (lone_on Staging s) (λ change was. ended_keeps s.desk.settings s.desk.base change was) is.desk;
  queue = record {
    order = (queue_law s.queue is.queue.order).fail Staging;
    staging = on_time Staging s.desk (ended_desk Staging s) (lanes.failed s.queue.next s.queue.staging) (ended_rest Staging s).0 (ended_rest Staging s).1
        (failed_keeps Staging s.desk.clock s.desk.settings (marks_on Staging s.desk) (marks_on Staging (ended_desk Staging s)) s.queue.next s.queue.staging is.queue.staging not_so
        (λ c. lone_ends without_approval s.desk (lone_on Staging s) (λ (x : Change). is_some x.approved) (λ change. refl) c)
        (λ c. (still_seen Staging s (λ (x : Change). x.priority) (pos 0) (λ change. refl) c, still_seen Staging s (λ (x : Change). x.landing) false (λ change. refl) c)));
    trying = still_branch Trying s.desk (ended_desk Staging s) s.queue.trying
        (record { settings = (ended_rest Staging s).0; clock = (ended_rest Staging s).1; wanted = still_seen Staging s (λ (x : Change). x.trying) false (λ change. refl); landing = λ c. refl; priority = λ c. refl })
        is.queue.trying;
    alone = is.queue.alone;
  };
}
ending_holds Trying s why is not_so = record {
  desk = lone_keeps without_try s.desk (lone_on Trying s) (λ change was. untried_keeps s.desk.settings s.desk.base change was) is.desk;
  queue = record {
    order = (queue_law s.queue is.queue.order).drop Trying;
    staging = still_branch Staging s.desk (ended_desk Trying s) s.queue.staging
        (record {
          settings = (ended_rest Trying s).0;
          clock = (ended_rest Trying s).1;
          wanted = still_seen Trying s (λ (x : Change). is_some x.approved) false (λ change. refl);
          landing = still_seen Trying s (λ (x : Change). x.landing) false (λ change. refl);
          priority = still_seen Trying s (λ (x : Change). x.priority) (pos 0) (λ change. refl);
        })
        is.queue.staging;
    trying = on_time Trying s.desk (ended_desk Trying s) (lanes.dropped s.queue.trying) (ended_rest Trying s).0 (ended_rest Trying s).1
        (subst (IsBranch Trying s.desk.clock s.desk.settings (marks_on Trying (ended_desk Trying s))) (singles_law s.queue.next s.queue.trying is.queue.alone).fail.0
        (failed_keeps Trying s.desk.clock s.desk.settings (marks_on Trying s.desk) (marks_on Trying (ended_desk Trying s)) s.queue.next s.queue.trying is.queue.trying not_so
        (λ c. lone_ends without_try s.desk (lone_on Trying s) (λ (x : Change). x.trying) (λ change. refl) c) (λ c. (refl, refl))));
    alone = (singles_law s.queue.next s.queue.trying is.queue.alone).drop;
  };
}

-- THE RULES ON BATCHES say that the running batch isn't landing
pub ordered_so : (lane : Lane) (number : ℕ) → has_ordered number lane ≡ true → lands lane.running ≡ false
ordered_so lane number so = grind arith

-- A BATCH IS TO LAND, or goes back
-- a change that is in a batch is approved or landing
pub queued_held : (s : State) → Holds s → (c : ℕ) → 1 ≤ held of_any_priority c s.queue.staging → (approved_on s.desk c || landing_on s.desk c) ≡ true
queued_held s is c some = let places = is.queue.staging.places c in grind arith

-- and one that is in a try is tried
pub tried_held : (s : State) → Holds s → (c : ℕ) → 1 ≤ held of_any_priority c s.queue.trying → trying_on s.desk c ≡ true
tried_held s is c some = let places = is.queue.trying.places c in grind arith

-- A change of the desk of which a test holds is one that the desk keeps.
there_so : (s : State) → Holds s → (test : Change → Bool) (c : ℕ) → option_map_or test (finite.get s.desk.changes c) false ≡ true
    → (change : Change) × IsChange s.desk.settings s.desk.base change × (test change ≡ true)
there_so s is test c so = by (finite.get s.desk.changes c) (is.desk.changes c) so where
  by : (had : Option Change) → IfSome had (IsChange s.desk.settings s.desk.base) → option_map_or test had false ≡ true → (change : Change) × IsChange s.desk.settings s.desk.base change × (test change ≡ true)
  by None was so = cc so
  by (Some change) was so = (change, was, so)

pub tried_ready : (s : State) → Holds s → (c : ℕ) → trying_on s.desk c ≡ true → (is_some s.desk.settings ≡ true) × (is_some s.desk.base ≡ true)
tried_ready s is c so = let (change, was, tried) = there_so s is (λ (x : Change). x.trying) c so in let ready = was.tried tried in (ready.1, ready.2)

-- so that there are settings and a base, if a batch has changes
pub ready : (s : State) → Holds s → (changes : List ℕ) → not (eqb (length changes) 0) ≡ true
    → ((c : ℕ) → list_any (eqb c) changes ≡ true → (approved_on s.desk c || landing_on s.desk c) ≡ true) → (is_some s.desk.settings ≡ true) × (is_some s.desk.base ≡ true)
ready s is [] some all = cc some
ready s is (first ∷ changes) some all =
    let so = all first (or_left _ _ ((Decides-eqb first first).1 refl)) in
    let (change, was, queued) = there_so s is (λ (x : Change). is_some x.approved || x.landing) first (grind (arith, so)) in
    was.ready queued

module _ (s : State) (is : Holds s) (batch : Batch) (runs : s.queue.staging.running ≡ Some batch) where
  pub queued_there : (c : ℕ) → list_any (eqb c) batch.changes ≡ true → (approved_on s.desk c || landing_on s.desk c) ≡ true
  queued_there c there = queued_held s is c
      (omega (
        arith,
        ap (λ (o : Option Batch). held of_any_priority c (record { running = o; waiting = s.queue.staging.waiting })) runs,
        sum_by-cons (held_by of_any_priority c) batch s.queue.staging.waiting,
        some_there c batch.changes there,
      ))

  pub running_ready : (is_some s.desk.settings ≡ true) × (is_some s.desk.base ≡ true)
  running_ready = ready s is batch.changes (subst (λ (o : Option Batch). IfSome o (IsRunning Staging s.desk.clock s.desk.settings)) runs is.queue.staging.running).changes queued_there

  module _ (since : ℕ) (commit : List ℕ) (reports : finite.FinMap _ Report) (stage : batch.stage ≡ Staged since commit reports) where
    abbrev marked : DeskView
    marked = all_altered (with_landing true) s.desk batch.changes

    same_look : look marked ≡ record (look s.desk) { change = λ c. cond (list_any (eqb c) batch.changes) (option_map (with_landing true) (finite.get s.desk.changes c)) (finite.get s.desk.changes c) }
    same_look = all_look (with_landing true) (λ change. refl) batch.changes s.desk

    pub to_land_holds : Holds (to_land batch s).state
    to_land_holds = record {
      desk = all_keep (with_landing true) batch.changes s.desk (marked_keeps s.desk.settings s.desk.base running_ready) is.desk;
      queue = record {
        order = (queue_law s.queue is.queue.order).land Staging;
        staging = on_time Staging s.desk marked (lanes.landing s.queue.staging) (ap (λ (l : Look). l.settings) same_look) (ap (λ (l : Look). l.clock) same_look)
            (landing_keeps Staging s.desk.clock s.desk.settings (marks_on Staging s.desk) (marks_on Staging marked) s.queue.next s.queue.staging is.queue.staging batch runs since commit reports stage (λ c. ((kept c).0, (kept c).1)) landing_now);
        trying = still_branch Trying s.desk marked s.queue.trying
            (record { settings = ap (λ (l : Look). l.settings) same_look; clock = ap (λ (l : Look). l.clock) same_look; wanted = λ c. (kept c).2; landing = λ c. refl; priority = λ c. refl })
            is.queue.trying;
        alone = is.queue.alone;
      };
    } where
      here : (c : ℕ) → finite.get marked.changes c ≡ cond (list_any (eqb c) batch.changes) (option_map (with_landing true) (finite.get s.desk.changes c)) (finite.get s.desk.changes c)
      here c = ap (λ (l : Look). l.change c) same_look

      kept : (c : ℕ) → (approved_on marked c ≡ approved_on s.desk c) × (priority_on marked c ≡ priority_on s.desk c) × (trying_on marked c ≡ trying_on s.desk c)
      kept c = let at = here c in (grind arith, grind arith, grind arith)

      landing_now : (c : ℕ) → landing_on marked c ≡ (list_any (eqb c) batch.changes || landing_on s.desk c)
      landing_now c = let at = here c in let queued = queued_there c in grind arith

land_holds : (s : State) (batch : Batch) → s.queue.staging.running ≡ Some batch → has_passed s.desk.settings batch.stage ≡ true → Holds s → Holds (to_land batch s).state
land_holds s batch runs passes is = by batch.stage refl passes where
  by : (at : Stage) → batch.stage ≡ at → has_passed s.desk.settings at ≡ true → Holds (to_land batch s).state
  by (Staged since commit reports) stage passes = to_land_holds s is batch runs since commit reports stage
  by other stage passes = cc passes

-- A STATUS of a commit that is tested
pub its_branch : (branch : Branch) (s : State) → Holds s → IsBranch branch s.desk.clock s.desk.settings (marks_on branch s.desk) (lane_of branch s.queue)
its_branch Staging s is = is.queue.staging
its_branch Trying s is = is.queue.trying

-- a lane that is another one, and keeps what the state keeps of it
one_lane : (branch : Branch) (s : State) → Holds s → (alter : Lane → Lane) → QueueIsInOrder (specs.with_lane branch (alter (lane_of branch s.queue)) 0 s.queue)
    → IsBranch branch s.desk.clock s.desk.settings (marks_on branch s.desk) (alter (lane_of branch s.queue)) → AreAlone (alter s.queue.trying)
    → Holds (with_queue s (specs.with_lane branch (alter (lane_of branch s.queue)) 0 s.queue))
one_lane Staging s is alter order keeps alone = record { desk = is.desk; queue = record { order = order; staging = keeps; trying = is.queue.trying; alone = is.queue.alone } }
one_lane Trying s is alter order keeps alone = record { desk = is.desk; queue = record { order = order; staging = is.queue.staging; trying = keeps; alone = alone } }

pub reported_holds : (branch : Branch) (s : State) (name : List ℕ) (report : Report) → is_required s.desk.settings name ≡ true → Holds s
    → Holds (with_queue s (specs.reported branch name report s.queue))
reported_holds branch s name report required is =
    one_lane branch s is (lanes.reported name report) ((queue_law s.queue is.queue.order).report branch name report)
    (reported_keeps branch s.desk.clock s.desk.settings (marks_on branch s.desk) s.queue.next (lane_of branch s.queue) (its_branch branch s is) name report required)
    ((singles_law s.queue.next s.queue.trying is.queue.alone).report name report)

-- each step of a status, and of the end of what has taken too long
pub holding : EachStep (λ few s is. Holds s → Holds is.state)
holding = record {
  nothing = λ few s is. is;
  both = λ s first next one other is. other (one is);
  report = λ branch name report s required next rest is. rest (reported_holds branch s name report required is);
  fail = λ branch cause s ends stays is. ending_holds branch s (told_as branch cause) is stays;
  pass = λ s stays is. ending_holds Trying s why.TryPassed is stays;
  land = λ s batch runs passes is. land_holds s batch runs passes is;
}

-- THE RUNNING BATCH GOES BACK
pub released_twice : (on : Option (List ℕ)) (commit : List ℕ) (change : Change) → released on commit (released on commit change) ≡ released on commit change
released_twice on commit change = grind arith

-- whether what lands has landed, on a new base
abbrev lands_on : Option (List ℕ) → Option Batch → Bool
lands_on None running = false
lands_on (Some base) running = option_map_or (λ (batch : Batch). is_landing_with base batch.stage) running false

-- WHAT GOES BACK, on `Staging`, and what that leaves of tries
record Back (on : Option (List ℕ)) (s : State) (new : DeskView) : Type 0 where
  desk : IsDesk (look new)
  settings : new.settings ≡ s.desk.settings
  clock : new.clock ≡ s.desk.clock
  staging : IsBranch Staging new.clock new.settings (marks_on Staging new) (lanes.requeued (approved_on new) s.queue.next s.queue.staging)
  tried : (c : ℕ) → trying_on new c ≡ true → trying_on s.desk c ≡ true
  still : lands_on on s.queue.staging.running ≡ false → (c : ℕ) → trying_on new c ≡ trying_on s.desk c

went_back : (on : Option (List ℕ)) (s : State) → Holds s → Back on s (released_on on s.desk s.queue.staging.running)
went_back on s is = by s.queue.staging.running refl where
  -- what isn't landing loses nothing
  unmoved : lands s.queue.staging.running ≡ false → Back on s s.desk
  unmoved not_so = record {
    desk = is.desk;
    settings = refl;
    clock = refl;
    staging =
        requeued_keeps Staging s.desk.clock s.desk.settings (marks_on Staging s.desk) (marks_on Staging s.desk) s.queue.next s.queue.staging is.queue.staging s.desk.clock s.desk.settings
        (λ c so. (so, refl)) (λ c lost had. cc (sym lost ∙ had)) unmarked;
    tried = λ c so. so;
    still = λ stays c. refl;
  } where
    unmarked : (c : ℕ) → landing_on s.desk c ≡ false
    unmarked c =
        let none = none_landing of_any_priority c s.queue.staging.running s.queue.staging.waiting not_so in
        let lands = is.queue.staging.landing c in
        grind arith

  by : (running : Option Batch) → s.queue.staging.running ≡ running → Back on s (released_on on s.desk running)
  by None runs = unmoved (ap lands runs)
  by (Some batch) runs = at batch.stage refl where
    at : (stage : Stage) → batch.stage ≡ stage → Back on s (released_at on s.desk batch.changes stage)
    at (Landing commit) stage = record {
      desk = all_keep (released on commit) batch.changes s.desk (released_keeps s.desk.settings s.desk.base on commit) is.desk;
      settings = ap (λ (l : Look). l.settings) same;
      clock = ap (λ (l : Look). l.clock) same;
      staging = on_time Staging s.desk new (lanes.requeued (approved_on new) s.queue.next s.queue.staging) (ap (λ (l : Look). l.settings) same) (ap (λ (l : Look). l.clock) same)
          (requeued_keeps Staging s.desk.clock s.desk.settings (marks_on Staging s.desk) (marks_on Staging new) s.queue.next s.queue.staging is.queue.staging s.desk.clock s.desk.settings
          (λ c so. let at = here c in (grind arith, grind arith)) (λ c lost had. let at = here c in marked c (grind arith)) unmarked);
      tried = λ c so. let at = here c in grind arith;
      still = λ stays c. let at = here c in let out = sym (ap (lands_on on) runs) ∙ stays in grind arith;
    } where
      new : DeskView
      new = all_altered (released on commit) s.desk batch.changes

      same : look new ≡ record (look s.desk) { change = λ c. cond (list_any (eqb c) batch.changes) (option_map (released on commit) (finite.get s.desk.changes c)) (finite.get s.desk.changes c) }
      same = all_look (released on commit) (released_twice on commit) batch.changes s.desk

      here : (c : ℕ) → finite.get new.changes c ≡ cond (list_any (eqb c) batch.changes) (option_map (released on commit) (finite.get s.desk.changes c)) (finite.get s.desk.changes c)
      here c = ap (λ (l : Look). l.change c) same

      counted : (c : ℕ) → occurs c batch.changes ≡ (if landing_on s.desk c then 1 else 0)
      counted c =
          sym (ap (λ (o : Option Batch). in_landing of_any_priority c (record { running = o; waiting = s.queue.staging.waiting })) runs
          ∙ ap {B = ℕ} (λ (l : Stage). if is_landing l then occurs c batch.changes else 0) stage) ∙ is.queue.staging.landing c

      marked : (c : ℕ) → list_any (eqb c) batch.changes ≡ true → landing_on s.desk c ≡ true
      marked c there =
          let some = some_there c batch.changes there in
          let count = counted c in
          grind arith

      unmarked : (c : ℕ) → landing_on new c ≡ false
      unmarked c =
          let at = here c in
          let none = none_there c batch.changes in
          let count = counted c in
          grind arith
    at other stage = unmoved (ap lands runs ∙ ap is_landing stage)

-- a refusal, after which all tries go on
refused_holds : (s : State) → Holds s → Holds (sent_back None s)
refused_holds s is =
    let back = went_back None s is in
    let new = released_on None s.desk s.queue.staging.running in
    record {
      desk = back.desk;
      queue = record {
        order = (queue_law s.queue is.queue.order).requeue Staging (approved_on new);
        staging = back.staging;
        trying = still_branch Trying s.desk new s.queue.trying (record { settings = back.settings; clock = back.clock; wanted = back.still refl; landing = λ c. refl; priority = λ c. refl }) is.queue.trying;
        alone = is.queue.alone;
      };
    }

-- and a new base, after which what has landed isn't tried
rebased_holds : (base : List ℕ) (s : State) → Holds s → Holds (rebased base s)
rebased_holds base s is = record { desk = base_keeps new base back.desk; queue = by (lands_with base s.queue.staging) refl } where
  new : DeskView
  new = released_on (Some base) s.desk s.queue.staging.running

  back : Back (Some base) s new
  back = went_back (Some base) s is

  queue : Queue
  queue = specs.requeued Staging (approved_on new) s.queue

  order : QueueIsInOrder queue
  order = (queue_law s.queue is.queue.order).requeue Staging (approved_on new)

  by : (lands_now : Bool) → lands_with base s.queue.staging ≡ lands_now → IsQueue (with_base new base) (tries_left lands_now new queue)
  by true lands_now = record {
    order = (queue_law queue order).take_out Trying (trying_on new);
    staging = back.staging;
    trying = on_time Trying s.desk new (lanes.taken_out (trying_on new) queue.next s.queue.trying) back.settings back.clock
        (taken_out_keeps Trying s.desk.clock s.desk.settings (marks_on Trying s.desk) (marks_on Trying new) queue.next s.queue.trying is.queue.trying (trying_on new)
        (λ c so. (so ∙ sym (back.tried c so), refl)) (λ c lost. lost) (λ c. (refl, λ so. refl)));
    alone = ((singles_law queue.next s.queue.trying is.queue.alone).take_out (trying_on new)).0;
  }
  by false stays = record {
    order = order;
    staging = back.staging;
    trying = still_branch Trying s.desk new s.queue.trying (record { settings = back.settings; clock = back.clock; wanted = back.still stays; landing = λ c. refl; priority = λ c. refl }) is.queue.trying;
    alone = is.queue.alone;
  }

-- A TICK
pub clock_holds : (s : State) (now : ℕ) → IsMoment now → s.desk.clock ≤ now → Holds s → Holds (with_desk s (with_clock s.desk now))
clock_holds s now limit past is = record {
  desk = clock_keeps s.desk now limit is.desk;
  queue = record {
    order = is.queue.order;
    staging = later_keeps Staging s.desk.clock s.desk.settings (marks_on Staging s.desk) s.queue.next s.queue.staging is.queue.staging now past;
    trying = later_keeps Trying s.desk.clock s.desk.settings (marks_on Trying s.desk) s.queue.next s.queue.trying is.queue.trying now past;
    alone = is.queue.alone;
  };
}

-- one whose clock is this
abbrev pub IsNow : ℕ → State → Type 0
IsNow now s = (s.desk.clock ≡ now) × Holds s

pub starting_holds : (now : ℕ) (branch : Branch) (s : State) → IsNow now s → IsNow now (starting now branch s).state
starting_holds now branch s is =
    let started = started_keeps branch s.desk.clock s.desk.settings (marks_on branch s.desk) s.queue.next (lane_of branch s.queue) (its_branch branch s is.1) now (omega (arith, is.0)) in (
      is.0,
      one_lane branch s is.1 (lanes.started now) ((queue_law s.queue is.1.queue.order).start branch now)
          (subst (λ (clock : ℕ). IsBranch branch clock s.desk.settings (marks_on branch s.desk) (lanes.started now (lane_of branch s.queue))) (sym is.0) started)
          ((singles_law s.queue.next s.queue.trying is.1.queue.alone).start now),
    )

-- the end of what has taken too long leaves the clock
timed_out_clock : (now : ℕ) (branch : Branch) (s : State) → (timed_out now branch s).state.desk.clock ≡ s.desk.clock
timed_out_clock now branch s = let rest = lone_rest (given_up branch) s.desk (lone_on branch s) in grind arith

pub still_clock : (now : ℕ) (s : State) → (on_both (timed_out now) s).state.desk.clock ≡ s.desk.clock
still_clock now s = timed_out_clock now Trying (timed_out now Staging s).state ∙ timed_out_clock now Staging s

tick_holds : (s : State) (now : ℕ) → IsMoment now → s.desk.clock ≤ now → Holds s → Holds (done s (Other (Tick now))).state
tick_holds s now limit past is =
    let t = with_desk s (with_clock s.desk now) in
    let ended : IsNow now (on_both (timed_out now) t).state = (still_clock now t, timed_out_both_so holding now t (clock_holds s now limit past is)) in
    (starting_holds now Trying _ (starting_holds now Staging (on_both (timed_out now) t).state ended)).1

-- A BATCH IS STAGED that was ordered, on its branch. It isn't landing.
pub ordered_on_so : (s : State) → Holds s → (number : ℕ) → lands (lane_of (ordered_on number s.queue) s.queue).running ≡ false
ordered_on_so s is number =
    let ordered = ordered_so s.queue.staging number in
    let tried = try_not_landing s.queue.trying is.queue.alone in
    grind arith

staged_holds : (s : State) (batch : ℕ) (commit : List ℕ) → Holds s → Holds (done s (Other (StagedFact batch commit))).state
staged_holds s batch commit is =
    let branch = ordered_on batch s.queue in
    one_lane branch s is (lanes.staged s.desk.clock commit) ((queue_law s.queue is.queue.order).stage branch s.desk.clock commit)
    (staged_keeps branch s.desk.clock s.desk.settings (marks_on branch s.desk) s.queue.next (lane_of branch s.queue) (its_branch branch s is) commit (ordered_on_so s is batch))
    ((singles_law s.queue.next s.queue.trying is.queue.alone).stage s.desk.clock commit)

-- ANY ACT
pub done_holds : (s : State) (act : Act) → Holds s → ActKeepsLimits act → missing s act ≡ None → broken (look s.desk) act ≡ None → Holds (done s act).state
done_holds s (On n deed) is limits there holds = about_holds s n deed is limits holds
done_holds s (Other (Role person role)) is limits there holds = record {
  desk = role_keeps s.desk person role is.desk;
  queue = record { order = is.queue.order; staging = is.queue.staging; trying = is.queue.trying; alone = is.queue.alone };
}
done_holds s (Other (Settings text)) is limits there holds = accepted_holds s (settings_of text) is
done_holds s (Other (Base base)) is limits there holds = rebased_holds base s is
done_holds s (Other (StagedFact batch commit)) is limits there holds = staged_holds s batch commit is
done_holds s (Other (Conflict batch)) is limits there holds = ending_holds (ordered_on batch s.queue) s (told_as (ordered_on batch s.queue) why.Conflict) is (ordered_on_so s is batch)
done_holds s (Other (Status commit name state)) is limits there holds = told_so holding commit name state (heads_told commit name state s) (heads_told_holds s commit name state is)
done_holds s (Other (Refused batch)) is limits there holds = refused_holds s is
done_holds s (Other (Tick now)) is limits there holds = tick_holds s now limits (leb-true s.desk.clock now (passed (leb s.desk.clock now) ClockBack [] holds).0) is

pub still_state : (s : State) → IsState s → HasRoom s.queue → (act : Act) → ActKeepsLimits act → IsState (after s act)
still_state s is room act limits = by (denial s act) refl where
  means : Act
  means = meaning (look s.desk) act

  by : (rule : Option Rule) → denial s act ≡ rule → IsState (unless_denied rule s (done s means).state)
  by None holds =
      let both = none_both (missing s means) (broken (look s.desk) means) (meaning_allowed s act holds) in
      let next = done_holds s means (record { desk = is.desk; queue = is.queue }) (meaning_limits s is act limits) both.0 both.1 in
      record { desk = next.desk; low = omega (arith, (queue_grows s means).next, is.low); high = omega (arith, (queue_grows s means).few, room); queue = next.queue }
  by (Some rule) denied = is

-- and acts that may come, one after the other, lead to a state
pub still_states : (s : State) (acts : List Act) → IsState s → CanCome s acts → IsState (after_all s acts)
still_states s [] is can = is
still_states s (act ∷ acts) is (room, limits, can) = still_states (after s act) acts (still_state s is room act limits) can

-- AN EMPTY STATE
empty_in_order : (next : ℕ) → IsInOrder next empty_lane
empty_in_order next = record { service = λ i j d below within. absurd (omega (arith, within)); numbers = λ number. omega arith }

pub empty_is_state : (next : ℕ) → 1 ≤ next → next ≤ 9_000_000_000_000_000 → IsState (empty_state next)
empty_is_state next low high = record {
  desk = empty_is_desk;
  low = low;
  high = high;
  queue = record {
    order = record { staging = empty_in_order next; trying = empty_in_order next; apart = λ number. omega arith };
    staging = record {
      waiting = All-nil _;
      running = tt;
      places = λ change. ap {B = ℕ} (λ (c : Option Change). if option_map_or (λ (x : Change). is_some x.approved) c false || option_map_or (λ (x : Change). x.landing) c false then 1 else 0) (sym (get-empty nat_cmp change));
      priorities = λ change. refl;
      landing = λ change. ap {B = ℕ} (λ (c : Option Change). if option_map_or (λ (x : Change). x.landing) c false then 1 else 0) (sym (get-empty nat_cmp change));
    };
    trying = record {
      waiting = All-nil _;
      running = tt;
      places = λ change. ap {B = ℕ} (λ (c : Option Change). if option_map_or (λ (x : Change). x.trying) c false || false then 1 else 0) (sym (get-empty nat_cmp change));
      priorities = λ change. refl;
      landing = λ change. refl;
    };
    alone = record { waiting = All-nil _; running = tt };
  };
}
