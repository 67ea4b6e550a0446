-- News of a batch and a tick leave all batches but those in front, and all changes but those that run.
use Rattle.std.proofs.Common.{◌≡◌, ◌<◌, ◌≤◌, ℕ, true, false, ◌||◌, List, slice_get, Option, Some, refl, sym, ◌∙◌, ap, arith}
use Rattle.std.proofs.lemmas.Bool.{or_parts}
use Rattle.std.specs.FinMap as finite
use Rattle.std.specs.Option.{option_map, option_or}
use Rattle.gate_queue.specs.Vocabulary.{DeskView, without_approval, with_clock, Other, Tick, StatusState, Batch, Branch, Staging, Trying, Report, Lane, Queue, Why, State}
use Rattle.gate_state.specs.Lanes as lanes
use Rattle.gate_state.specs.Lanes.{staged_at, reported_on, to_land as landing_from}
use Rattle.gate_state.specs.Queue.{batch_numbered, lane_of, with_lane, staged, reported}
use Rattle.gate_state.specs.State.{approved_on}
use Rattle.gate_state.specs.declared.reply.Why.TheVariants as why
use Rattle.gate_queue.specs.Machine.{with_queue, with_desk, with_landing, to_land, told, released_on, sent_back, timed_out, without_try, done, ending, on_both, starting, told_as}
use Rattle.gate_queue.specs.MayChange.{Parts, Untouched, in_front, is_run, is_in_front}
use Rattle.gate_queue.proofs.Desks.{DeskLeft, same_desk, later_desk, all_desk, run_only, lone_desk, released_desk}
use Rattle.gate_queue.proofs.Lanes.{find-filter, Same, started_same, IsNews, no_news, later_news, failed_news, requeued_news, dropped_news, altered_news}
use Rattle.gate_queue.proofs.Told.{EachStep, told_so, timed_out_both_so}

-- The batch of a number is found by those that have it.
pub same_found : (n : ℕ) (queue after : Queue) → Same n queue.staging after.staging → Same n queue.trying after.trying → batch_numbered n after ≡ batch_numbered n queue
same_found n queue after staging trying = λ i. option_or (on queue.staging after.staging staging i) (on queue.trying after.trying trying i) where
  on : (lane after : Lane) → Same n lane after → lanes.batch_numbered n after ≡ lanes.batch_numbered n lane
  on lane after same =
      find-filter _ (lanes.batches_of after)
      ∙ ap (λ (batches : List Batch). slice_get batches 0) same
      ∙ sym (find-filter _ (lanes.batches_of lane))

-- what leaves the people and the settings, and changes and batches that aren't named
pub untouched_by : (may : Parts) (s t : State) → DeskLeft may.change s.desk t.desk
    → ((n : ℕ) → n < s.queue.next → may.batch n ≡ false → Same n s.queue.staging t.queue.staging × Same n s.queue.trying t.queue.trying)
    → s.queue.next ≤ t.queue.next → Untouched may s t
untouched_by may s t desk batches rises = record {
  people = λ name other. ap (λ roles. finite.get roles name) desk.roles;
  changes = desk.changes;
  batches = λ n old other. let same = batches n old other in same_found n s.queue t.queue same.0 same.1;
  settings = λ other. desk.settings;
  next = rises;
}

-- NEWS
pub record IsNewsOf (s t : State) : Type 0 where
  pub desk : DeskLeft (in_front s).change s.desk t.desk
  pub staging : IsNews s.queue.next s.queue.staging t.queue.staging
  pub trying : IsNews s.queue.next s.queue.trying t.queue.trying
  pub next : s.queue.next ≤ t.queue.next

none : (s : State) → IsNewsOf s s
none s = record {
  desk = same_desk (in_front s).change s.desk;
  staging = no_news s.queue.next s.queue.staging;
  trying = no_news s.queue.next s.queue.trying;
  next = omega arith;
}

more : (s u t : State) → IsNewsOf s u → IsNewsOf u t → IsNewsOf s t
more s u t first second = record {
  desk = later_desk (in_front s).change s.desk u.desk t.desk first.desk (record {
    roles = second.desk.roles;
    settings = second.desk.settings;
    changes = λ change other.
        let parts = or_parts (is_run change s.queue.staging) (is_run change s.queue.trying) other in
        second.desk.changes change (λ i. first.staging.runs change parts.0 i || first.trying.runs change parts.1 i);
  });
  staging = later_news s.queue.next u.queue.next s.queue.staging u.queue.staging t.queue.staging first.next first.staging second.staging;
  trying = later_news s.queue.next u.queue.next s.queue.trying u.queue.trying t.queue.trying first.next first.trying second.trying;
  next = omega (arith, first.next, second.next);
}

pub news_untouched : (s t : State) → IsNewsOf s t → Untouched (in_front s) s t
news_untouched s t news =
    untouched_by (in_front s) s t news.desk
    (λ n old other.
    let parts = or_parts (is_in_front s.queue.staging n) (is_in_front s.queue.trying n) other in
    (news.staging.same n old parts.0, news.trying.same n old parts.1))
    news.next

-- ONE BRANCH
module _ (s : State) where
  runs_not : (branch : Branch) (change : ℕ) → (in_front s).change change ≡ false → is_run change (lane_of branch s.queue) ≡ false
  runs_not branch change other = grind arith

  pub on_branch : (branch : Branch) (desk : DeskView) (lane : Lane) (used : ℕ) → DeskLeft (in_front s).change s.desk desk → IsNews s.queue.next (lane_of branch s.queue) lane
      → IsNewsOf s (record { desk = desk; queue = with_lane branch lane used s.queue })
  on_branch Staging desk lane used left news = record { desk = left; staging = news; trying = no_news s.queue.next s.queue.trying; next = omega arith }
  on_branch Trying desk lane used left news = record { desk = left; staging = no_news s.queue.next s.queue.staging; trying = news; next = omega arith }

  -- what runs is altered, and the desk is as it was
  alters : (branch : Branch) (alter : Batch → Batch) → ((batch : Batch) → (alter batch).number ≡ batch.number) → ((batch : Batch) → (alter batch).changes ≡ batch.changes)
      → IsNewsOf s (with_queue s (with_lane branch (record (lane_of branch s.queue) { running = option_map alter (lane_of branch s.queue).running }) 0 s.queue))
  alters branch alter same_number same_changes =
      on_branch branch s.desk _ 0 (same_desk (in_front s).change s.desk) (altered_news s.queue.next (lane_of branch s.queue) alter same_number same_changes)

  pub staged_news : (branch : Branch) (now : ℕ) (commit : List ℕ) → IsNewsOf s (with_queue s (staged branch now commit s.queue))
  staged_news branch now commit = alters branch (staged_at now commit) (λ batch. refl) (λ batch. refl)

  reported_news : (branch : Branch) (name : List ℕ) (report : Report) → IsNewsOf s (with_queue s (reported branch name report s.queue))
  reported_news branch name report = alters branch (reported_on name report) (λ batch. refl) (λ batch. refl)

  pub ending_news : (branch : Branch) (why : Why) → IsNewsOf s (ending branch why s).state
  ending_news Staging why =
      on_branch Staging _ _ _ (lone_desk (in_front s).change s.queue.staging (runs_not Staging) without_approval s.desk) (failed_news s.queue.next s.queue.staging)
  ending_news Trying why =
      on_branch Trying _ _ _ (lone_desk (in_front s).change s.queue.trying (runs_not Trying) without_try s.desk) (dropped_news s.queue.next s.queue.trying)

  land_news : (batch : Batch) → s.queue.staging.running ≡ Some batch → IsNewsOf s (to_land batch s).state
  land_news batch is =
      on_branch Staging _ _ 0
      (all_desk (in_front s).change (with_landing true) batch.changes s.desk (run_only (in_front s).change s.queue.staging (runs_not Staging) batch is))
      (altered_news s.queue.next s.queue.staging landing_from (λ batch. refl) (λ batch. refl))

  -- the running batch goes back
  pub back_news : (base : Option (List ℕ)) → IsNewsOf s (sent_back base s)
  back_news base =
      on_branch Staging _ _ _ (released_desk (in_front s).change s.queue.staging (runs_not Staging) base s.desk)
      (requeued_news (approved_on (released_on base s.desk s.queue.staging.running)) s.queue.next s.queue.staging)

-- A STATUS, and the end of what takes too long
reporting : EachStep (λ few s is. IsNewsOf s is.state)
reporting = record {
  nothing = λ few s. none s;
  both = λ s first next one other. more s first.state (next first.state).state one other;
  report = λ branch name report s required next rest. more s (with_queue s (reported branch name report s.queue)) next.state (reported_news s branch name report) rest;
  fail = λ branch cause s ends stays. ending_news s branch (told_as branch cause);
  pass = λ s stays. ending_news s Trying why.TryPassed;
  land = λ s batch runs passes. land_news s batch runs;
}

pub told_news : (commit name : List ℕ) (state : StatusState) (s : State) → IsNewsOf s (told commit name state s).state
told_news = told_so reporting

-- A TICK: after that end, the first batch that waits is started on each branch
pub started_untouched : (now : ℕ) (s t : State) → IsNewsOf s t → Untouched (in_front s) s (on_both (starting now) t).state
started_untouched now s t news =
    untouched_by (in_front s) s (on_both (starting now) t).state news.desk
    (λ n old other.
    let parts = or_parts (is_in_front s.queue.staging n) (is_in_front s.queue.trying n) other in (
      started_same n now t.queue.staging (news.staging.front n old parts.0) ∙ news.staging.same n old parts.0,
      started_same n now t.queue.trying (news.trying.front n old parts.1) ∙ news.trying.same n old parts.1,
    ))
    (omega (arith, news.next))

pub tick_untouched : (now : ℕ) (s : State) → Untouched (in_front s) s (done s (Other (Tick now))).state
tick_untouched now s =
    let set = with_desk s (with_clock s.desk now) in
    let same = started_untouched now set (on_both (timed_out now) set).state (timed_out_both_so reporting now set) in
    record { people = same.people; changes = same.changes; batches = same.batches; settings = same.settings; next = same.next }
