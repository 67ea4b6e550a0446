-- What the machine comes to: time-outs, the first in service, what is staged, what passes and what lands.
use Rattle.std.proofs.Common.{cond, not, ◌++◌, append_assoc, if◌then◌else◌, ◌≡◌, ◌<◌, ◌≤◌, ◌+◌, ◌-◌, ℕ, eqb, Bool, true, false, List, [], ◌∷◌, Option, Some, None, refl, sym, ◌∙◌, ap, arith}
use Rattle.std.proofs.lemmas.Bool.{le-leb}
use Rattle.std.proofs.lemmas.Bool.Decides.{nat_tests, Decides-eqb}
use Rattle.std.proofs.lemmas.Slice.Eq.{bytes_eq-Decides}
use Rattle.std.specs.FinMap as finite
use Rattle.std.specs.List.{filter_map, list_any}
use Rattle.std.specs.Option.{option_map, option_map_or}
use Rattle.gate_queue.specs.Vocabulary.{Act, Base, Refused, Status, Success, Land, Staged as StagedFact, DeskView, Look, SameAsBase, look, SettingsView, with_clock, Batch, Branch, Staging, Trying, StageOf, Lane, Queue, State, Outcome, Other, Tick, Rule, ClockBack, Order, Stage, Done, asks, first_failing}
use Rattle.gate_rules.specs.Rules.{is_approved, is_landed}
use Rattle.gate_state.specs.Counts.{in_landing, occurs, of_any_priority, uses}
use Rattle.gate_state.specs.Lanes as lanes
use Rattle.gate_state.specs.Lanes.{is_landing}
use Rattle.gate_state.specs.Queue as specs
use Rattle.gate_state.specs.Queue.{lane_of}
use Rattle.gate_state.specs.Service.{IsInOrder}
use Rattle.gate_state.specs.State.{IsState, approved_on}
use Rattle.gate_state.specs.declared.batch.Report.TheVariants as report
use Rattle.gate_state.specs.declared.batch.Stage.TheVariants.{Waiting, Ordered, Staged, Landing}
use Rattle.gate_state.specs.declared.reply.Head.{Head}
use Rattle.gate_state.specs.declared.reply.Why.TheVariants as why
use Rattle.gate_state.specs.Lemmas.Numbers.{all_uses, has_number, numbers_law}
use Rattle.gate_queue.specs.Machine.{acted, after, all_altered, answered, denial, done, failing, given_up, has_ordered, has_overdue, has_passed, has_running, has_staged, head_on, heads_told, if_passed, is_base, is_overdue, land_order, lands_with, lone_altered, lone_on, on_both, passing, quiet, rebased, released, released_at, released_on, reply_to, sent_back, stage_orders, then_next, timed_out, to_land, told_of, told_on, tries_left, unless_denied, with_altered, with_desk, with_landing, with_queue, without_running}
use Rattle.gate_queue.specs.Progress.{LawOfFirsts, LawOfLandings, LawOfPassing, LawOfStagings, LawOfTimeOuts, LawOfFreeing, GivesOrder, runs_on, awaited_since, heard}
use Rattle.gate_queue.proofs.Changes.{all_look, lone_at, lone_rest}
use Rattle.gate_queue.proofs.Choosing.{by_bool, by_option, either_way}
use Rattle.gate_queue.proofs.Failing.{after_failure, failed_place, failure_allowed}
use Rattle.gate_queue.proofs.Keeping.{none_there}
use Rattle.gate_queue.proofs.Lasting.{timed_out_leaves, told_leaves}
use Rattle.gate_queue.proofs.States.{released_twice}

-- the batch is overdue
late : (settings : SettingsView) (now since : ℕ) (stage : StageOf) → awaited_since stage ≡ Some since → since + settings.timeout_sec ≤ now → is_overdue (Some settings) now stage ≡ true
late settings now since Waiting at over = cc at
late settings now since (Ordered start) at over = let same : start ≡ since = cc at in le-leb settings.timeout_sec (now - start) (omega (arith, same, over))
late settings now since (Staged start commit reports) at over = let same : start ≡ since = cc at in le-leb settings.timeout_sec (now - start) (omega (arith, same, over))
late settings now since (Landing commit) at over = cc at

-- The number of a running batch is no new one, and no batch that waits has it.
running_number : (next : ℕ) (lane : Lane) (batch : Batch) → IsInOrder next lane → lane.running ≡ Some batch → (uses batch.number lane.waiting ≡ 0) × (batch.number < next)
running_number next lane batch is runs =
    let all = all_uses batch.number lane in
    let one = ap (λ (running : Option Batch). option_map_or (has_number batch.number) running 0) runs in
    let most = is.numbers batch.number in
    (grind (arith, nat_tests), grind (arith, nat_tests))

failed_none : (next : ℕ) (lane : Lane) → (lanes.failed next lane).running ≡ None
failed_none next lane = by_option (λ running. (lanes.running_failed next running lane.waiting).running ≡ None) refl (λ one. refl) lane.running

-- GONE: no batch of a branch has the number any longer, so none of it runs.
module _ (number : ℕ) where
  abbrev IsGone : Lane → Type 0
  IsGone lane = uses number (lanes.batches_of lane) ≡ 0

  none_runs : (lane : Lane) → IsGone lane → has_running (λ other. eqb number other.number) lane ≡ false
  none_runs lane gone = let all = all_uses number lane in grind (arith, nat_tests)

  started_gone : (now : ℕ) (lane : Lane) → IsGone lane → IsGone (lanes.started now lane)
  started_gone now lane gone = let fewer = ((numbers_law 0 lane).start now).all number in grind (arith, nat_tests)

  failed_gone : (next : ℕ) (lane : Lane) → number < next → uses number lane.waiting ≡ 0 → IsGone (lanes.failed next lane)
  failed_gone next lane old none =
      let fewer = (numbers_law next lane).fail.waiting number in
      let all = all_uses number (lanes.failed next lane) in
      let ended = failed_none next lane in
      grind (arith, nat_tests)

-- what a time-out does on one branch, and leaves on the other
module _ (now : ℕ) (s : State) where
  ends : (branch : Branch) → has_overdue now s.desk.settings (lane_of branch s.queue) ≡ true → (timed_out now branch s).state.queue ≡ without_running branch s.queue
  ends branch overdue =
      either_way (λ (o : Outcome). o.state.queue ≡ without_running branch s.queue) (has_overdue now s.desk.settings (lane_of branch s.queue)) (failing branch why.TimedOut s) (quiet s)
      (λ so. refl) (λ not_so. cc (sym overdue ∙ not_so))

  leaves_trying : ((timed_out now Staging s).state.queue.trying ≡ s.queue.trying) × ((timed_out now Staging s).state.desk.settings ≡ s.desk.settings)
  leaves_trying =
      either_way (λ (o : Outcome). (o.state.queue.trying ≡ s.queue.trying) × (o.state.desk.settings ≡ s.desk.settings)) (has_overdue now s.desk.settings s.queue.staging)
      (failing Staging why.TimedOut s) (quiet s) (λ so. (refl, (lone_rest (given_up Staging) s.desk (lone_on Staging s)).0)) (λ not_so. (refl, refl))

tick_allowed : (s : State) (now : ℕ) → s.desk.clock ≤ now → denial s (Other (Tick now)) ≡ None
tick_allowed s now past = ap (λ (b : Bool). first_failing (asks b ClockBack ∷ [])) (le-leb s.desk.clock now past)

overdue_frees : (s : State) (branch : Branch) (batch : Batch) (now : ℕ) → IsState s → (lane_of branch s.queue).running ≡ Some batch → has_overdue now s.desk.settings (lane_of branch s.queue) ≡ true
    → s.desk.clock ≤ now → (denial s (Other (Tick now)) ≡ None) × (runs_on branch batch.number (after s (Other (Tick now))) ≡ false)
overdue_frees s branch batch now is runs overdue past =
    (allowed, ap (λ (rule : Option Rule). runs_on branch batch.number (unless_denied rule s (done s (Other (Tick now))).state)) allowed ∙ by branch runs overdue) where
      t : State
      t = with_desk s (with_clock s.desk now)

      allowed : denial s (Other (Tick now)) ≡ None
      allowed = tick_allowed s now past

      first : State
      first = (timed_out now Staging t).state

      by : (b : Branch) → (lane_of b s.queue).running ≡ Some batch → has_overdue now s.desk.settings (lane_of b s.queue) ≡ true → runs_on b batch.number (done s (Other (Tick now))).state ≡ false
      by Staging its late =
          let ended = (timed_out_leaves now first).staging ∙ ap (λ (q : Queue). q.staging) (ends now t Staging late) in
          let old = running_number s.queue.next s.queue.staging batch is.queue.order.staging its in
          let lane = lanes.failed s.queue.next s.queue.staging in
          rw ended (none_runs batch.number (lanes.started now lane) (started_gone batch.number now lane (failed_gone batch.number s.queue.next s.queue.staging old.1 old.0)))
      by Trying its late =
          let same = leaves_trying now t in
          let ended = ap (λ (q : Queue). q.trying) (ends now first Trying (rw (same.0, same.1) late)) in
          let number = running_number s.queue.next s.queue.trying batch is.queue.order.trying its in
          let lane = lanes.dropped s.queue.trying in
          rw (ended, same.0) (none_runs batch.number (lanes.started now lane) (started_gone batch.number now lane number.0))

pub time_outs_law : LawOfTimeOuts
time_outs_law s branch batch settings since now is known runs at past over =
    let overdue : has_overdue now s.desk.settings (lane_of branch s.queue) ≡ true = rw (known, runs) (late settings now since batch.stage at over) in
    overdue_frees s branch batch now is runs overdue past

-- THE FIRST IN SERVICE
-- a time-out leaves the base
still_based : (now : ℕ) (branch : Branch) (s : State) → (timed_out now branch s).state.desk.base ≡ s.desk.base
still_based now branch s =
    either_way (λ (o : Outcome). o.state.desk.base ≡ s.desk.base) (has_overdue now s.desk.settings (lane_of branch s.queue)) (failing branch why.TimedOut s) (quiet s)
    (λ so. by_option (λ one. (lone_altered (given_up branch) s.desk one).base ≡ s.desk.base) refl
    (λ change. by_option (λ had. (with_altered s.desk change had).base ≡ s.desk.base) refl (λ c. refl) (option_map (given_up branch) (finite.get s.desk.changes change))) (lone_on branch s))
    (λ not_so. refl)

-- and so it leaves the heads of the changes
still_head : (now : ℕ) (branch : Branch) (s : State) (change : ℕ) → head_on (timed_out now branch s).state.desk change ≡ head_on s.desk change
still_head now branch s change =
    let at = lone_at (given_up branch) s.desk (lone_on branch s) change in
    either_way (λ (o : Outcome). head_on o.state.desk change ≡ head_on s.desk change) (has_overdue now s.desk.settings (lane_of branch s.queue)) (failing branch why.TimedOut s) (quiet s)
    (λ so. grind (arith, at)) (λ not_so. refl)

-- if no batch runs, none has taken too long
in_time : (now : ℕ) (branch : Branch) (s : State) (waiting : List Batch) → lane_of branch s.queue ≡ record { running = None; waiting = waiting } → timed_out now branch s ≡ quiet s
in_time now branch s waiting idle =
    ap (λ (b : Bool). if b then failing branch why.TimedOut s else quiet s) (ap (has_overdue now s.desk.settings) idle)

-- THE WHOLE TICK: what has taken too long ends, and then the first are ordered.
module _ (s : State) (now : ℕ) where
  abbrev ended : State
  ended = (on_both (timed_out now) (with_desk s (with_clock s.desk now))).state

  abbrev earlier : List Order
  earlier = (on_both (timed_out now) (with_desk s (with_clock s.desk now))).orders

  idle_still : (branch : Branch) (waiting : List Batch) → lane_of branch s.queue ≡ record { running = None; waiting = waiting } → lane_of branch ended.queue ≡ record { running = None; waiting = waiting }
  idle_still Staging waiting idle =
      let t = with_desk s (with_clock s.desk now) in
      (timed_out_leaves now (timed_out now Staging t).state).staging ∙ ap (λ (o : Outcome). o.state.queue.staging) (in_time now Staging t waiting idle) ∙ idle
  idle_still Trying waiting idle =
      let t = with_desk s (with_clock s.desk now) in
      ap (λ (o : Outcome). o.state.queue.trying) (in_time now Trying (timed_out now Staging t).state waiting ((leaves_trying now t).0 ∙ idle)) ∙ (leaves_trying now t).0 ∙ idle

  base_still : ended.desk.base ≡ s.desk.base
  base_still = let t = with_desk s (with_clock s.desk now) in still_based now Trying (timed_out now Staging t).state ∙ still_based now Staging t

  heads_still : (changes : List ℕ) → filter_map (head_on ended.desk) changes ≡ filter_map (head_on s.desk) changes
  heads_still changes =
      let t = with_desk s (with_clock s.desk now) in
      λ i. filter_map (λ change. (still_head now Trying (timed_out now Staging t).state change ∙ still_head now Staging t change) i) changes

pub firsts_law : LawOfFirsts
firsts_law s branch batch others base now based idle past = (
  by branch orders,
  ap (λ (rule : Option Rule). (lane_of branch (unless_denied rule s (acted s act).state).queue).running) allowed ∙ runs branch waits,
  ap (λ (rule : Option Rule). (unless_denied rule s (acted s act).state).desk.base) allowed ∙ base_still s now ∙ based,
) where
  act : Act
  act = Other (Tick now)

  allowed : denial s act ≡ None
  allowed = tick_allowed s now past

  waits : lane_of branch (ended s now).queue ≡ record { running = None; waiting = batch ∷ others }
  waits = idle_still s now branch (batch ∷ others) idle

  order : Order
  order = Stage batch.number batch.branch base (filter_map (head_on s.desk) batch.changes)

  -- one order, on this branch
  orders : stage_orders (ended s now).desk (lane_of branch (ended s now).queue) ≡ order ∷ []
  orders =
      ap (stage_orders (ended s now).desk) waits
      ∙ ap (λ (b : Option (List ℕ)). option_map_or (λ base. Stage batch.number batch.branch base (filter_map (head_on (ended s now).desk) batch.changes) ∷ []) b []) (base_still s now ∙ based)
      ∙ ap (λ (heads : List Head). Stage batch.number batch.branch base heads ∷ []) (heads_still s now batch.changes)

  replied : reply_to s act ≡ Done (earlier s now ++ (stage_orders (ended s now).desk (ended s now).queue.staging ++ stage_orders (ended s now).desk (ended s now).queue.trying))
  replied = ap (λ (rule : Option Rule). answered rule (acted s act).orders) allowed

  by : (b : Branch) → stage_orders (ended s now).desk (lane_of b (ended s now).queue) ≡ order ∷ [] → GivesOrder act s order
  by Staging is =
      let beside = stage_orders (ended s now).desk (ended s now).queue.trying in
      (earlier s now, beside, replied ∙ ap (λ (os : List Order). Done (earlier s now ++ (os ++ beside))) is)
  by Trying is =
      let beside = stage_orders (ended s now).desk (ended s now).queue.staging in
      (earlier s now ++ beside, [], replied ∙ ap (λ (os : List Order). Done (earlier s now ++ (beside ++ os))) is ∙ ap Done (sym (append_assoc (earlier s now) beside (order ∷ []))))

  runs : (b : Branch) → lane_of b (ended s now).queue ≡ record { running = None; waiting = batch ∷ others } → (lane_of b (acted s act).state.queue).running ≡ Some (lanes.ordered_at now batch)
  runs Staging is = ap (λ (l : Lane). (lanes.started now l).running) is
  runs Trying is = ap (λ (l : Lane). (lanes.started now l).running) is

-- WHAT IS STAGED, AND WHAT HAS PASSED
pub stagings_law : LawOfStagings
stagings_law s batch since commit runs ordered other =
    (allowed, ap (λ (rule : Option Rule). (unless_denied rule s (done s act).state).queue.staging.running) allowed ∙ staged, ap (λ (rule : Option Rule). (unless_denied rule s (done s act).state).desk) allowed) where
      act : Act
      act = Other (StagedFact batch.number commit)

      there : has_ordered batch.number s.queue.staging ≡ true
      there = let same = (Decides-eqb batch.number batch.number).1 refl in rw (runs, ordered, same) refl

      allowed : denial s act ≡ None
      allowed = grind (arith, there, other)

      staged : (done s act).state.queue.staging.running ≡ Some (lanes.staged_at s.desk.clock commit batch)
      staged =
          ap (λ (b : Bool). (specs.staged (if b then Staging else Trying) s.desk.clock commit s.queue).staging.running) there
          ∙ ap (λ (running : Option Batch). option_map (lanes.staged_at s.desk.clock commit) running) runs

pub passing_law : LawOfPassing
passing_law s batch since base commit name reports runs tested based required so = (([], told_later.orders, ordered), ends, still) where
  act : Act
  act = Other (Status commit name Success)

  there : has_staged commit s.queue.staging ≡ true
  there = let same = (bytes_eq-Decides commit commit).1 refl in rw (runs, tested, same) refl

  allowed : denial s act ≡ None
  allowed = grind (arith, there)

  -- it has passed with this report
  passed : has_passed s.desk.settings (Staged since commit (finite.insert reports name report.Success)) ≡ true
  passed =
      let same = (bytes_eq-Decides commit commit).1 refl in
      let is : heard s act batch.stage ≡ Staged since commit (finite.insert reports name report.Success) = rw (tested, same, required) refl in
      ap (has_passed s.desk.settings) (sym is) ∙ sym (ap (λ (running : Option Batch). option_map_or (λ (b : Batch). has_passed s.desk.settings (heard s act b.stage)) running false) runs) ∙ so

  told_heads : State
  told_heads = heads_told commit name Success s

  reported_batch : Batch
  reported_batch = lanes.reported_on name report.Success batch

  reported : State
  reported = with_queue told_heads (specs.reported Staging name report.Success s.queue)

  runs_on_so : reported.queue.staging.running ≡ Some reported_batch
  runs_on_so = ap (option_map (lanes.reported_on name report.Success)) runs

  told_first : Outcome
  told_first = told_on commit name Success Staging told_heads

  first_is : told_first ≡ to_land reported_batch reported
  first_is =
      ap (λ (b : Bool). if b then told_of Staging name Success told_heads else quiet told_heads) there
      ∙ ap (if_passed Staging reported) runs_on_so
      ∙ ap (λ (b : Bool). if b then passing Staging reported_batch reported else quiet reported)
      (ap (λ (l : StageOf). has_passed s.desk.settings (lanes.with_report name report.Success l)) tested ∙ passed)

  told_later : Outcome
  told_later = told_on commit name Success Trying told_first.state

  whole : done s act ≡ then_next told_first (told_on commit name Success Trying)
  whole = ap (λ (b : Bool). if b then on_both (told_on commit name Success) told_heads else quiet told_heads) required

  ordered : reply_to s act ≡ Done ([] ++ Land batch.number base commit ∷ told_later.orders)
  ordered =
      ap (λ (rule : Option Rule). answered rule (done s act).orders) allowed
      ∙ ap (λ (o : Outcome). Done o.orders) whole
      ∙ ap (λ (orders : List Order). Done (orders ++ told_later.orders))
      (ap (λ (o : Outcome). o.orders) first_is
      ∙ ap (λ (l : StageOf). land_order s.desk batch.number (lanes.with_report name report.Success l)) tested
      ∙ ap (λ (b : Option (List ℕ)). option_map_or (λ base. Land batch.number base commit ∷ []) b []) based)

  ends : (after s act).queue.staging.running ≡ Some (record batch { stage = Landing commit })
  ends =
      ap (λ (rule : Option Rule). (unless_denied rule s (done s act).state).queue.staging.running) allowed
      ∙ ap (λ (o : Outcome). o.state.queue.staging.running) whole
      ∙ ap (λ (l : Lane). l.running) (told_leaves commit name Success told_first.state).staging
      ∙ ap (λ (o : Outcome). o.state.queue.staging.running) first_is
      ∙ ap (option_map lanes.to_land) runs_on_so
      ∙ ap (λ (l : StageOf). Some (record batch { stage = lanes.to_landing (lanes.with_report name report.Success l) })) tested

  still : (after s act).desk.base ≡ Some base
  still =
      ap (λ (rule : Option Rule). (unless_denied rule s (done s act).state).desk.base) allowed
      ∙ ap (λ (o : Outcome). o.state.desk.base) whole
      ∙ (told_leaves commit name Success told_first.state).base
      ∙ ap (λ (o : Outcome). o.state.desk.base) first_is
      ∙ ap (λ (l : Look). l.base) (all_look (with_landing true) (λ change. refl) batch.changes told_heads.desk)
      ∙ based

-- WHAT IS TO LAND HAS LANDED
requeued_none : (stays : ℕ → Bool) (next : ℕ) (lane : Lane) → (lanes.requeued stays next lane).running ≡ None
requeued_none stays next lane = by_option (λ running. (lanes.running_requeued stays next running lane.waiting).running ≡ None) refl (λ one. refl) lane.running

base_frees : (s : State) (commit : List ℕ) → is_base (look s.desk) commit ≡ false → (denial s (Other (Base commit)) ≡ None) × ((after s (Other (Base commit))).queue.staging.running ≡ None)
base_frees s commit other = (allowed, free) where
  act : Act
  act = Other (Base commit)

  allowed : denial s act ≡ None
  allowed = ap (λ (b : Bool). first_failing (asks (not b) SameAsBase ∷ [])) other

  none : (sent_back (Some commit) s).queue.staging.running ≡ None
  none = requeued_none (approved_on (sent_back (Some commit) s).desk) s.queue.next s.queue.staging

  free : (after s act).queue.staging.running ≡ None
  free =
      ap (λ (rule : Option Rule). (unless_denied rule s (rebased commit s)).queue.staging.running) allowed
      ∙ by_bool (λ b. (tries_left b (sent_back (Some commit) s).desk (sent_back (Some commit) s).queue).staging.running ≡ None) none none (lands_with commit s.queue.staging)

pub landings_law : LawOfLandings
landings_law s batch commit is runs lands other = (allowed, ended, (base_frees s commit other).1) where
  act : Act
  act = Other (Base commit)

  allowed : denial s act ≡ None
  allowed = (base_frees s commit other).0

  new : DeskView
  new = all_altered (released (Some commit) commit) s.desk batch.changes

  back : (sent_back (Some commit) s).desk ≡ new
  back = ap (λ (o : Option Batch). released_on (Some commit) s.desk o) runs ∙ ap (λ (l : StageOf). released_at (Some commit) s.desk batch.changes l) lands

  here : (c : ℕ) → (look (after s act).desk).change c ≡ cond (list_any (eqb c) batch.changes) (option_map (released (Some commit) commit) (finite.get s.desk.changes c)) (finite.get s.desk.changes c)
  here c =
      ap (λ (rule : Option Rule). finite.get (unless_denied rule s (rebased commit s)).desk.changes c) allowed
      ∙ ap (λ (d : DeskView). finite.get d.changes c) back
      ∙ ap (λ (l : Look). l.change c) (all_look (released (Some commit) commit) (released_twice (Some commit) commit) batch.changes s.desk)

  ended : (c : ℕ) → 1 ≤ occurs c batch.changes → (is_landed (look (after s act).desk) c ≡ true) × (is_approved (look (after s act).desk) c ≡ false)
  ended c there =
      let counted = ap (λ (o : Option Batch). in_landing of_any_priority c (record { running = o; waiting = s.queue.staging.waiting })) runs
      ∙ ap {B = ℕ} (λ (l : StageOf). if is_landing l then occurs c batch.changes else 0) lands in
      let marked = is.queue.staging.landing c in
      let listed = none_there c batch.changes in
      let at = here c in
      let same = (bytes_eq-Decides commit commit).1 refl in
      (grind arith, grind arith)

-- WHAT FREES THE PLACE
pub freeing_law : LawOfFreeing
freeing_law s batch is runs = record {
  failure = λ act so.
      let old = running_number s.queue.next s.queue.staging batch is.queue.order.staging runs in
      let gone = after_failure s (IsGone batch.number) (failed_gone batch.number s.queue.next s.queue.staging old.1 old.0) (started_gone batch.number) act so in
      (failure_allowed s act so, none_runs batch.number (after s act).queue.staging gone);
  place = failed_place s;
  base = base_frees s;
  refusal = λ lands.
      let allowed : denial s (Other (Refused batch.number)) ≡ None = grind (arith, nat_tests, runs, lands) in
      (allowed, ap (λ (rule : Option Rule). (unless_denied rule s (sent_back None s)).queue.staging.running) allowed ∙ requeued_none (approved_on (sent_back None s).desk) s.queue.next s.queue.staging);
}
