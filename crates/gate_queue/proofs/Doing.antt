-- What a legal history and its state keep, every act keeps.
use Rattle.std.proofs.Common.{◌≡◌, ℕ, eqb, leb, Bool, true, false, ◌&&◌, if◌then◌else◌, List, [], ◌∷◌, Option, Some, None, Result, Ok, Err, refl, sym, ◌∙◌, ap, subst, arith}
use Rattle.std.proofs.lemmas.Bool.{leb-true}
use Rattle.std.proofs.lemmas.Bool.Decides.{Decides-eqb}
use Rattle.std.specs.Option.{option_map_or}
use Rattle.std.specs.Cmp.{first_so}
use Rattle.gate_queue.specs.Vocabulary.{SettingsView, settings_of, SettingsFault, Look, DeskView, with_role, with_clock, look, ClockBack, NoSuchBatch, Act, On, Other, Pushed, Closed, Labeled, Review, Deed, Happened, Fact, Role, Settings, Base, Staged, Conflict, Status, Refused, Tick, StatusState, Why, Batch, Staging, Trying, Lane, State}
use Rattle.gate_state.specs.State.{IsMoment, approved_on}
use Rattle.gate_state.specs.declared.reply.Why.TheVariants as why
use Rattle.gate_queue.specs.History.{Event, did, given, change_back, look_back, landing_with}
use Rattle.gate_state.specs.Lanes.{is_landing, requeued}
use Rattle.gate_queue.specs.Machine.{broken, heads_told, missing, has_ordered, has_landing, effect, notices, notice_if, settings_notices, quiet, about, with_desk, are_present, losing_on, under, accepted, lands_with, sent_back, done, on_both, timed_out, starting, ordered_on}
use Rattle.gate_state.specs.Queue as specs
use Rattle.gate_queue.proofs.Acting.{about_look, about_mild, status_look, role_next, settings_next, settings_mild, fact_next, tick_next, base_look, refusal_look, one_rule}
use Rattle.gate_queue.proofs.After.{rest_back, rest_after}
use Rattle.gate_queue.proofs.Fitness.{passed, unless_so}
use Rattle.gate_queue.proofs.Growing.{queue_grows, same_grows, about_grows, accepted_grows}
use Rattle.gate_queue.proofs.Landing.{Lands, base_ends, refused_ends}
use Rattle.gate_queue.proofs.Held.{Holds, heads_told_holds}
use Rattle.gate_queue.proofs.States.{ordered_so, clock_holds, still_clock, holding, ordered_on_so}
use Rattle.gate_queue.proofs.Steps.{Goes, Kept, AreNotices, did_kept, ended_kept, notices_kept, failing_kept, then_kept, keeping, all_starting_kept, tries_left_staging, same_goes, runs_goes, followed_runs, accepted_runs, staged_goes}
use Rattle.gate_queue.proofs.Choosing.{by_bool}
use Rattle.gate_queue.proofs.Told.{told_so, timed_out_both_so}

-- NOTICES
one_notice : (b : Bool) (number : ℕ) (why : Why) → AreNotices (notice_if b number why)
one_notice b number why = by_bool (λ b. AreNotices (notice_if b number why)) tt tt b

all_notices : (numbers : List ℕ) → AreNotices (settings_notices numbers)
all_notices [] = tt
all_notices (number ∷ numbers) = all_notices numbers

pub accepted_are : (s : State) (read : Result SettingsView SettingsFault) → AreNotices (accepted s read).orders
accepted_are s (Err fault) = tt
accepted_are s (Ok settings) = by_bool (λ b. AreNotices (if b then quiet s else under settings s).orders) tt (all_notices (losing_on s.desk settings)) (are_present s.desk settings)

pub about_are : (desk : DeskView) (n : ℕ) (deed : Deed) → AreNotices (notices desk n deed)
about_are desk n (Happened (Pushed head)) = one_notice _ n _
about_are desk n (Happened Closed) = one_notice _ n _
about_are desk n (Happened (Labeled label)) = one_notice _ n _
about_are desk n (Happened (Review person head approves)) = one_notice _ n _
about_are desk n other = tt

-- none runs after a requeue
none_runs : (stays : ℕ → Bool) (number : ℕ) (lane : Lane) → (requeued stays number lane).running ≡ None
none_runs stays number lane = grind arith

-- KEPT
module _ (events : List Event) (s : State) (is : Holds s) (kept : Kept events s) where
  holds_back : (act : Act) → broken (look s.desk) act ≡ None → broken (look_back events) act ≡ None
  holds_back act holds = ap (λ (l : Look). broken l act) (sym kept.same) ∙ holds

  -- a deed on a change, before its notices
  pub about_kept : (n : ℕ) (deed : Deed) → broken (look s.desk) (On n deed) ≡ None → Kept (given (did (On n deed) ∷ events) (about s n deed).orders) (about s n deed).state
  about_kept n deed holds =
      let act = On n deed in
      notices_kept (about s n deed).state (notices s.desk n deed) (did act ∷ events) (about_are s.desk n deed) (about_mild s.desk (did act ∷ events) n deed)
      (did_kept events act s (about s n deed).state kept (holds_back act holds) (about_look s.desk events n deed kept.same kept.unseen (holds_back act holds)) (λ number. refl) (about_grows s n deed) (runs_goes _ _ (followed_runs s.desk (effect s.desk n deed) n s.queue)))

  -- a fact of which the rules read nothing
  pub fact_kept : (fact : Fact) → look_back (did (Other fact) ∷ events) ≡ record (look_back events) { change = change_back (did (Other fact) ∷ events) }
      → ((c : ℕ) → rest_after (did (Other fact)) events c ≡ rest_back events c)
      → ((number : ℕ) → landing_with (did (Other fact) ∷ events) number ≡ landing_with events number) → broken (look s.desk) (Other fact) ≡ None → Kept (did (Other fact) ∷ events) s
  fact_kept fact rest elsewhere landing holds =
      did_kept events (Other fact) s s kept (holds_back (Other fact) holds) (kept.same ∙ fact_next events fact rest elsewhere) landing (same_grows 0 s.queue) (same_goes s.queue.staging.running)

  pub status_kept : (commit name : List ℕ) (state : StatusState) → Kept (did (Other (Status commit name state)) ∷ events) (heads_told commit name state s)
  status_kept commit name state =
      did_kept events (Other (Status commit name state)) s (heads_told commit name state s) kept refl (status_look s.desk events commit name state kept.same) (λ number. refl) (same_grows 0 s.queue) (same_goes s.queue.staging.running)

  pub clock_kept : (now : ℕ) → broken (look s.desk) (Other (Tick now)) ≡ None → Kept (did (Other (Tick now)) ∷ events) (with_desk s (with_clock s.desk now))
  clock_kept now holds =
      did_kept events (Other (Tick now)) s (with_desk s (with_clock s.desk now)) kept (holds_back (Other (Tick now)) holds) (tick_next s.desk events now kept.same) (λ number. refl) (same_grows 0 s.queue) (same_goes s.queue.staging.running)

  refused_none : (number : ℕ) → has_landing number s.queue.staging ≡ true → Lands (did (Other (Refused number)) ∷ events) None
  refused_none number there = by s.queue.staging.running there kept.landing where
    by : (running : Option Batch) → option_map_or (λ (batch : Batch). eqb number batch.number && is_landing batch.stage) running false ≡ true → Lands events running → Lands (did (Other (Refused number)) ∷ events) None
    by None there all = cc there
    by (Some batch) there all =
        let same = (Decides-eqb number batch.number).0 (first_so (eqb number batch.number) (is_landing batch.stage) there) in
        subst (λ n. Lands (did (Other (Refused n)) ∷ events) None) (sym same) (refused_ends events batch all)

  -- a batch that was ordered is staged, on its branch
  staged_either : (number : ℕ) (commit : List ℕ) (b : Bool) → has_ordered number s.queue.staging ≡ b
      → Goes s.queue.staging.running (specs.staged (if b then Staging else Trying) s.desk.clock commit s.queue).staging.running
  staged_either number commit true there = staged_goes s.desk.clock commit s.queue.staging.running (ordered_so s.queue.staging number there)
  staged_either number commit false there = same_goes s.queue.staging.running

  pub done_kept : (act : Act) → ((now : ℕ) → act ≡ Other (Tick now) → IsMoment now) → missing s act ≡ None → broken (look s.desk) act ≡ None → Kept (given (did act ∷ events) (done s act).orders) (done s act).state
  done_kept (On n deed) limit there holds = about_kept n deed holds
  done_kept (Other (Role person role)) limit there holds =
      did_kept events (Other (Role person role)) s (with_desk s (with_role s.desk person role)) kept (holds_back (Other (Role person role)) holds) (role_next s.desk events person role kept.same) (λ number. refl) (same_grows 0 s.queue) (same_goes s.queue.staging.running)
  done_kept (Other (Settings text)) limit there holds =
      let t = (accepted s (settings_of text)).state in
      notices_kept t (accepted s (settings_of text)).orders (did (Other (Settings text)) ∷ events) (accepted_are s (settings_of text)) (settings_mild (did (Other (Settings text)) ∷ events) s (settings_of text))
      (did_kept events (Other (Settings text)) s t kept (holds_back (Other (Settings text)) holds) (settings_next s events text (settings_of text) refl (one_rule _ holds) kept.same) (λ number. refl) (accepted_grows s (settings_of text)) (runs_goes _ _ (accepted_runs s (settings_of text))))
  done_kept (Other (Base base)) limit there holds =
      let back = sent_back (Some base) s in
      ended_kept events (Other (Base base)) s (done s (Other (Base base))).state kept (holds_back (Other (Base base)) holds) (base_look s.desk events kept.same base s.queue.staging.running kept.landing kept.members) (base_ends events base)
      (queue_grows s (Other (Base base))) (ap (λ (l : Lane). l.running) (tries_left_staging (lands_with base s.queue.staging) back.desk back.queue) ∙ none_runs (approved_on back.desk) s.queue.next s.queue.staging)
  done_kept (Other (Staged batch commit)) limit there holds =
      did_kept events (Other (Staged batch commit)) s (done s (Other (Staged batch commit))).state kept (holds_back (Other (Staged batch commit)) holds) (kept.same ∙ fact_next events (Staged batch commit) refl (λ c. refl)) (λ number. refl)
      (queue_grows s (Other (Staged batch commit))) (staged_either batch commit (has_ordered batch s.queue.staging) refl)
  done_kept (Other (Conflict batch)) limit there holds =
      failing_kept (ordered_on batch s.queue) (did (Other (Conflict batch)) ∷ events) s why.Conflict refl (ordered_on_so s is batch) (fact_kept (Conflict batch) refl (λ c. refl) (λ number. refl) holds)
  done_kept (Other (Status commit name state)) limit there holds =
      (told_so keeping commit name state (heads_told commit name state s) (heads_told_holds s commit name state is)).1 (did (Other (Status commit name state)) ∷ events) (status_kept commit name state)
  done_kept (Other (Refused batch)) limit there holds =
      let landing = unless_so (has_landing batch s.queue.staging) NoSuchBatch there in
      ended_kept events (Other (Refused batch)) s (done s (Other (Refused batch))).state kept (holds_back (Other (Refused batch)) holds) (refusal_look s.desk events kept.same batch s.queue.staging.running landing kept.landing kept.members)
      (refused_none batch landing) (queue_grows s (Other (Refused batch))) (none_runs _ s.queue.next s.queue.staging)
  done_kept (Other (Tick now)) limit there holds =
      let t = with_desk s (with_clock s.desk now) in
      let set = clock_holds s now (limit now refl) (leb-true s.desk.clock now (passed (leb s.desk.clock now) ClockBack [] holds).0) is in
      let ended = on_both (timed_out now) t in
      then_kept (did (Other (Tick now)) ∷ events) ended (on_both (starting now))
      (all_starting_kept now (given (did (Other (Tick now)) ∷ events) ended.orders) ended.state (still_clock now t, timed_out_both_so holding now t set)
      ((timed_out_both_so keeping now t set).1 (did (Other (Tick now)) ∷ events) (clock_kept now holds)))
