-- A batch that is tested by looking back was tested in the words of the whole list. The look-backs cut the list one by one;
-- an event that came after a cut isn't the event of another cut, and so the cuts nest.
use Rattle.std.proofs.Common.{◌≡◌, ◌≢◌, ℕ, Bool, true, false, not, ◌&&◌, List, [], ◌∷◌, ◌++◌, Option, Some, None, is_some, eqb, refl, sym, ◌∙◌, ap, subst, append_assoc, arith}
use Rattle.std.proofs.lemmas.Bool.Decides.{Decides-eqb, nat_tests}
use Rattle.std.proofs.lemmas.Slice.Eq.{bytes_eq-Decides}
use Rattle.std.specs.Bool.{then_some}
use Rattle.std.specs.Cmp.{first_so, second_so}
use Rattle.std.specs.Option.{option_map_or, option_or}
use Rattle.std.specs.Str.{bytes_eq}
use Rattle.gate_queue.specs.Vocabulary.{SettingsView, same_settings, Other, Base, Staged, Status, StatusState, Success, Failure, Error, Head, Stage, Branch, Staging}
use Rattle.gate_text.specs.Same.{same_settings-is}
use Rattle.gate_queue.specs.History.{Event, did, gave, said_by, settings_said, settings_back, is_order_on, keeps_order, is_staged_as, keeps_staged, state_said, is_bad, keeps_clean, is_clean, passes, keeps_passed, has_passed, IsTested}
use Rattle.gate_queue.specs.Machine.{is_good}
use Rattle.gate_queue.specs.Words.{AllKept, Lacks, Succeeded, WasTested, LawOfTests}
use Rattle.gate_queue.proofs.Wording.{since_found}

-- CUTS of one list. An event that a test doesn't keep isn't among those that it has kept.
lacks : (keep : Event → List Event → Bool) (out : Event) → ((before : List Event) → keep out before ≡ false) → (later before : List Event) → AllKept keep later before → Lacks later out
lacks keep out never [] before kept = tt
lacks keep out never (event ∷ later) before kept = (λ is. differs is kept.0, lacks keep out never later before kept.1) where
  differs : event ≡ out → keep event (later ++ before) ≡ true → ⊥
  differs is so = let no = never (later ++ before) in let same = ap (λ (e : Event). keep e (later ++ before)) is in cc (sym so ∙ same ∙ no)

lacks_both : (later before : List Event) (event out : Event) → Lacks later out → event ≢ out → Lacks before out → Lacks (later ++ event ∷ before) out
lacks_both [] before event out none other rest = (other, rest)
lacks_both (next ∷ later) before event out none other rest = (none.0, lacks_both later before event out none.1 other rest)

-- The older event isn't after the newer one: so the newer one is among those after the older one.
nested : (later before after older : List Event) (old new : Event) → later ++ old ∷ before ≡ after ++ new ∷ older → Lacks after old → new ≢ old → (between : List Event) × (later ≡ after ++ new ∷ between)
nested [] before [] older old new is none other = absurd (other cc)
nested [] before (next ∷ after) older old new is none other = absurd (none.0 cc)
nested (first ∷ later) before [] older old new is none other = (later, cc)
nested (first ∷ later) before (next ∷ after) older old new is none other =
    let (between, inside) = nested later before after older old new (cc) none.1 other in
    (between, cc)

-- An event that is in neither first part cuts the list at one place.
same_cut : (one a other b : List Event) (event : Event) → one ++ event ∷ a ≡ other ++ event ∷ b → Lacks one event → Lacks other event → one ≡ other
same_cut [] a [] b event is none neither = refl
same_cut [] a (next ∷ other) b event is none neither = absurd (neither.0 cc)
same_cut (first ∷ one) a [] b event is none neither = absurd (none.0 cc)
same_cut (first ∷ one) a (next ∷ other) b event is none neither = let rest = same_cut one a other b event (cc) none.1 neither.1 in cc

-- THE EVENTS that start a look-back
staging_is : (number : ℕ) (base : List ℕ) (event : Event) (before : List Event) → is_order_on number base event before ≡ true → (heads : List Head) × (event ≡ gave (Stage number Staging base heads))
staging_is number base (gave (Stage batch Staging other heads)) before so = (heads, grind (arith, nat_tests, bytes_eq-Decides base other))
staging_is number base event before so = cc so

staged_is : (number : ℕ) (commit : List ℕ) (event : Event) (before : List Event) → is_staged_as number commit event before ≡ true → event ≡ did (Other (Staged number commit))
staged_is number commit (did (Other (Staged batch other))) before so = grind (arith, nat_tests, bytes_eq-Decides commit other)
staged_is number commit event before so = cc so

success_is : (commit name : List ℕ) (event : Event) (before : List Event) → option_map_or is_good (said_by (state_said commit name) event before) false ≡ true → event ≡ did (Other (Status commit name Success))
success_is commit name (did (Other (Status other status state))) before so = grind (arith, bytes_eq-Decides commit other, bytes_eq-Decides name status)
success_is commit name event before so = cc so

-- SETTINGS that equal those before
still_same : (said present : Option SettingsView) → option_map_or (λ (new : SettingsView). option_map_or (λ (old : SettingsView). same_settings old new) present false) said true ≡ true → option_or said present ≡ present
still_same None present so = refl
still_same (Some new) None so = cc so
still_same (Some new) (Some old) so = ap Some (sym (same_settings-is old new so))

settings_next : (event : Event) (before : List Event) → keeps_order event before ≡ true → settings_back (event ∷ before) ≡ settings_back before
settings_next (did (Other fact)) before kept = still_same (settings_said fact) (settings_back before) (second_so _ _ kept)
settings_next event before kept = refl

settings_kept : (newer older before : List Event) → AllKept keeps_order (newer ++ older) before → settings_back ((newer ++ older) ++ before) ≡ settings_back (older ++ before)
settings_kept [] older before kept = refl
settings_kept (event ∷ newer) older before kept = settings_next event ((newer ++ older) ++ before) kept.0 ∙ settings_kept newer older before kept.1

-- EACH REQUIRED STATUS. Its success came after the batch was staged: the batch was not staged anew.
same_text : (text : List ℕ) → bytes_eq text text ≡ true
same_text text = (bytes_eq-Decides text text).1 refl

same_batch : (number : ℕ) → eqb number number ≡ true
same_batch number = (Decides-eqb number number).1 refl

module _ (number : ℕ) (commit name : List ℕ) where
  abbrev staging : Event
  staging = did (Other (Staged number commit))

  abbrev reported : StatusState → Event
  reported state = did (Other (Status commit name state))

  joined : (after older later before oldest : List Event) → after ++ staging ∷ older ≡ later ++ reported Success ∷ (before ++ staging ∷ oldest)
      → Lacks after staging → Lacks later staging → Lacks before staging → after ≡ later ++ reported Success ∷ before
  joined after older later before oldest is none newer rest =
      same_cut after older (later ++ reported Success ∷ before) oldest staging (is ∙ sym (append_assoc later (reported Success ∷ before) (staging ∷ oldest))) none
      (lacks_both later before (reported Success) staging newer (λ so. cc so) rest)

  succeeded_in : (after later before then_passed then_clean : List Event) → after ≡ later ++ reported Success ∷ before
      → AllKept (keeps_passed number commit name) later then_passed → AllKept (keeps_clean number commit name) before then_clean → Succeeded after commit name
  succeeded_in after later before then_passed then_clean is passed clean = record {
    later = later;
    before = before;
    success = is;
    last = none_after;
    no_failure = subst (λ (events : List Event). Lacks events (reported Failure)) (sym is)
        (lacks_both later before (reported Success) (reported Failure) (none_after Failure) (λ so. cc so) (lacks (keeps_clean number commit name) (reported Failure) (not_clean Failure refl) before then_clean clean));
    no_error = subst (λ (events : List Event). Lacks events (reported Error)) (sym is)
        (lacks_both later before (reported Success) (reported Error) (none_after Error) (λ so. cc so) (lacks (keeps_clean number commit name) (reported Error) (not_clean Error refl) before then_clean clean));
  } where
    none_after : (state : StatusState) → Lacks later (reported state)
    none_after state = lacks (keeps_passed number commit name) (reported state)
        (λ old i. not (is_some (then_some (same_text commit i && same_text name i) state))) later then_passed passed

    not_clean : (state : StatusState) → is_bad state ≡ true → (old : List Event) → keeps_clean number commit name (reported state) old ≡ false
    not_clean state bad old = (λ i. not (option_map_or is_bad (then_some (same_text commit i && same_text name i) state) false)) ∙ ap not bad

  succeeded : (events after older : List Event) → events ≡ after ++ staging ∷ older → Lacks after staging → has_passed events number commit name ≡ true → Succeeded after commit name
  succeeded events after older cut none holds =
      let (later, old, event, is, good, passed) = since_found (passes number commit name) (keeps_passed number commit name) events holds in
      let (before, oldest, first, was, staged, clean) =
      since_found (is_staged_as number commit) (keeps_clean number commit name) old (first_so (is_clean old number commit name) (option_map_or is_good (said_by (state_said commit name) event old) false) good) in
      let success = success_is commit name event old (second_so (is_clean old number commit name) (option_map_or is_good (said_by (state_said commit name) event old) false) good) in
      let start = staged_is number commit first oldest staged in
      succeeded_in after later before (event ∷ old) (first ∷ oldest)
      (joined after older later before oldest
      (sym cut ∙ is ∙ (λ i. later ++ success i ∷ was i) ∙ (λ i. later ++ reported Success ∷ (before ++ start i ∷ oldest))) none
      (lacks (keeps_passed number commit name) staging (λ rest i. not (same_batch number i) && true) later (event ∷ old) passed)
      (lacks (keeps_clean number commit name) staging (λ rest i. not (same_batch number i) && true) before (first ∷ oldest) clean))
      passed clean

-- THE LAW
module _ (events : List Event) (number : ℕ) (base commit : List ℕ) (is : IsTested events number base commit) where
  settings_at : (later before : List Event) (order : Event) → events ≡ later ++ order ∷ before → AllKept keeps_order later (order ∷ before)
      → (newer older : List Event) → later ≡ newer ++ older → settings_back (older ++ order ∷ before) ≡ Some is.settings
  settings_at later before order cut kept newer older parts =
      sym (settings_kept newer older (order ∷ before) (subst (λ (part : List Event). AllKept keeps_order part (order ∷ before)) parts kept))
      ∙ ap (λ (part : List Event). settings_back (part ++ order ∷ before)) (sym parts)
      ∙ ap settings_back (sym cut)
      ∙ is.accepted

  tested_in : (later before : List Event) (heads : List Head) → events ≡ later ++ gave (Stage number Staging base heads) ∷ before → AllKept keeps_order later (gave (Stage number Staging base heads) ∷ before)
      → (after older staging : List Event) → events ≡ after ++ did (Other (Staged number commit)) ∷ older → AllKept (keeps_staged number) after staging → WasTested events number base commit
  tested_in later before heads cut kept after older staging at since =
      let not_ordered = λ (branch : Branch) (other : List ℕ) (others : List Head).
      lacks (keeps_staged number) (gave (Stage number branch other others)) (λ rest. ap not (same_batch number)) after staging since in
      let not_staged = λ (other : List ℕ). lacks (keeps_staged number) (did (Other (Staged number other))) (λ rest. ap not (same_batch number)) after staging since in
      let (between, inside) = nested later before after older (gave (Stage number Staging base heads)) (did (Other (Staged number commit))) (sym cut ∙ at) (not_ordered Staging base heads) (λ so. cc so) in
      record {
        later = later;
        before = before;
        heads = heads;
        ordered = cut;
        no_base = λ other. lacks keeps_order (did (Other (Base other))) (λ rest. refl) later (gave (Stage number Staging base heads) ∷ before) kept;
        present = is.present;
        settings = is.settings;
        accepted = is.accepted;
        same = settings_at later before (gave (Stage number Staging base heads)) cut kept;
        after = after;
        between = between;
        staged = inside;
        not_staged_anew = not_staged;
        not_ordered_anew = not_ordered;
        succeeded = λ k name below. succeeded number commit _ events after older at (not_staged commit) (is.passed k name below);
      }

  tests_hold : WasTested events number base commit
  tests_hold =
      let (later, before, event, cut, started, kept) = since_found (is_order_on number base) keeps_order events is.ordered in
      let (heads, order) = staging_is number base event before started in
      let (after, older, first, at, staged, since) = since_found (is_staged_as number commit) (keeps_staged number) events is.staged in
      tested_in later before heads
      (cut ∙ (λ i. later ++ order i ∷ before))
      (subst (λ (e : Event). AllKept keeps_order later (e ∷ before)) order kept)
      after older (first ∷ older)
      (at ∙ (λ i. after ++ staged_is number commit first older staged i ∷ older))
      since

pub tests_law : LawOfTests
tests_law = tests_hold
