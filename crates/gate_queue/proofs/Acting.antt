-- What the rules read after an act that no rule denies: on the desk, and on the history with the act and its orders.
use Rattle.std.proofs.Common.{◌≡◌, ◌≤◌, ◌&&◌, ◌||◌, ℕ, Bool, true, false, cond, if◌then◌else◌, List, [], ◌∷◌, Option, Some, None, Result, Ok, Err, eqb, refl, sym, ◌∙◌, ap, arith}
use Rattle.std.proofs.lemmas.Bool.{and_right}
use Rattle.std.proofs.lemmas.Bool.Decides.{Decides-eqb, nat_tests}
use Rattle.std.proofs.lemmas.List.Sums.{sum_by-cons}
use Rattle.std.specs.Bool.{⊤}
use Rattle.std.specs.Cmp.{nat_cmp_total}
use Rattle.std.specs.Cmp.Lexicographic.{slice_cmp, nat_list_cmp_total}
use Rattle.std.specs.FinMap as finite
use Rattle.std.specs.FinMap.{FinMap, get-insert, get-remove}
use Rattle.std.specs.List.{filter_map, list_any}
use Rattle.std.specs.Option.{option_map, option_map_or, option_or, unwrap_or}
use Rattle.std.specs.Ordering.{nat_cmp}
use Rattle.std.specs.Str.{bytes_eq}
use Rattle.std.proofs.lemmas.Map.Text.{is_eq-slice_cmp}
use Rattle.gate_text.specs.Finite.{get-mapped}
use Rattle.gate_text.specs.Same.{same_settings-is}
use Rattle.gate_queue.specs.Vocabulary.{SettingsView, settings_of, same_settings, Approve, ApproveFor, Withdraw, Priority, Try, TryCancel, DelegateAuthor, DelegateTo, DelegateNone, Known, SettingsFault, Look, Texts, first_failing, is_fit, StatusState, DeskView, with_told, with_role, with_settings, with_base, with_clock, without_approval, look, Change, RoleOf, Nobody, Rule, On, Other, Opened, Pushed, Closed, Labeled, Unlabeled, Review, Deed, Said, Happened, Fact, Role, Settings, Base, Status, Refused, Tick, Order, Stage, Land, Notice, Why, Batch, Branch, StageOf, Outcome, State, Staging, Trying}
use Rattle.gate_rules.specs.View.{told_at, roles_with}
use Rattle.gate_rules.specs.declared.change.Repeat.TheVariants as repeat
use Rattle.gate_rules.specs.declared.change.Phase.TheVariants as phase
use Rattle.gate_state.specs.Counts.{uses}
use Rattle.gate_state.specs.Acts.{on}
use Rattle.gate_state.specs.declared.reply.Why.TheVariants as why
use Rattle.gate_queue.specs.History.{ends_why, order_ends, tells_of_try, order_ends_try, tried_back, Event, did, gave, given, last_of, said_by, role_said, settings_back, labels_back, reviews_back, author_back, approvers_back, landing_back, landed_back, landings, change_of, change_back, look_back}
use Rattle.gate_queue.specs.Machine.{broken, is_good, bad_settings, effect, notices, notice_if, settings_notices, are_present, losing_on, quiet, under, accepted, lone_altered, lone_notices, head_on, first_order, starting, with_landing, to_land, landed, released, released_at, released_on, all_altered, altered, approved_by, with_try, without_try, with_priority, with_delegates, with_author_as_delegate, without_delegates, opened, closed, pushed, labeled, without_label, reviewed, with_settled, settled, ending, given_up, lone_on}
use Rattle.gate_state.specs.declared.batch.Stage.TheVariants as stage
use Rattle.gate_state.specs.Lanes.{is_landing}
use Rattle.gate_state.specs.Queue.{lane_of}
use Rattle.gate_queue.proofs.After.{rest_back, rest_after, change_after, change_of_after, altered_as, untouched, unaltered, unless_unfit, by_number, elsewhere, order_elsewhere, order_ended, order_ended_try, quiet_line, stays}
use Rattle.gate_queue.proofs.Changes.{altered_look, all_look, opened_at}
use Rattle.gate_queue.proofs.Choosing.{by_option, either_way}
use Rattle.gate_queue.proofs.Facts.{closed_next, labeled_next, reviewed_next, unlabeled_next, pushed_next, opened_next, settled_next, status_next, unsettled_next, taken_settings}
use Rattle.gate_queue.proofs.Landing.{Lands, Members, none_lands, stage_rest, land_rest, not_landing_back, landing_members, base_ends, base_rest, base_landed, refused_ends}
use Rattle.gate_queue.proofs.Next.{priority_next, author_next, names_next, none_next, withdraw_next, try_next, try_cancel_next, approve_next, approve_for_next}
use Rattle.gate_queue.proofs.Premises.{fits, shut, fresh, still_here, tried_here}
use Rattle.gate_queue.proofs.States.{released_twice}
use Rattle.gate_queue.proofs.Unseen.{Unseen}

-- ONE DEED ON A CHANGE
altered_next : (desk : DeskView) (events : List Event) (n : ℕ) (alter : Change → Change) (deed : Deed) → look desk ≡ look_back events
    → ((c : ℕ) → eqb c n ≡ true → option_map alter (change_back events c) ≡ change_after events c (rest_back events c) (Some deed))
    → look (altered desk n alter) ≡ look_back (did (On n deed) ∷ events)
altered_next desk events n alter deed same next =
    altered_look desk n alter
    ∙ ap (λ (s : Look). record s { change = λ c. cond (eqb c n) (option_map alter (s.change c)) (s.change c) }) same
    ∙ (λ i. record (look_back events) { change = λ c. by_number events c n deed (option_map alter) (next c) (eqb c n) refl i })

-- ROLES
roles_next : (roles : FinMap (slice_cmp nat_cmp) RoleOf) (person : List ℕ) (role : RoleOf) (p : List ℕ)
    → unwrap_or (finite.get (roles_with roles person role) p) Nobody ≡ cond (bytes_eq p person) role (unwrap_or (finite.get roles p) Nobody)
roles_next roles person role p = grind (arith, get-remove nat_list_cmp_total roles person p, get-insert nat_list_cmp_total roles person role p, is_eq-slice_cmp p person)

role_told : (b : Bool) (role : RoleOf) (had : Option RoleOf) → unwrap_or (option_or (cond b (Some role) None) had) Nobody ≡ cond b role (unwrap_or had Nobody)
role_told b role had = grind arith

pub role_next : (desk : DeskView) (events : List Event) (person : List ℕ) (role : RoleOf) → look desk ≡ look_back events → look (with_role desk person role) ≡ look_back (did (Other (Role person role)) ∷ events)
role_next desk events person role same =
    (λ i. record (look desk) { role = λ p. roles_next desk.roles person role p i })
    ∙ ap (λ (s : Look). record s { role = λ p. cond (bytes_eq p person) role (s.role p) }) same
    ∙ (λ i. record (look_back events) {
      role = λ p. (sym (role_told (bytes_eq p person) role (last_of (said_by (role_said p)) events))) i;
      change = λ c. (sym (elsewhere events c (Other (Role person role)) refl refl)) i;
    })

-- SETTINGS
changes_settled : (desk : DeskView) (settings : SettingsView) (c : ℕ) → finite.get (with_settled desk settings).changes c ≡ option_map (settled settings) (finite.get desk.changes c)
changes_settled desk settings c = get-mapped nat_cmp (settled settings) nat_cmp_total desk.changes c

new_settings_next : (desk : DeskView) (events : List Event) (text : List ℕ) (settings : SettingsView) → settings_of text ≡ Ok settings → look desk ≡ look_back events
    → look (with_settings (with_settled desk settings) settings) ≡ look_back (did (Other (Settings text)) ∷ events)
new_settings_next desk events text settings read same =
    (λ i. record (look desk) { change = λ c. changes_settled desk settings c i; settings = Some settings })
    ∙ ap (λ (s : Look). record s { change = λ c. option_map (settled settings) (s.change c); settings = Some settings }) same
    ∙ (λ i. record (look_back events) { change = λ c. settled_next events c text settings read i; settings = (sym (taken_settings events 0 text settings read)) i })

old_settings_next : (desk : DeskView) (events : List Event) (text : List ℕ) (settings : SettingsView) → settings_of text ≡ Ok settings → look desk ≡ look_back events
    → settings_back events ≡ Some settings → look desk ≡ look_back (did (Other (Settings text)) ∷ events)
old_settings_next desk events text settings read same present =
    same
    ∙ (λ i. record (look_back events) { change = λ c. unsettled_next events c text settings read present i; settings = (present ∙ sym (taken_settings events 0 text settings read)) i })

present_is : (present : Option SettingsView) (settings : SettingsView) → option_map_or (λ p. same_settings p settings) present false ≡ true → present ≡ Some settings
present_is None settings equal = cc equal
present_is (Some present) settings equal = ap Some (same_settings-is present settings equal)

pub settings_next : (s : State) (events : List Event) (text : List ℕ) (read : Result SettingsView SettingsFault) → settings_of text ≡ read → bad_settings read ≡ None
    → look s.desk ≡ look_back events → look (accepted s read).state.desk ≡ look_back (did (Other (Settings text)) ∷ events)
settings_next s events text (Ok settings) read good same =
    either_way (λ (o : Outcome). look o.state.desk ≡ look_back (did (Other (Settings text)) ∷ events)) (are_present s.desk settings) (quiet s) (under settings s)
    (λ equal. old_settings_next s.desk events text settings read same (sym (ap (λ (l : Look). l.settings) same) ∙ present_is s.desk.settings settings equal))
    (λ other. new_settings_next s.desk events text settings read same)
settings_next s events text (Err fault) read good same = cc good

pub one_rule : (rule : Option Rule) → first_failing (rule ∷ []) ≡ None → rule ≡ None
one_rule rule holds = grind arith

-- OPENING
opening_next : (desk : DeskView) (events : List Event) (n : ℕ) (author head : List ℕ) → look desk ≡ look_back events
    → ((c : ℕ) → eqb c n ≡ true → Some (opened author head (change_back events c)) ≡ change_after events c (rest_back events c) (Some (Happened (Opened author head))))
    → look (effect desk n (Happened (Opened author head))) ≡ look_back (did (On n (Happened (Opened author head))) ∷ events)
opening_next desk events n author head same next =
    (λ i. record (look desk) { change = λ c. opened_at desk n author head c i })
    ∙ ap (λ (s : Look). record s { change = λ c. cond (eqb c n) (Some (opened author head (s.change c))) (s.change c) }) same
    ∙ (λ i. record (look_back events) {
      change = λ c. by_number events c n (Happened (Opened author head)) (λ had. Some (opened author head had)) (next c) (eqb c n) refl i;
    })

-- ACTS THAT CHANGE NO CHANGE
-- a line that does nothing
quiet_next : (desk : DeskView) (events : List Event) (n : ℕ) (deed : Deed) → look desk ≡ look_back events
    → ((c : ℕ) → eqb c n ≡ true → option_map (λ change. change) (change_back events c) ≡ change_after events c (rest_back events c) (Some deed))
    → look desk ≡ look_back (did (On n deed) ∷ events)
quiet_next desk events n deed same next =
    same
    ∙ (λ i. record (look_back events) { change = λ c. (kept_by (eqb c n) (change_back events c) ∙ by_number events c n deed (option_map (λ change. change)) (next c) (eqb c n) refl) i }) where
      kept_by : (b : Bool) (change : Option Change) → change ≡ cond b (option_map (λ c. c) change) change
      kept_by b change = grind arith

-- a status, of which the open changes are told whose head its commit is
pub status_look : (desk : DeskView) (events : List Event) (commit name : List ℕ) (state : StatusState) → look desk ≡ look_back events
    → look (with_told commit name (is_good state) desk) ≡ look_back (did (Other (Status commit name state)) ∷ events)
status_look desk events commit name state same =
    (λ i. record (look desk) { change = λ c. get-mapped nat_cmp (told_at commit name (is_good state)) nat_cmp_total desk.changes c i })
    ∙ ap (λ (s : Look). record s { change = λ c. option_map (told_at commit name (is_good state)) (s.change c) }) same
    ∙ (λ i. record (look_back events) { change = λ c. status_next events c commit name state i })

-- a fact about a batch, of which the rules read nothing; and a tick, which sets the clock
pub fact_next : (events : List Event) (fact : Fact) → look_back (did (Other fact) ∷ events) ≡ record (look_back events) { change = change_back (did (Other fact) ∷ events) }
    → ((c : ℕ) → rest_after (did (Other fact)) events c ≡ rest_back events c) → look_back events ≡ look_back (did (Other fact) ∷ events)
fact_next events fact rest about = (λ i. record (look_back events) { change = λ c. (sym (elsewhere events c (Other fact) refl (about c))) i }) ∙ sym rest

pub tick_next : (desk : DeskView) (events : List Event) (now : ℕ) → look desk ≡ look_back events → look (with_clock desk now) ≡ look_back (did (Other (Tick now)) ∷ events)
tick_next desk events now same =
    ap (λ (s : Look). record s { clock = now }) same
    ∙ (λ i. record (look_back events) { change = λ c. (sym (elsewhere events c (Other (Tick now)) refl refl)) i; clock = now })

-- ORDERS that end no approval and no try, and leave what is landing and has landed, leave all that the rules read.
abbrev pub AreMild : List Event → List Order → Type 0
AreMild events [] = ⊤
AreMild events (order ∷ orders) =
    ((c : ℕ) → (order_ends c order ≡ false) × (order_ends_try c order ≡ false) × (rest_after (gave order) events c ≡ rest_back events c))
    × AreMild (gave order ∷ events) orders

look_given : (events : List Event) (orders : List Order) → AreMild events orders → look_back (given events orders) ≡ look_back events
look_given events [] mild = refl
look_given events (order ∷ orders) mild =
    look_given (gave order ∷ events) orders mild.1
    ∙ (λ i. record (look_back events) { change = λ c. order_elsewhere events c order (mild.0 c).0 (mild.0 c).1 (mild.0 c).2 i })

notice_mild : (events : List Event) (b : Bool) (n : ℕ) (why : Why) → ends_why why ≡ false → tells_of_try why ≡ false → AreMild events (notice_if b n why)
notice_mild events true n why goes tries = ((λ c. (ap (λ (b : Bool). b && eqb c n) goes, ap (λ (b : Bool). b && eqb c n) tries, refl)), tt)
notice_mild events false n why goes tries = tt

numbers_mild : (events : List Event) (numbers : List ℕ) → AreMild events (settings_notices numbers)
numbers_mild events [] = tt
numbers_mild events (number ∷ numbers) = ((λ c. (refl, refl, refl)), numbers_mild (gave (Notice number why.Settings) ∷ events) numbers)

pub settings_mild : (events : List Event) (s : State) (read : Result SettingsView SettingsFault) → AreMild events (accepted s read).orders
settings_mild events s (Err fault) = tt
settings_mild events s (Ok settings) =
    either_way (λ (o : Outcome). AreMild events o.orders) (are_present s.desk settings) (quiet s) (under settings s) (λ present. tt) (λ new. numbers_mild events (losing_on s.desk settings))

-- A batch is ordered that was never to land.
stage_mild : (events : List Event) (desk : DeskView) (running : Option Batch) (waiting : List Batch) → ((number : ℕ) → 1 ≤ uses number waiting → landings number events ≡ 0)
    → AreMild events (first_order desk running waiting)
stage_mild events desk (Some batch) waiting never = tt
stage_mild events desk None [] never = tt
stage_mild events desk None (batch ∷ waiting) never =
    let first : 1 ≤ uses batch.number (batch ∷ waiting) = grind (arith, nat_tests, sum_by-cons (λ (b : Batch). if eqb batch.number b.number then 1 else 0) batch waiting) in
    let heads = filter_map (head_on desk) batch.changes in
    by_option (λ base. AreMild events (option_map_or (λ b. Stage batch.number batch.branch b heads ∷ []) base []))
    tt (λ base. ((λ c. (refl, refl, stage_rest events batch.number batch.branch base heads c (never batch.number first))), tt)) desk.base

pub starting_look : (branch : Branch) (s : State) (events : List Event) (now : ℕ) → look s.desk ≡ look_back events
    → ((number : ℕ) → 1 ≤ uses number (lane_of branch s.queue).waiting → landings number events ≡ 0)
    → look (starting now branch s).state.desk ≡ look_back (given events (starting now branch s).orders)
starting_look branch s events now same never =
    same ∙ sym (look_given events (starting now branch s).orders (stage_mild events s.desk (lane_of branch s.queue).running (lane_of branch s.queue).waiting never))

-- A BATCH FAILS, OR A TRY ENDS: the notice to its one change, if it has one, alters the change as it is altered on the desk.
lone_look : (alter : Change → Change) (why : Why) (desk : DeskView) (events : List Event) (one : Option ℕ) → look desk ≡ look_back events
    → ((n c : ℕ) (b : Bool) → eqb c n ≡ b → cond b (option_map alter (change_back events c)) (change_back events c) ≡ change_back (gave (Notice n why) ∷ events) c)
    → look (lone_altered alter desk one) ≡ look_back (given events (lone_notices why one))
lone_look alter why desk events None same each = same
lone_look alter why desk events (Some n) same each =
    altered_look desk n alter
    ∙ ap (λ (l : Look). record l { change = λ c. cond (eqb c n) (option_map alter (l.change c)) (l.change c) }) same
    ∙ (λ i. record (look_back events) { change = λ c. each n c (eqb c n) refl i })

-- No notice ends both.
not_of_try : (why : Why) → ends_why why ≡ true → tells_of_try why ≡ false
not_of_try why ends = grind arith

only_of_try : (why : Why) → tells_of_try why ≡ true → ends_why why ≡ false
only_of_try why tells = grind arith

-- what a notice ends, by the branch of the batch that it tells of
abbrev pub ends_on : Branch → Why → Bool
ends_on Staging why = ends_why why
ends_on Trying why = tells_of_try why

pub ending_look : (branch : Branch) (s : State) (events : List Event) (why : Why) → ends_on branch why ≡ true → look s.desk ≡ look_back events
    → look (ending branch why s).state.desk ≡ look_back (given events (ending branch why s).orders)
ending_look branch s events why ends same = lone_look (given_up branch) why s.desk events (lone_on branch s) same (at branch ends) where
  at : (b : Branch) → ends_on b why ≡ true → (n c : ℕ) (here : Bool) → eqb c n ≡ here
      → cond here (option_map (given_up b) (change_back events c)) (change_back events c) ≡ change_back (gave (Notice n why) ∷ events) c
  at Staging ends n c true is = sym (order_ended events c (Notice n why) ((λ i. ends i && eqb c n) ∙ is) (λ i. not_of_try why ends i && eqb c n) refl)
  at Staging ends n c false is = sym (order_elsewhere events c (Notice n why) ((λ i. ends i && eqb c n) ∙ is) (λ i. not_of_try why ends i && eqb c n) refl)
  at Trying ends n c true is = sym (order_ended_try events c (Notice n why) ((λ i. ends i && eqb c n) ∙ is) (λ i. only_of_try why ends i && eqb c n) refl)
  at Trying ends n c false is = sym (order_elsewhere events c (Notice n why) (λ i. only_of_try why ends i && eqb c n) ((λ i. ends i && eqb c n) ∙ is) refl)

-- A BATCH IS TO LAND
pub land_look : (s : State) (events : List Event) (batch : Batch) (base commit : List ℕ) → look s.desk ≡ look_back events → Lands events None → Members events (Some batch)
    → look (to_land batch s).state.desk ≡ look_back (gave (Land batch.number base commit) ∷ events)
land_look s events batch base commit same none members =
    all_look (with_landing true) (λ change. refl) batch.changes s.desk
    ∙ ap (λ (l : Look). record l { change = λ c. cond (list_any (eqb c) batch.changes) (option_map (with_landing true) (l.change c)) (l.change c) }) same
    ∙ (λ i. record (look_back events) { change = λ c. (marked c (list_any (eqb c) batch.changes) ∙ (λ j. change_after events c ((sym (land_rest events batch base commit c none members)) j) None)) i }) where
      marked : (c : ℕ) (b : Bool) → cond b (option_map (with_landing true) (change_back events c)) (change_back events c) ≡ change_after events c (record (rest_back events c) { landing = b }) None
      marked c true = altered_as (with_landing true) (change_of events c) (change_of_after events c (record (rest_back events c) { landing = true }) None) (author_back events c)
          (λ author is. λ i. record (change_of events c author) { landing = true; approved = (sym (untouched events c)) i })
      marked c false = sym (unaltered events c) ∙ (λ i. change_after events c (record (rest_back events c) { landing = not_landing_back events c none i }) None)

-- THE RUNNING BATCH GOES BACK
landed_unfit : (settings : Option SettingsView) (labels reviews : Texts) → is_fit settings phase.Landed labels reviews ≡ false
landed_unfit settings labels reviews = grind arith

module _ (desk : DeskView) (events : List Event) (same : look desk ≡ look_back events) where
  -- as the changes of a batch that was landing, and the other ones
  released_look : (on : Option (List ℕ)) (batch : Batch) (commit : List ℕ) → (after : List Event) (later : Look)
      → ((c : ℕ) (b : Bool) → list_any (eqb c) batch.changes ≡ b → cond b (option_map (released on commit) (change_back events c)) (change_back events c) ≡ change_back after c)
      → later ≡ look (all_altered (released on commit) desk batch.changes)
      → later ≡ record (look_back events) { change = change_back after }
  released_look on batch commit after later each is =
      is ∙ all_look (released on commit) (released_twice on commit) batch.changes desk
      ∙ ap (λ (l : Look). record l { change = λ c. cond (list_any (eqb c) batch.changes) (option_map (released on commit) (l.change c)) (l.change c) }) same
      ∙ (λ i. record (look_back events) { change = λ c. each c (list_any (eqb c) batch.changes) refl i })

  -- one that is still to land, and doesn't; one that has landed; and one that had nothing to do with it
  module _ (c : ℕ) where
    spared : option_map (with_landing false) (change_back events c) ≡ change_after events c (record (rest_back events c) { landing = false }) None
    spared = altered_as (with_landing false) (change_of events c) (change_of_after events c (record (rest_back events c) { landing = false }) None) (author_back events c)
        (λ author is. λ i. record (change_of events c author) { landing = false; approved = (sym (untouched events c)) i })

    come_in : option_map landed (change_back events c) ≡ change_after events c (record (rest_back events c) { landed = true; landing = false }) None
    come_in = altered_as landed (change_of events c) (change_of_after events c (record (rest_back events c) { landed = true; landing = false }) None) (author_back events c)
        (λ author is. λ i. record (landed (change_of events c author)) {
          approved = (sym (unless_unfit events c (record (rest_back events c) { landed = true; landing = false })
              ∙ ap (λ (b : Bool). cond b (approvers_back events c) None) (landed_unfit (settings_back events) (labels_back events c) (reviews_back events c)))) i;
          trying = (sym (and_right (tried_back events c) false refl)) i;
        })

    outside : landing_back events c ≡ false → change_back events c ≡ change_after events c (record (rest_back events c) { landing = false }) None
    outside none = sym (unaltered events c) ∙ (λ i. change_after events c (record (rest_back events c) { landing = none i }) None)

  none_landed : (base : List ℕ) → Lands events None → look (with_base desk base) ≡ look_back (did (Other (Base base)) ∷ events)
  none_landed base none =
      ap (λ (l : Look). record l { base = Some base }) same
      ∙ (λ i. record (look_back events) { change = λ c. (sym (elsewhere events c (Other (Base base)) refl (base_rest events base c none))) i; base = Some base })

  pub base_look : (base : List ℕ) (running : Option Batch) → Lands events running → Members events running → look (with_base (released_on (Some base) desk running) base) ≡ look_back (did (Other (Base base)) ∷ events)
  base_look base None all members = none_landed base all
  base_look base (Some batch) all members = by batch.stage refl where
    by : (at : StageOf) → batch.stage ≡ at → look (with_base (released_at (Some base) desk batch.changes at) base) ≡ look_back (did (Other (Base base)) ∷ events)
    by (stage.Landing commit) at =
        ap (λ (l : Look). record l { base = Some base })
        (released_look (Some base) batch commit (did (Other (Base base)) ∷ events) (look (all_altered (released (Some base) commit) desk batch.changes)) (λ c b there. each c (bytes_eq base commit) refl b there) refl) where
          none_later : (c : ℕ) → landing_back (did (Other (Base base)) ∷ events) c ≡ false
          none_later c = not_landing_back (did (Other (Base base)) ∷ events) c (base_ends events base)

          rest : (c : ℕ) (equal b : Bool) → bytes_eq base commit ≡ equal → list_any (eqb c) batch.changes ≡ b
              → change_back (did (Other (Base base)) ∷ events) c ≡ change_after events c (record (rest_back events c) { landed = (equal && b) || landed_back events c; landing = false }) None
          rest c equal b is there =
              λ i. change_after events c (record (rest_back events c) { landed = (base_landed events base batch commit c at all members ∙ (λ j. (is j && there j) || landed_back events c)) i; landing = none_later c i }) None

          each : (c : ℕ) (equal : Bool) → bytes_eq base commit ≡ equal → (b : Bool) → list_any (eqb c) batch.changes ≡ b
              → cond b (option_map (released (Some base) commit) (change_back events c)) (change_back events c) ≡ change_back (did (Other (Base base)) ∷ events) c
          each c true is true there = (λ i. option_map (λ change. cond (is i) (landed change) (with_landing false change)) (change_back events c)) ∙ come_in c ∙ sym (rest c true true is there)
          each c false is true there = (λ i. option_map (λ change. cond (is i) (landed change) (with_landing false change)) (change_back events c)) ∙ spared c ∙ sym (rest c false true is there)
          each c true is false there = outside c (landing_members events batch commit c at all members ∙ there) ∙ sym (rest c true false is there)
          each c false is false there = outside c (landing_members events batch commit c at all members ∙ there) ∙ sym (rest c false false is there)
    by at is = none_landed base (λ n. all n ∙ none_lands n (Some batch) (ap is_landing is))

  -- a refusal of the batch that is landing
  refused_look : (batch : Batch) (commit : List ℕ) → batch.stage ≡ stage.Landing commit → Lands events (Some batch) → Members events (Some batch)
      → look (all_altered (released None commit) desk batch.changes) ≡ look_back (did (Other (Refused batch.number)) ∷ events)
  refused_look batch commit at all members =
      released_look None batch commit (did (Other (Refused batch.number)) ∷ events) (look (all_altered (released None commit) desk batch.changes)) each refl where
        rest : (c : ℕ) → change_back (did (Other (Refused batch.number)) ∷ events) c ≡ change_after events c (record (rest_back events c) { landing = false }) None
        rest c = λ i. change_after events c (record (rest_back events c) { landing = not_landing_back (did (Other (Refused batch.number)) ∷ events) c (refused_ends events batch all) i }) None

        each : (c : ℕ) (b : Bool) → list_any (eqb c) batch.changes ≡ b
            → cond b (option_map (released None commit) (change_back events c)) (change_back events c) ≡ change_back (did (Other (Refused batch.number)) ∷ events) c
        each c true there = spared c ∙ sym (rest c)
        each c false there = outside c (landing_members events batch commit c at all members ∙ there) ∙ sym (rest c)

  pub refusal_look : (number : ℕ) (running : Option Batch) → option_map_or (λ (batch : Batch). eqb number batch.number && is_landing batch.stage) running false ≡ true → Lands events running → Members events running
      → look (released_on None desk running) ≡ look_back (did (Other (Refused number)) ∷ events)
  refusal_look number None there all members = cc there
  refusal_look number (Some batch) there all members = by (eqb number batch.number) refl batch.stage refl there where
    by : (b : Bool) → eqb number batch.number ≡ b → (at : StageOf) → batch.stage ≡ at → (b && is_landing at) ≡ true
        → look (released_at None desk batch.changes at) ≡ look_back (did (Other (Refused number)) ∷ events)
    by true is (stage.Landing commit) at so =
        refused_look batch commit at all members ∙ ap (λ n. look_back (did (Other (Refused n)) ∷ events)) (sym ((Decides-eqb number batch.number).0 is))
    by b is at is' so = cc so

-- ANY DEED ON A CHANGE
pub about_look : (desk : DeskView) (events : List Event) (n : ℕ) (deed : Deed) → look desk ≡ look_back events → ((c : ℕ) → Unseen events c) → broken (look_back events) (On n deed) ≡ None
    → look (effect desk n deed) ≡ look_back (did (On n deed) ∷ events)
about_look desk events n (Said p (Known Approve)) same unseen holds =
    altered_next desk events n (approved_by (p ∷ []) repeat.Approve) (Said p (Known Approve)) same (λ c is. approve_next events c p (fits events p n Approve holds c is))
about_look desk events n (Said p (Known (ApproveFor names))) same unseen holds =
    altered_next desk events n (approved_by names (repeat.ApproveFor names)) (Said p (Known (ApproveFor names))) same (λ c is. approve_for_next events c p names (fits events p n (ApproveFor names) holds c is))
about_look desk events n (Said p (Known Withdraw)) same unseen holds = altered_next desk events n without_approval (Said p (Known Withdraw)) same (λ c is. withdraw_next events c p)
about_look desk events n (Said p (Known (Priority priority))) same unseen holds = altered_next desk events n (with_priority priority) (Said p (Known (Priority priority))) same (λ c is. priority_next events c p priority)
about_look desk events n (Said p (Known DelegateAuthor)) same unseen holds = altered_next desk events n with_author_as_delegate (Said p (Known DelegateAuthor)) same (λ c is. author_next events c p)
about_look desk events n (Said p (Known (DelegateTo names))) same unseen holds = altered_next desk events n (with_delegates names) (Said p (Known (DelegateTo names))) same (λ c is. names_next events c p names)
about_look desk events n (Said p (Known DelegateNone)) same unseen holds = altered_next desk events n without_delegates (Said p (Known DelegateNone)) same (λ c is. none_next events c p)
about_look desk events n (Said p (Known Try)) same unseen holds =
    altered_next desk events n with_try (Said p (Known Try)) same (λ c is. try_next events c p (tried_here events p n Try holds c is))
about_look desk events n (Said p (Known TryCancel)) same unseen holds = altered_next desk events n without_try (Said p (Known TryCancel)) same (λ c is. try_cancel_next events c p)
about_look desk events n (Happened (Opened author head)) same unseen holds =
    opening_next desk events n author head same (λ c is. opened_next events c author head (unseen c) (shut events n author head unseen holds c is) (fresh events n author head unseen holds c is))
about_look desk events n (Happened (Pushed head)) same unseen holds =
    altered_next desk events n (pushed head) (Happened (Pushed head)) same (λ c is. pushed_next events c head)
about_look desk events n (Happened Closed) same unseen holds =
    altered_next desk events n closed (Happened Closed) same (λ c is. closed_next events c (still_here events n holds c is))
about_look desk events n (Happened (Labeled label)) same unseen holds =
    ap (λ (l : Look). look (altered desk n (labeled l.settings label))) same
    ∙ altered_next desk events n (labeled (settings_back events) label) (Happened (Labeled label)) same (λ c is. labeled_next events c label)
about_look desk events n (Happened (Unlabeled label)) same unseen holds = altered_next desk events n (without_label label) (Happened (Unlabeled label)) same (λ c is. unlabeled_next events c label)
about_look desk events n (Happened (Review person head approves)) same unseen holds =
    ap (λ (l : Look). look (altered desk n (reviewed l.settings person approves))) same
    ∙ altered_next desk events n (reviewed (settings_back events) person approves) (Happened (Review person head approves)) same (λ c is. reviewed_next events c person head approves)
about_look desk events n deed same unseen holds = quiet_next desk events n deed same (λ c is. quiet_line events c deed refl (λ author. refl) (stays events c deed refl refl (λ fit. fit)))

-- and its notices
pub about_mild : (desk : DeskView) (events : List Event) (n : ℕ) (deed : Deed) → AreMild events (notices desk n deed)
about_mild desk events n (Happened (Pushed head)) = notice_mild events _ n why.Pushed refl refl
about_mild desk events n (Happened Closed) = notice_mild events _ n why.Closed refl refl
about_mild desk events n (Happened (Labeled label)) = notice_mild events _ n why.Labeled refl refl
about_mild desk events n (Happened (Review person head approves)) = notice_mild events _ n why.Reviews refl refl
about_mild desk events n deed = tt
