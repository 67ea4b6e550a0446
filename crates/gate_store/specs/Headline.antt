-- THE HEADLINE: over every list of deliveries,
--   1. the answers are the machine's run on the first delivery of each identifier;
--   2. an act is done exactly if no rule fails on the history before it, and else is answered that rule and changes nothing;
--   3. an order to land comes only if the batch is tested, and each of its changes stands and is fit at the head that was staged.
use Rattle.std.specs.Prelude.{◌≡◌, ℕ, ◌||◌, Bool, true, ⊤, List, [], ◌∷◌, map as list_map, Option, Some, None, if◌then◌else◌}
use Rattle.std.specs.List.{All, flat_map}
use Rattle.std.specs.Option.{option_or}
use Rattle.std.specs.Str.{bytes_eq}
use Rattle.gate_rules.specs.declared.rule.Rule.{Rule}
use Rattle.gate_state.specs.declared.act.Act.{Act}
use Rattle.gate_state.specs.declared.reply.Head.{Head}
use Rattle.gate_state.specs.declared.reply.Order.{Order}
use Rattle.gate_state.specs.declared.reply.Order.TheVariants.{Stage, Land, Notice}
use Rattle.gate_state.specs.declared.reply.Reply.{Reply}
use Rattle.gate_state.specs.declared.reply.Reply.TheVariants.{Done, Denied}
use Rattle.gate_queue.specs.History.{Entry, EntryTells, Event, Legal, IsTested, entry_of, events_of, fit_back, head_back, heads_back, is_unmoved, orders_in, rule_back, standing_back}
use Rattle.gate_queue.specs.Machine.{reply_to, after, missing}
use Rattle.gate_state.specs.declared.state.State.{State}
use Rattle.gate_deliveries.specs.Acts.{EventKeepsLimits}
use Rattle.gate_store.specs.Run.{Records, kept_under, is_known, acts_in, replies_to, after_all, answers_to, after_deliveries, NoneMeetsFull}
use Rattle.gate_deliveries.specs.declared.delivery.Delivery.{Delivery}

-- THE FIRST DELIVERY OF EACH IDENTIFIER: none that is known, and none that one before it has
abbrev pub or_same : List ℕ → (List ℕ → Bool) → List ℕ → Bool
or_same id known other = bytes_eq other id || known other

abbrev pub firsts : (List ℕ → Bool) → List Delivery → List Delivery
firsts known [] = []
firsts known (delivery ∷ deliveries) =
    if known delivery.id then firsts known deliveries else delivery ∷ firsts (or_same delivery.id known) deliveries

abbrev pub first_in : Records → List Delivery → List Delivery
first_in records deliveries = firsts (is_known records) deliveries

-- THE MACHINE'S RUN on deliveries: their acts one after the other, and the replies to each
abbrev pub acts_of_all : List Delivery → List Act
acts_of_all deliveries = flat_map acts_in deliveries

abbrev pub run_on : State → List Delivery → List (List Reply)
run_on s [] = []
run_on s (delivery ∷ deliveries) = replies_to s (acts_in delivery) ∷ run_on (after_all s (acts_in delivery)) deliveries

-- EACH ACT, after all acts before it: P holds of the history so far, the state so far and the act.
abbrev pub entry_for : State → Act → Entry
entry_for s act = entry_of act (reply_to s act)

abbrev pub Each : (List Entry → State → Act → Type 0) → List Entry → State → List Act → Type 0
Each P history s [] = ⊤
Each P history s (act ∷ acts) = P history s act × Each P (entry_for s act ∷ history) (after s act) acts

-- the history after acts
abbrev pub history_after : List Entry → State → List Act → List Entry
history_after history s [] = history
history_after history s (act ∷ acts) = history_after (entry_for s act ∷ history) (after s act) acts

-- BY RULE. The first rule that fails is read on the history before the act. One alone is read on the state: news of a batch is
-- denied if no batch is where the news needs it; a status may also be of the head of an open change.
abbrev pub failing : List Entry → State → Act → Option Rule
failing history s act = option_or (missing s act) (rule_back history act)

abbrev pub IsAnswered : Option Rule → State → Act → Type 0
-- none fails: the act is done
IsAnswered None s act = (orders : List Order) × (reply_to s act ≡ Done orders)
-- one fails: the act is answered that rule, and changes nothing
IsAnswered (Some rule) s act = (reply_to s act ≡ Denied rule) × (after s act ≡ s)

abbrev pub ActsByRule : List Entry → State → Act → Type 0
ActsByRule history s act = IsAnswered (failing history s act) s act

-- LANDING. A change of a batch is ready if it stands and is fit, at the head that was staged, which hasn't moved since.
pub record IsReady (events : List Event) (number : ℕ) (staged : Head) : Type 0 where
  pub standing : standing_back events staged.change ≡ true
  pub fit : fit_back events staged.change ≡ true
  pub head : head_back events staged.change ≡ staged.head
  pub unmoved : is_unmoved events number staged ≡ true

-- An order to land is right if the batch is tested for the base and the commit, and each change that it was staged with is ready.
abbrev pub IsRight : List Event → Order → Type 0
IsRight events (Land number base commit) = IsTested events number base commit × All (IsReady events number) (heads_back events number)
IsRight events (Stage number branch base heads) = ⊤
IsRight events (Notice change why) = ⊤

abbrev pub LandsRightly : List Entry → State → Act → Type 0
LandsRightly history s act = All (IsRight (events_of (entry_for s act ∷ history))) (orders_in (reply_to s act))

-- THE THREE SENTENCES, of deliveries that were given these answers, and led from old records to new ones
pub record Headline (old : Records) (deliveries : List Delivery) (answers : List (List Reply)) (new : Records) : Type 0 where
  -- 1. Each delivery, a repeat too, is answered what is kept under its identifier. For the first ones that is the machine's run
  -- on them, which leads from the old state to the new one. What was kept is kept.
  pub answered : list_map Some answers ≡ list_map (λ delivery. kept_under new delivery.id) deliveries
  pub run : list_map (λ delivery. kept_under new delivery.id) (first_in old deliveries) ≡ list_map Some (run_on old.state (first_in old deliveries))
  pub state : new.state ≡ after_all old.state (acts_of_all (first_in old deliveries))
  pub kept : (id : List ℕ) (answer : List Reply) → kept_under old id ≡ Some answer → kept_under new id ≡ Some answer
  -- 2. and 3. After each history that led to the old state, each act of the first deliveries goes by rule and lands rightly.
  pub by_rule : (history : List Entry) → Legal history old.state → Each ActsByRule history old.state (acts_of_all (first_in old deliveries))
  pub lands : (history : List Entry) → Legal history old.state → Each LandsRightly history old.state (acts_of_all (first_in old deliveries))

-- WHAT ELSE THE HISTORY TELLS: each act of the first deliveries adds an entry that tells all that gate_queue says of one, and
-- the history with all of them is legal to the new state.
abbrev pub Tells : List Entry → State → Act → Type 0
Tells history s act = EntryTells history s (entry_for s act) (after s act)

pub record HistoryTells (old : Records) (deliveries : List Delivery) (new : Records) (history : List Entry) : Type 0 where
  pub entries : Each Tells history old.state (acts_of_all (first_in old deliveries))
  pub legal : Legal (history_after history old.state (acts_of_all (first_in old deliveries))) new.state

-- The same whatever history led to the old state: of acts one after the other, and of deliveries.
abbrev pub AllTell : State → List Act → Type 0
AllTell s acts = (history : List Entry) → Legal history s → Each Tells history s acts

abbrev pub HistoriesTell : Records → List Delivery → Records → Type 0
HistoriesTell old deliveries new = (history : List Entry) → Legal history old.state → HistoryTells old deliveries new history

-- EVERY LIST OF DELIVERIES, in the words of the run alone: if none meets a full gate, and each reading of the clock is within its
-- limit, as that of every value of the type `Delivery` is, then their answers and the records after them are told so.
abbrev pub KeepLimits : List Delivery → Type 0
KeepLimits deliveries = All (λ (delivery : Delivery). EventKeepsLimits delivery.event) deliveries

abbrev pub LawOfHeadlines : Type 0
LawOfHeadlines = (old : Records) (deliveries : List Delivery) → KeepLimits deliveries → NoneMeetsFull old deliveries
    → Headline old deliveries (answers_to old deliveries) (after_deliveries old deliveries)

abbrev pub LawOfTelling : Type 0
LawOfTelling = (old : Records) (deliveries : List Delivery) → KeepLimits deliveries → NoneMeetsFull old deliveries
    → (history : List Entry) → Legal history old.state → HistoryTells old deliveries (after_deliveries old deliveries) history
