-- Worked states: what endings, work and finding come to on a short queue. Each is computed.
use Rattle.std.proofs.Common.{◌≡◌, ℕ, pos, true, false, List, [], ◌∷◌, Some, None, is_some, refl, arith}
use Rattle.std.specs.Cmp.{signed_Decides}
use Rattle.std.specs.FinMap as finite
use Rattle.gate_rules.specs.View.{empty_desk, with_base}
use Rattle.gate_state.specs.Lanes.{empty_lane, fresh, first_half, retried, second_half}
use Rattle.gate_state.specs.declared.batch.Stage.TheVariants.{Ordered, Landing}
use Rattle.gate_queue.specs.Machine.{after, denial, with_priority}
use Rattle.gate_queue.specs.Vocabulary.{Act, Base, Batch, Change, Command, Conflict, DeskView, Known, Lane, On, Other, Ping, Priority, Rule, Said, State, Tick}
use Rattle.gate_queue.proofs.Changes.{altered_here}
use Rattle.gate_progress.specs.Coming.{endings, lands, queues_none_above, work_before, work_of}
use Rattle.gate_progress.specs.Finding.{finds, work_until}

abbrev alice : List ℕ
alice = 97 ∷ 108 ∷ []

abbrev carol : List ℕ
carol = 99 ∷ []

abbrev a : List ℕ
a = 10 ∷ []

-- A batch of three runs, which the host is to stage; then come one that was retried, and a fresh one.
abbrev runs : Batch
runs = record (fresh 3 (pos 0) 1) { stage = Ordered 7; changes = 1 ∷ 2 ∷ 3 ∷ [] }

abbrev again : Batch
again = retried 5 (record (fresh 2 (pos 0) 4) { changes = 4 ∷ 5 ∷ [] })

abbrev newest : Batch
newest = fresh 6 (pos 0) 6

abbrev lane : Lane
lane = record { running = Some runs; waiting = again ∷ newest ∷ [] }

abbrev on : DeskView → Lane → State
on desk staging = record { desk = desk; queue = record { staging = staging; trying = empty_lane; next = 7 } }

works : (work_of runs ≡ 5) × (work_of newest ≡ 1)
works = (refl, refl)

-- The one that runs counts, whatever it is, and of those that wait those before it.
works_before : (work_before again lane ≡ 5) × (work_before newest lane ≡ 8) × (work_until 1 runs (on empty_desk lane) ≡ 8)
works_before = (refl, refl, refl)

-- It conflicts: the halves are retried, and go behind the one that was. A tick starts that one.
failed : (endings (on empty_desk lane) (Other (Conflict 3) ∷ Other (Tick 9) ∷ []) ≡ 1)
    × ((after (on empty_desk lane) (Other (Conflict 3))).queue.staging
    ≡ record { running = None; waiting = again ∷ retried 7 (first_half runs) ∷ retried 8 (second_half runs) ∷ newest ∷ [] })
    × (work_before again (after (on empty_desk lane) (Other (Conflict 3))).queue.staging ≡ 0)
    × (work_before newest (after (on empty_desk lane) (Other (Conflict 3))).queue.staging ≡ 7)
failed = (refl, refl, refl, refl)

-- A change is found if its batch has no other.
found : (finds 1 (on empty_desk lane) (Other (Conflict 3)) ≡ false)
    × (finds 6 (on empty_desk (record { running = Some (record newest { stage = Ordered 7 }); waiting = [] })) (Other (Conflict 6)) ≡ true)
    × (finds 6 (on empty_desk (record { running = Some (record newest { stage = Ordered 7 }); waiting = [] })) (Other (Conflict 3)) ≡ false)
found = (refl, refl, refl)

-- A base is a landing if it is new, and the commit that is to land.
abbrev landing : Lane
landing = record { running = Some (record newest { stage = Landing a }); waiting = [] }

landed : (lands (on empty_desk landing) (Other (Base a)) ≡ true) × (lands (on empty_desk landing) (Other (Base carol)) ≡ false)
    × (lands (on (with_base empty_desk a) landing) (Other (Base a)) ≡ false) × (lands (on empty_desk lane) (Other (Base a)) ≡ false)
landed = (refl, refl, refl, refl)

-- A change that is approved under 0 comes above 0 by another priority, but not above that one. What a rule denies, and a `ping`, brings
-- nothing anywhere.
module _ (desk : DeskView) (change : Change) (there : finite.get desk.changes 6 ≡ Some change) (approved : is_some change.approved ≡ true)
    (low : change.priority ≡ pos 0) where
  abbrev says : Command → Act
  says command = On 6 (Said alice (Known command))

  raised : denial (on desk lane) (says (Priority (pos 5))) ≡ None
      → (queues_none_above (pos 0) (on desk lane) (says (Priority (pos 5))) ≡ false)
      × (queues_none_above (pos 5) (on desk lane) (says (Priority (pos 5))) ≡ true)
  raised allowed = let at = altered_here desk 6 (with_priority (pos 5)) in (grind arith, grind arith)

  denied : (rule : Rule) → denial (on desk lane) (says (Priority (pos 5))) ≡ Some rule
      → queues_none_above (pos 0) (on desk lane) (says (Priority (pos 5))) ≡ true
  denied rule so = let same = (signed_Decides (pos 0) (pos 0)).1 refl in grind arith

  pinged : queues_none_above (pos 0) (on desk lane) (says Ping) ≡ true
  pinged = let same = (signed_Decides (pos 0) (pos 0)).1 refl in grind arith
