-- WHAT WAS BEFORE some acts: the parts of a state that they may have changed, as they were.
use Rattle.std.specs.Prelude.{◌≡◌, ◌⊎◌, ◌<◌, ◌≤◌, ℕ, nat_lt, true, List, Option, Some, None, is_some, if◌then◌else◌}
use Rattle.std.specs.Cmp.Lexicographic.{slice_cmp}
use Rattle.std.specs.FinMap as finite
use Rattle.std.specs.FinMap.{FinMap}
use Rattle.std.specs.Option.{option_or}
use Rattle.std.specs.Ordering.{nat_cmp}
use Rattle.std.specs.declared.cmp.Ordering.{Ordering}
use Rattle.gate_queue.specs.MayChange.{Parts}
use Rattle.gate_queue.specs.Vocabulary.{SettingsView, Change, RoleOf, State}
use Rattle.gate_state.specs.Queue.{batch_numbered}
use Rattle.gate_state.specs.declared.batch.Batch.{Batch}

-- PARTS THAT WERE NOTED. Under a name or a number stands what there was; `None` there says that there was nothing. Base, clock and
-- next number are always noted.
pub record Noted : Type 0 where
  pub people : FinMap (slice_cmp nat_cmp) (Option RoleOf)
  pub changes : FinMap nat_cmp (Option Change)
  pub batches : FinMap nat_cmp (Option Batch)
  pub settings : Option (Option SettingsView)
  pub base : Option (List ℕ)
  pub clock : ℕ
  pub next : ℕ

-- nothing but these three
abbrev pub nothing_of : State → Noted
nothing_of s = record {
  people = finite.empty;
  changes = finite.empty;
  batches = finite.empty;
  settings = None;
  base = s.desk.base;
  clock = s.desk.clock;
  next = s.queue.next;
}

-- What is noted is as it was. What isn't noted is now as it was.
abbrev pub Tells : {X : Type 0} → Option X → X → X → Type 0
Tells (Some noted) old new = noted ≡ old
Tells None old new = new ≡ old

-- Of an old state and a new one this was before. Batches under the old next number and above are new, and aren't noted.
pub record IsBefore (before : Noted) (old new : State) : Type 0 where
  pub people : (name : List ℕ) → Tells (finite.get before.people name) (finite.get old.desk.roles name) (finite.get new.desk.roles name)
  pub changes : (number : ℕ) → Tells (finite.get before.changes number) (finite.get old.desk.changes number) (finite.get new.desk.changes number)
  pub batches : (number : ℕ) → number < old.queue.next → Tells (finite.get before.batches number) (batch_numbered number old.queue) (batch_numbered number new.queue)
  pub new_batches : (number : ℕ) → old.queue.next ≤ number → finite.get before.batches number ≡ None
  pub settings : Tells before.settings old.desk.settings new.desk.settings
  pub base : before.base ≡ old.desk.base
  pub clock : before.clock ≡ old.desk.clock
  pub next : before.next ≡ old.queue.next
  pub rises : old.queue.next ≤ new.queue.next

-- For private clauses: MORE WAS NOTED of a state. What was noted stays, and what is noted since then is as it is in the state.
abbrev pub Adds : {X : Type 0} → Option X → Option X → X → Type 0
Adds (Some noted) after now = after ≡ Some noted
Adds None after now = (after ≡ None) ⊎ (after ≡ Some now)

pub record NotesMore (s : State) (before after : Noted) : Type 0 where
  pub people : (name : List ℕ) → Adds (finite.get before.people name) (finite.get after.people name) (finite.get s.desk.roles name)
  pub changes : (number : ℕ) → Adds (finite.get before.changes number) (finite.get after.changes number) (finite.get s.desk.changes number)
  pub batches : (number : ℕ) → number < before.next → Adds (finite.get before.batches number) (finite.get after.batches number) (batch_numbered number s.queue)
  pub new_batches : (number : ℕ) → before.next ≤ number → finite.get after.batches number ≡ finite.get before.batches number
  pub settings : Adds before.settings after.settings s.desk.settings
  pub base : after.base ≡ before.base
  pub clock : after.clock ≡ before.clock
  pub next : after.next ≡ before.next

-- These parts are noted.
pub record HasNoted (may : Parts) (before : Noted) : Type 0 where
  pub people : (name : List ℕ) → may.person name ≡ true → is_some (finite.get before.people name) ≡ true
  pub changes : (number : ℕ) → may.change number ≡ true → is_some (finite.get before.changes number) ≡ true
  pub batches : (number : ℕ) → number < before.next → may.batch number ≡ true → is_some (finite.get before.batches number) ≡ true
  pub settings : may.settings ≡ true → is_some before.settings ≡ true

-- what is noted under a name or a number, unless something is
abbrev pub noted_under : {K V : Type 0} {cmp : K → K → Ordering} → FinMap cmp V → K → V → FinMap cmp V
noted_under map key now = if is_some (finite.get map key) then map else finite.insert map key now

abbrev pub with_person : List ℕ → State → Noted → Noted
with_person name s before = record before { people = noted_under before.people name (finite.get s.desk.roles name) }

abbrev pub with_change : ℕ → State → Noted → Noted
with_change number s before = record before { changes = noted_under before.changes number (finite.get s.desk.changes number) }

abbrev pub with_batch : ℕ → State → Noted → Noted
with_batch number s before =
    if nat_lt number before.next then record before { batches = noted_under before.batches number (batch_numbered number s.queue) } else before

abbrev pub with_settings : State → Noted → Noted
with_settings s before = record before { settings = option_or before.settings (Some s.desk.settings) }
