-- THE DESK as finite maps, what each setter does to it, and how the rules see it.
use Rattle.std.specs.Prelude.{◌≡◌, ℕ, ◌==◌, Bool, true, false, ◌&&◌, List, [], ◌∷◌, Option, Some, None, IfSome, if◌then◌else◌}
use Rattle.std.specs.Ordering.{nat_cmp}
use Rattle.std.specs.Cmp.Lexicographic.{slice_cmp}
use Rattle.std.specs.FinMap as map
use Rattle.std.specs.FinSet as set
use Rattle.std.specs.FinMap.{FinMap}
use Rattle.std.specs.List.{list_any}
use Rattle.std.specs.Option.{option_map_or, unwrap_or}
use Rattle.std.specs.Str.{bytes_eq}
use Rattle.gate_text.specs.Settings.{SettingsView}
use Rattle.gate_rules.specs.declared.change.Change.{Change}
use Rattle.gate_rules.specs.declared.role.Role.{Role}
use Rattle.gate_rules.specs.declared.role.Role.TheVariants.{Nobody}
use Rattle.gate_text.specs.Finite.{mapped_values}
use Rattle.gate_rules.specs.Rules.{Look, is_member, is_open_phase}

-- A role `Nobody` is no entry.
pub record DeskView : Type 0 where
  pub roles : FinMap (slice_cmp nat_cmp) Role
  pub changes : FinMap nat_cmp Change
  pub settings : Option SettingsView
  pub base : Option (List ℕ)
  pub clock : ℕ

abbrev pub AreMembers : FinMap (slice_cmp nat_cmp) Role → Type 0
AreMembers roles = (person : List ℕ) → IfSome (map.get roles person) (λ role. is_member role ≡ true)

abbrev pub empty_desk : DeskView
empty_desk = record { roles = map.empty; changes = map.empty; settings = None; base = None; clock = 0 }

abbrev pub role_on : DeskView → List ℕ → Role
role_on desk person = unwrap_or (map.get desk.roles person) Nobody

-- the roles after one is set; `Nobody` takes the entry away
abbrev pub roles_with : FinMap (slice_cmp nat_cmp) Role → List ℕ → Role → FinMap (slice_cmp nat_cmp) Role
roles_with roles person role = if is_member role then map.insert roles person role else map.remove roles person

abbrev pub with_role : DeskView → List ℕ → Role → DeskView
with_role desk person role = record desk { roles = roles_with desk.roles person role }

abbrev pub with_change : DeskView → ℕ → Change → DeskView
with_change desk number change = record desk { changes = map.insert desk.changes number change }

abbrev pub with_settings : DeskView → SettingsView → DeskView
with_settings desk settings = record desk { settings = Some settings }

abbrev pub with_base : DeskView → List ℕ → DeskView
with_base desk base = record desk { base = Some base }

abbrev pub with_clock : DeskView → ℕ → DeskView
with_clock desk now = record desk { clock = now }

-- whether the settings require a status of this name
abbrev pub is_required : Option SettingsView → List ℕ → Bool
is_required settings name = option_map_or (λ (s : SettingsView). list_any (bytes_eq name) s.status) settings false

-- THE OPEN CHANGES AT A HEAD
abbrev pub is_open_at : List ℕ → Change → Bool
is_open_at head change = is_open_phase change.phase && bytes_eq head change.head

-- whether an open change has this head
abbrev pub is_open_head : List ℕ → DeskView → Bool
is_open_head head desk = list_any (λ (entry : ℕ × Change). is_open_at head entry.1) (map.entries desk.changes)

-- whether these are the numbers of the open changes that have it
abbrev pub AreOpenAt : List ℕ → DeskView → List ℕ → Type 0
AreOpenAt head desk numbers = (number : ℕ) → list_any (λ other. number == other) numbers ≡ option_map_or (is_open_at head) (map.get desk.changes number) false

-- A status of the head of a change: a success puts its name among those that have succeeded there, and all else takes it away.
abbrev pub with_status : List ℕ → Bool → Change → Change
with_status name success change = record change { passed = if success then set.insert change.passed name else set.remove change.passed name }

abbrev pub told_at : List ℕ → List ℕ → Bool → Change → Change
told_at head name success change = if is_open_at head change then with_status name success change else change

abbrev pub with_told : List ℕ → List ℕ → Bool → DeskView → DeskView
with_told head name success desk = record desk { changes = mapped_values (told_at head name success) desk.changes }

-- THE CHANGES THAT MEET A CONDITION
abbrev pub without_approval : Change → Change
without_approval change = record change { approved = None }

abbrev pub ended_if : (Change → Bool) → Change → Change
ended_if meets change = if meets change then without_approval change else change

-- their numbers, upwards
abbrev pub numbers_in : (Change → Bool) → List (ℕ × Change) → List ℕ
numbers_in meets [] = []
numbers_in meets (entry ∷ entries) = if meets entry.1 then entry.0 ∷ numbers_in meets entries else numbers_in meets entries

abbrev pub numbers_where : (Change → Bool) → DeskView → List ℕ
numbers_where meets desk = numbers_in meets (map.entries desk.changes)

-- the desk without their approvals
abbrev pub with_ended : (Change → Bool) → DeskView → DeskView
with_ended meets desk = record desk { changes = mapped_values (ended_if meets) desk.changes }

-- WHAT THE RULES READ of it
abbrev pub look : DeskView → Look
look desk = record { role = role_on desk; change = λ number. map.get desk.changes number; settings = desk.settings; base = desk.base; clock = desk.clock }

-- A change was altered in place: `run` says what the alteration answers of the change before it, and which change it leaves.
abbrev pub AltersOne : {T : Type 0} → (Change → T → Change → Type 0) → ℕ → DeskView → Option Change → Option T → DeskView → Type 0
AltersOne run number desk None None after = after ≡ desk
AltersOne run number desk (Some change) (Some answer) after = (altered : Change) × run change answer altered × (after ≡ with_change desk number altered)
AltersOne run number desk None (Some answer) after = ⊥
AltersOne run number desk (Some change) None after = ⊥

-- An alteration that leaves the head of a change, and leaves it open if it was; and one after which it isn't open.
abbrev pub KeepsHead : {T : Type 0} → (Change → T → Change → Type 0) → Type 0
KeepsHead {T} run = (change : Change) (answer : T) (altered : Change) → run change answer altered → (altered.head ≡ change.head) × (is_open_phase altered.phase ≡ is_open_phase change.phase)

abbrev pub Shuts : {T : Type 0} → (Change → T → Change → Type 0) → Type 0
Shuts {T} run = (change : Change) (answer : T) (altered : Change) → run change answer altered → is_open_phase altered.phase ≡ false

abbrev pub Alters : {T : Type 0} → (Change → T → Change → Type 0) → ℕ → DeskView → Option T → DeskView → Type 0
Alters run number desk answer after = AltersOne run number desk (map.get desk.changes number) answer after
