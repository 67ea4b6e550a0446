-- THE RULES. They are stated once, over what a `Look` shows, and read on the desk and on the history alike.
use Rattle.std.specs.Prelude.{ℕ, nat_lt, Bool, true, false, not, ◌&&◌, ◌||◌, ⊤, List, [], ◌∷◌, Option, Some, None, is_some}
use Rattle.std.specs.Cmp.Lexicographic.{slice_cmp}
use Rattle.std.specs.FinSet as set
use Rattle.std.specs.FinSet.{FinSet}
use Rattle.std.specs.List.{find}
use Rattle.std.specs.Option.{option_map, option_map_or, option_and_then}
use Rattle.std.specs.Ordering.{nat_cmp}
use Rattle.gate_text.specs.declared.command.Command.{Command}
use Rattle.gate_text.specs.declared.command.Command.TheVariants.{Ping, Approve, ApproveFor, Withdraw, Priority, Try, TryCancel, DelegateAuthor, DelegateTo, DelegateNone, Retry}
use Rattle.gate_text.specs.declared.command.Spoken.{Spoken}
use Rattle.gate_text.specs.declared.command.Spoken.TheVariants.{Known, Unknown}
use Rattle.gate_text.specs.Settings.{SettingsView}
use Rattle.gate_rules.specs.declared.change.Change.{Change}
use Rattle.gate_rules.specs.declared.change.Phase.{Phase}
use Rattle.gate_rules.specs.declared.change.Phase.TheVariants.{Opened, Closed, Landed}
use Rattle.gate_rules.specs.declared.change.Repeat.{Repeat}
use Rattle.gate_rules.specs.declared.change.Repeat.TheVariants as repeat
use Rattle.gate_rules.specs.declared.role.Role.{Role}
use Rattle.gate_rules.specs.declared.role.Role.TheVariants as role
use Rattle.gate_rules.specs.declared.role.Level.{Level}
use Rattle.gate_rules.specs.declared.role.Level.TheVariants as level
use Rattle.gate_rules.specs.declared.rule.Rule.{Rule}
use Rattle.gate_rules.specs.declared.rule.Rule.TheVariants.{UnknownChange, NotACommand, NotPermitted, NotOpen, NothingToRetry, Landing, NoSettings, NoBase, AlreadyApproved, NotApproved, AlreadyTrying, NotTrying, Blocked, TooFewReviews, HeadStatus}

-- WHAT THE RULES READ: roles, the changes that were opened, the settings and the base, if there are any, and the clock
pub record Look : Type 0 where
  pub role : List ℕ → Role
  pub change : ℕ → Option Change
  pub settings : Option SettingsView
  pub base : Option (List ℕ)
  pub clock : ℕ

-- LEVELS
abbrev pub is_member : Role → Bool
is_member role.Nobody = false
is_member role.Member = true
is_member role.Reviewer = true

abbrev pub is_reviewer : Role → Bool
is_reviewer role.Nobody = false
is_reviewer role.Member = false
is_reviewer role.Reviewer = true

-- whether someone of this role, who is a delegate of the change or isn't, has the level
abbrev pub admits : Level → Role → Bool → Bool
admits level.Anyone role delegate = true
admits level.Member role delegate = is_member role
admits level.MemberOrDelegate role delegate = is_member role || delegate
admits level.ReviewerOrDelegate role delegate = is_reviewer role || delegate
admits level.Reviewer role delegate = is_reviewer role

-- what `retry` repeats on a change: the last command that it may repeat, if there was one
abbrev pub last_command : Look → ℕ → Option Repeat
last_command s change = option_and_then (λ c. c.last) (s.change change)

-- the level that `retry` needs: that of the command which it repeats
abbrev pub need_of_retry : Option Repeat → Level
need_of_retry None = level.Member
need_of_retry (Some repeat.Approve) = level.ReviewerOrDelegate
need_of_retry (Some (repeat.ApproveFor names)) = level.ReviewerOrDelegate
need_of_retry (Some repeat.Try) = level.MemberOrDelegate

-- the level that a command on a change needs
abbrev pub need : Look → ℕ → Command → Level
need s change Ping = level.Anyone
need s change Approve = level.ReviewerOrDelegate
need s change (ApproveFor names) = level.ReviewerOrDelegate
need s change Withdraw = level.ReviewerOrDelegate
need s change (Priority priority) = level.ReviewerOrDelegate
need s change Try = level.MemberOrDelegate
need s change TryCancel = level.MemberOrDelegate
need s change DelegateAuthor = level.Reviewer
need s change (DelegateTo names) = level.Reviewer
need s change DelegateNone = level.Reviewer
need s change Retry = need_of_retry (last_command s change)

abbrev pub is_delegate : Look → ℕ → List ℕ → Bool
is_delegate s change person = option_map_or (λ c. set.contains c.delegates person) (s.change change) false

abbrev pub permits : Look → List ℕ → ℕ → Command → Bool
permits s person change command = admits (need s change command) (s.role person) (is_delegate s change person)

-- THE TESTS OF THE RULES
abbrev pub is_known : Look → ℕ → Bool
is_known s change = is_some (s.change change)

abbrev pub is_open_phase : Phase → Bool
is_open_phase Opened = true
is_open_phase Closed = false
is_open_phase Landed = false

abbrev pub is_open : Look → ℕ → Bool
is_open s change = option_map_or (λ c. is_open_phase c.phase) (s.change change) false

abbrev pub is_approved : Look → ℕ → Bool
is_approved s change = option_map_or (λ c. is_some c.approved) (s.change change) false

abbrev pub is_trying : Look → ℕ → Bool
is_trying s change = option_map_or (λ c. c.trying) (s.change change) false

abbrev pub is_landing : Look → ℕ → Bool
is_landing s change = option_map_or (λ c. c.landing) (s.change change) false

abbrev pub is_landed_phase : Phase → Bool
is_landed_phase Opened = false
is_landed_phase Closed = false
is_landed_phase Landed = true

abbrev pub is_landed : Look → ℕ → Bool
is_landed s change = option_map_or (λ c. is_landed_phase c.phase) (s.change change) false

abbrev pub has_settings : Look → Bool
has_settings s = is_some s.settings

abbrev pub has_base : Look → Bool
has_base s = is_some s.base

-- sets of texts: of the labels of a change, of the people who have reviewed it, or of the statuses that have succeeded on its head
abbrev pub Texts : Type 0
Texts = FinSet (slice_cmp nat_cmp)

-- the first of the blocking labels, in the order of the settings, that is among the labels of a change
abbrev pub blocking_label : SettingsView → Texts → Option (List ℕ)
blocking_label settings labels = find (λ label. set.contains labels label) settings.block_labels

abbrev pub is_blocked : SettingsView → Texts → Bool
is_blocked settings labels = is_some (blocking_label settings labels)

-- the first of the statuses that the settings want on the head of a change, in their order, that hasn't succeeded there
abbrev pub missing_status : SettingsView → Texts → Option (List ℕ)
missing_status settings passed = find (λ name. not (set.contains passed name)) settings.pr_status

abbrev pub has_too_few_reviews : SettingsView → Texts → Bool
has_too_few_reviews settings reviews = nat_lt (set.len reviews) settings.required_approvals

-- A change is fit if it is open, settings exist, none of its labels is blocking, and it has reviews enough.
abbrev pub is_fit : Option SettingsView → Phase → Texts → Texts → Bool
is_fit None phase labels reviews = false
is_fit (Some settings) phase labels reviews = is_open_phase phase && (not (is_blocked settings labels) && not (has_too_few_reviews settings reviews))

-- THE ROWS
-- the rule if its test fails, and nothing if it holds
abbrev pub asks : Bool → Rule → Option Rule
asks true rule = None
asks false rule = Some rule

-- the rule on the labels of a change, on the statuses of its head, and on its reviews
abbrev pub blocked_rule : SettingsView → Change → Option Rule
blocked_rule settings change = option_map Blocked (blocking_label settings change.labels)

abbrev pub head_status_rule : SettingsView → Change → Option Rule
head_status_rule settings change = option_map HeadStatus (missing_status settings change.passed)

abbrev pub too_few_rule : SettingsView → Change → Option Rule
too_few_rule settings change = asks (not (has_too_few_reviews settings change.reviews)) (TooFewReviews (set.len change.reviews) settings.required_approvals)

-- the same, if there are settings and the change is known
abbrev pub of_both : (SettingsView → Change → Option Rule) → Option SettingsView → Option Change → Option Rule
of_both rule (Some settings) (Some change) = rule settings change
of_both rule (Some settings) None = None
of_both rule None change = None

-- the rules that all commands but `ping` begin with
abbrev pub begins_with_rules : Look → List ℕ → ℕ → Command → List (Option Rule) → List (Option Rule)
begins_with_rules s person change command others =
    asks (is_known s change) UnknownChange
    ∷ asks (permits s person change command) (NotPermitted (need s change command))
    ∷ asks (is_open s change) NotOpen
    ∷ others

-- and those of a command that ends an approval or alters a priority: an order to land makes both final
abbrev pub unless_landing : Look → List ℕ → ℕ → Command → List (Option Rule) → List (Option Rule)
unless_landing s person change command others = begins_with_rules s person change command (asks (not (is_landing s change)) Landing ∷ others)

-- the rules of an approval, behind those that it begins with
abbrev pub approval_rules : Look → ℕ → List (Option Rule)
approval_rules s change =
    asks (not (is_landing s change)) Landing
    ∷ asks (has_settings s) NoSettings
    ∷ asks (has_base s) NoBase
    ∷ asks (not (is_approved s change)) AlreadyApproved
    ∷ of_both blocked_rule s.settings (s.change change)
    ∷ of_both head_status_rule s.settings (s.change change)
    ∷ of_both too_few_rule s.settings (s.change change)
    ∷ []

-- the rules of a try, behind those that it begins with
abbrev pub try_rules : Look → ℕ → List (Option Rule)
try_rules s change =
    asks (has_settings s) NoSettings
    ∷ asks (has_base s) NoBase
    ∷ asks (not (is_trying s change)) AlreadyTrying
    ∷ []

-- the rules of `retry`, behind those that it begins with: the rules of what it repeats, or `NothingToRetry`
abbrev pub repeated_rules : Look → ℕ → Option Repeat → List (Option Rule)
repeated_rules s change None = Some NothingToRetry ∷ []
repeated_rules s change (Some repeat.Approve) = approval_rules s change
repeated_rules s change (Some (repeat.ApproveFor names)) = approval_rules s change
repeated_rules s change (Some repeat.Try) = try_rules s change

-- the rules of a line that is no command
abbrev pub no_command : Look → ℕ → List (Option Rule)
no_command s change = asks (is_known s change) UnknownChange ∷ Some NotACommand ∷ []

-- what a command on a change is judged by, in order. `retry` begins with rules of its own, whose person is who writes `retry`.
abbrev pub command_row : Look → List ℕ → ℕ → Command → List (Option Rule)
command_row s person change Ping = asks (is_known s change) UnknownChange ∷ []
command_row s person change Approve = begins_with_rules s person change Approve (approval_rules s change)
command_row s person change (ApproveFor names) = begins_with_rules s person change (ApproveFor names) (approval_rules s change)
command_row s person change Withdraw = unless_landing s person change Withdraw (asks (is_approved s change) NotApproved ∷ [])
command_row s person change (Priority priority) = unless_landing s person change (Priority priority) []
command_row s person change Try = begins_with_rules s person change Try (try_rules s change)
command_row s person change TryCancel = begins_with_rules s person change TryCancel (asks (is_trying s change) NotTrying ∷ [])
command_row s person change DelegateAuthor = begins_with_rules s person change DelegateAuthor []
command_row s person change (DelegateTo names) = begins_with_rules s person change (DelegateTo names) []
command_row s person change DelegateNone = begins_with_rules s person change DelegateNone []
command_row s person change Retry = begins_with_rules s person change Retry (repeated_rules s change (last_command s change))

-- what a person's line about a change is judged by
abbrev pub line_row : Look → List ℕ → ℕ → Spoken → List (Option Rule)
line_row s person change (Known command) = command_row s person change command
line_row s person change Unknown = no_command s change

-- the first rule that fails, if one does
abbrev pub first_failing : List (Option Rule) → Option Rule
first_failing [] = None
first_failing (Some rule ∷ rules) = Some rule
first_failing (None ∷ rules) = first_failing rules

-- the rule that denies a line, if one does
abbrev pub line_rule : Look → List ℕ → ℕ → Spoken → Option Rule
line_rule s person change spoken = first_failing (line_row s person change spoken)

-- whether an answer of this rule copies what it names, for which memory may be wanting
abbrev pub MayWantMemory : Option Rule → Type 0
MayWantMemory (Some (Blocked label)) = ⊤
MayWantMemory (Some (HeadStatus name)) = ⊤
MayWantMemory _ = ⊥
