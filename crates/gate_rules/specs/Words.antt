-- The number and the name of each rule, and the name of each level and of each role; and the rule, the level and the role of a name.
use Rattle.std.specs.Prelude.{ℕ, List, [], ◌∷◌, Option, codes}
use Rattle.std.specs.List.{find}
use Rattle.std.specs.Str.{bytes_eq}
use Rattle.gate_rules.specs.declared.role.Level.{Level}
use Rattle.gate_rules.specs.declared.role.Level.TheVariants.{Anyone, Member, MemberOrDelegate, ReviewerOrDelegate, Reviewer}
use Rattle.gate_rules.specs.declared.role.Role.{Role}
use Rattle.gate_rules.specs.declared.role.Role.TheVariants as role
use Rattle.gate_rules.specs.declared.rule.Rule.{Rule}
use Rattle.gate_rules.specs.declared.rule.Rule.TheVariants.{UnknownChange, NotACommand, NotPermitted, NotOpen, NothingToRetry, Landing, NoSettings, NoBase, AlreadyApproved, NotApproved, AlreadyTrying, NotTrying, Blocked, TooFewReviews, AlreadyOpen, ChangeLanded, StaleHead, NotMember, OwnChange, BadSettings, ClockBack, NoSuchBatch, SameAsBase, HeadStatus}

abbrev pub number_of : Rule → ℕ
number_of UnknownChange = 1
number_of NotACommand = 2
number_of (NotPermitted level) = 3
number_of NotOpen = 4
number_of NothingToRetry = 5
number_of Landing = 6
number_of NoSettings = 7
number_of NoBase = 8
number_of AlreadyApproved = 9
number_of NotApproved = 9
number_of AlreadyTrying = 9
number_of NotTrying = 9
number_of (Blocked label) = 10
number_of (TooFewReviews have need) = 11
number_of AlreadyOpen = 12
number_of ChangeLanded = 13
number_of StaleHead = 14
number_of NotMember = 15
number_of OwnChange = 16
number_of (BadSettings refusal) = 17
number_of ClockBack = 18
number_of NoSuchBatch = 19
number_of SameAsBase = 20
number_of (HeadStatus name) = 21

abbrev pub word_of : Rule → List ℕ
word_of UnknownChange = codes "UnknownChange"
word_of NotACommand = codes "NotACommand"
word_of (NotPermitted level) = codes "NotPermitted"
word_of NotOpen = codes "NotOpen"
word_of NothingToRetry = codes "NothingToRetry"
word_of Landing = codes "Landing"
word_of NoSettings = codes "NoSettings"
word_of NoBase = codes "NoBase"
word_of AlreadyApproved = codes "AlreadyApproved"
word_of NotApproved = codes "NotApproved"
word_of AlreadyTrying = codes "AlreadyTrying"
word_of NotTrying = codes "NotTrying"
word_of (Blocked label) = codes "Blocked"
word_of (TooFewReviews have need) = codes "TooFewReviews"
word_of AlreadyOpen = codes "AlreadyOpen"
word_of ChangeLanded = codes "ChangeLanded"
word_of StaleHead = codes "StaleHead"
word_of NotMember = codes "NotMember"
word_of OwnChange = codes "OwnChange"
word_of (BadSettings refusal) = codes "BadSettings"
word_of ClockBack = codes "ClockBack"
word_of NoSuchBatch = codes "NoSuchBatch"
word_of SameAsBase = codes "SameAsBase"
word_of (HeadStatus name) = codes "HeadStatus"

abbrev pub level_word_of : Level → List ℕ
level_word_of Anyone = codes "Anyone"
level_word_of Member = codes "Member"
level_word_of MemberOrDelegate = codes "MemberOrDelegate"
level_word_of ReviewerOrDelegate = codes "ReviewerOrDelegate"
level_word_of Reviewer = codes "Reviewer"

-- the level of this name
abbrev pub level_called : List ℕ → Option Level
level_called word = find (λ level. bytes_eq word (level_word_of level)) (Anyone ∷ Member ∷ MemberOrDelegate ∷ ReviewerOrDelegate ∷ Reviewer ∷ [])

-- the rule of this name, of those that tell no more than their number and name
abbrev pub rule_called : List ℕ → Option Rule
rule_called word = find (λ rule. bytes_eq word (word_of rule)) (
    UnknownChange ∷ NotACommand ∷ NotOpen ∷ NothingToRetry ∷ Landing ∷ NoSettings ∷ NoBase ∷ AlreadyApproved ∷ NotApproved
    ∷ AlreadyTrying ∷ NotTrying ∷ AlreadyOpen ∷ ChangeLanded ∷ StaleHead ∷ NotMember ∷ OwnChange ∷ ClockBack ∷ NoSuchBatch ∷ SameAsBase ∷ [])

abbrev pub role_word_of : Role → List ℕ
role_word_of role.Nobody = codes "nobody"
role_word_of role.Member = codes "member"
role_word_of role.Reviewer = codes "reviewer"

abbrev pub role_called : List ℕ → Option Role
role_called word = find (λ role. bytes_eq word (role_word_of role)) (role.Nobody ∷ role.Member ∷ role.Reviewer ∷ [])
