-- ANSWERS AS TEXTS: the JSON of an answer (RFC 8259), compact, the names of an object in the order of their bytes.
use Rattle.std.specs.Prelude.{ℕ, List, [], ◌∷◌, map, Option, Some, None, codes}
use Rattle.serde_json.specs.Data.{Data, number, unsigned, string, array, object, Members, no_members, member}
use Rattle.serde_json.specs.View.{items_of}
use Rattle.serde_json.specs.Written.{compact_text}
use Rattle.gate_rules.specs.Words.{number_of, word_of, level_word_of}
use Rattle.gate_rules.specs.declared.rule.Rule.{Rule}
use Rattle.gate_rules.specs.declared.rule.Rule.TheVariants.{UnknownChange, NotACommand, NotPermitted, NotOpen, NothingToRetry, Landing, NoSettings, NoBase, AlreadyApproved, NotApproved, AlreadyTrying, NotTrying, Blocked, TooFewReviews, AlreadyOpen, ChangeLanded, StaleHead, NotMember, OwnChange, BadSettings, ClockBack, NoSuchBatch, SameAsBase, HeadStatus}
use Rattle.gate_state.specs.Words.{branch_word_of, why_word_of}
use Rattle.gate_state.specs.declared.reply.Head.{Head}
use Rattle.gate_state.specs.declared.reply.Order.{Order}
use Rattle.gate_state.specs.declared.reply.Order.TheVariants.{Stage, Land, Notice}
use Rattle.gate_state.specs.declared.reply.Why.{Why}
use Rattle.gate_state.specs.declared.reply.Why.TheVariants as why
use Rattle.gate_state.specs.declared.reply.Reply.{Reply}
use Rattle.gate_state.specs.declared.reply.Reply.TheVariants.{Done, Denied}

abbrev pub denied_members : Rule → Members
denied_members rule =
    member (codes "number") (number (unsigned (number_of rule)))
    (member (codes "rule") (string (word_of rule))
    (member (codes "verdict") (string (codes "denied")) no_members))

-- what a rule tells beside its number and name
abbrev pub detail_of : Rule → Option Data
detail_of UnknownChange = None
detail_of NotACommand = None
detail_of (NotPermitted level) = Some (string (level_word_of level))
detail_of NotOpen = None
detail_of NothingToRetry = None
detail_of Landing = None
detail_of NoSettings = None
detail_of NoBase = None
detail_of AlreadyApproved = None
detail_of NotApproved = None
detail_of AlreadyTrying = None
detail_of NotTrying = None
detail_of (Blocked label) = Some (string label)
detail_of (TooFewReviews have need) = Some (array (items_of (number (unsigned have) ∷ number (unsigned need) ∷ [])))
detail_of AlreadyOpen = None
detail_of ChangeLanded = None
detail_of StaleHead = None
detail_of NotMember = None
detail_of OwnChange = None
detail_of (BadSettings refusal) = Some (number (unsigned refusal))
detail_of ClockBack = None
detail_of NoSuchBatch = None
detail_of SameAsBase = None
detail_of (HeadStatus name) = Some (string name)

-- the status that has failed, which its notice names beside the word
abbrev pub name_of : Why → Option Data
name_of why.Conflict = None
name_of (why.Failed name) = Some (string name)
name_of why.TimedOut = None
name_of why.Pushed = None
name_of why.Closed = None
name_of why.Labeled = None
name_of why.Reviews = None
name_of why.Settings = None
name_of why.TryPassed = None
name_of why.TryFailed = None

-- a member of this name, if there is something to tell
abbrev pub with_told : List ℕ → Option Data → Members → Members
with_told name None members = members
with_told name (Some told) members = member name told members

-- a change and its head, as a pair
abbrev pub head_data : Head → Data
head_data staged = array (items_of (number (unsigned staged.change) ∷ string staged.head ∷ []))

abbrev pub heads_data : List Head → Data
heads_data heads = array (items_of (map head_data heads))

abbrev pub order_data : Order → Data
order_data (Stage batch branch base heads) =
    object (member (codes "base") (string base)
    (member (codes "batch") (number (unsigned batch))
    (member (codes "branch") (string (branch_word_of branch))
    (member (codes "heads") (heads_data heads)
    (member (codes "order") (string (codes "stage")) no_members)))))
order_data (Land batch base commit) =
    object (member (codes "base") (string base)
    (member (codes "batch") (number (unsigned batch))
    (member (codes "commit") (string commit)
    (member (codes "order") (string (codes "land")) no_members))))
order_data (Notice change why) =
    object (member (codes "change") (number (unsigned change))
    (with_told (codes "name") (name_of why)
    (member (codes "order") (string (codes "notice"))
    (member (codes "why") (string (why_word_of why)) no_members))))

abbrev pub orders_data : List Order → Data
orders_data orders = array (items_of (map order_data orders))

abbrev pub reply_data : Reply → Data
reply_data (Done orders) =
    object (member (codes "orders") (orders_data orders)
    (member (codes "verdict") (string (codes "done")) no_members))
reply_data (Denied rule) = object (with_told (codes "detail") (detail_of rule) (denied_members rule))

-- an answer: a list with one object for each reply
abbrev pub answer_data : List Reply → Data
answer_data replies = array (items_of (map reply_data replies))

-- the text of an answer
unfoldable pub answer_text_of : List Reply → List ℕ
answer_text_of replies = compact_text (answer_data replies)
