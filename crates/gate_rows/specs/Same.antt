-- ROWS OF WHICH `==` SAYS THAT THEY ARE THE SAME, are the same: `==` compares them field by field.
use Rattle.std.specs.Prelude.{◌≡◌, ℕ, nat_eq, ℤ, Bool, true, ◌&&◌, List}
use Rattle.std.proofs.lemmas.Bool.Decides.{Decides-int_eq}
use Rattle.std.proofs.lemmas.Slice.Eq.{bytes_eq-Decides}
use Rattle.std.specs.Cmp.{first_so, second_so}
use Rattle.std.specs.Cmp.Lexicographic.{pointwise}
use Rattle.std.specs.Ordering.{int_eq}
use Rattle.gate_tables.specs.declared.row.BatchRow.{BatchRow}
use Rattle.gate_tables.specs.declared.row.ChangeRow.{ChangeRow}
use Rattle.gate_tables.specs.declared.row.DeskRow.{DeskRow}
use Rattle.gate_tables.specs.declared.row.MarkRow.{MarkRow}
use Rattle.gate_tables.specs.declared.row.MemberRow.{MemberRow}
use Rattle.gate_tables.specs.declared.row.PersonRow.{PersonRow}
use Rattle.gate_tables.specs.declared.row.StatusRow.{StatusRow}
use Rattle.gate_tables.specs.declared.row.WantedRow.{WantedRow}

both : {P Q : Type 0} (s t : Bool) → (s ≡ true → P) → (t ≡ true → Q) → (s && t) ≡ true → P × Q
both s t p q is = (p (first_so s t is), q (second_so s t is))

text : (x y : List ℕ) → pointwise nat_eq x y ≡ true → x ≡ y
text x y = (bytes_eq-Decides x y).0

number : (x y : ℤ) → int_eq x y ≡ true → x ≡ y
number x y = (Decides-int_eq x y).0

pub same_desks : (one other : DeskRow) → (int_eq one.one other.one && (int_eq one.version other.version && (int_eq one.next_batch other.next_batch && (int_eq one.clock other.clock && (pointwise nat_eq one.base other.base && (int_eq one.timeout_sec other.timeout_sec && (int_eq one.required_approvals other.required_approvals && (int_eq one.max_batch_size other.max_batch_size)))))))) ≡ true → one ≡ other
same_desks one other same =
    let fields = both _ _ (number one.one other.one) (both _ _ (number one.version other.version) (both _ _ (number one.next_batch other.next_batch) (both _ _ (number one.clock other.clock) (both _ _ (text one.base other.base) (both _ _ (number one.timeout_sec other.timeout_sec) (both _ _ (number one.required_approvals other.required_approvals) (number one.max_batch_size other.max_batch_size))))))) same in
    λ i. record { one = fields.0 i; version = fields.1.0 i; next_batch = fields.1.1.0 i; clock = fields.1.1.1.0 i; base = fields.1.1.1.1.0 i; timeout_sec = fields.1.1.1.1.1.0 i; required_approvals = fields.1.1.1.1.1.1.0 i; max_batch_size = fields.1.1.1.1.1.1.1 i }

pub same_people : (one other : PersonRow) → (pointwise nat_eq one.name other.name && (int_eq one.role other.role)) ≡ true → one ≡ other
same_people one other same =
    let fields = both _ _ (text one.name other.name) (number one.role other.role) same in
    λ i. record { name = fields.0 i; role = fields.1 i }

pub same_changes : (one other : ChangeRow) → (int_eq one.number other.number && (pointwise nat_eq one.author other.author && (pointwise nat_eq one.head other.head && (int_eq one.phase other.phase && (int_eq one.priority other.priority && (int_eq one.approved other.approved && (int_eq one.last_command other.last_command))))))) ≡ true → one ≡ other
same_changes one other same =
    let fields = both _ _ (number one.number other.number) (both _ _ (text one.author other.author) (both _ _ (text one.head other.head) (both _ _ (number one.phase other.phase) (both _ _ (number one.priority other.priority) (both _ _ (number one.approved other.approved) (number one.last_command other.last_command)))))) same in
    λ i. record { number = fields.0 i; author = fields.1.0 i; head = fields.1.1.0 i; phase = fields.1.1.1.0 i; priority = fields.1.1.1.1.0 i; approved = fields.1.1.1.1.1.0 i; last_command = fields.1.1.1.1.1.1 i }

pub same_marks : (one other : MarkRow) → (int_eq one.change_no other.change_no && (int_eq one.kind other.kind && (pointwise nat_eq one.word other.word && (int_eq one.place other.place)))) ≡ true → one ≡ other
same_marks one other same =
    let fields = both _ _ (number one.change_no other.change_no) (both _ _ (number one.kind other.kind) (both _ _ (text one.word other.word) (number one.place other.place))) same in
    λ i. record { change_no = fields.0 i; kind = fields.1.0 i; word = fields.1.1.0 i; place = fields.1.1.1 i }

pub same_batches : (one other : BatchRow) → (int_eq one.number other.number && (int_eq one.branch other.branch && (int_eq one.priority other.priority && (int_eq one.again other.again && (int_eq one.phase other.phase && (int_eq one.since other.since && (pointwise nat_eq one.sha other.sha))))))) ≡ true → one ≡ other
same_batches one other same =
    let fields = both _ _ (number one.number other.number) (both _ _ (number one.branch other.branch) (both _ _ (number one.priority other.priority) (both _ _ (number one.again other.again) (both _ _ (number one.phase other.phase) (both _ _ (number one.since other.since) (text one.sha other.sha)))))) same in
    λ i. record { number = fields.0 i; branch = fields.1.0 i; priority = fields.1.1.0 i; again = fields.1.1.1.0 i; phase = fields.1.1.1.1.0 i; since = fields.1.1.1.1.1.0 i; sha = fields.1.1.1.1.1.1 i }

pub same_members : (one other : MemberRow) → (int_eq one.batch other.batch && (int_eq one.place other.place && (int_eq one.change_no other.change_no))) ≡ true → one ≡ other
same_members one other same =
    let fields = both _ _ (number one.batch other.batch) (both _ _ (number one.place other.place) (number one.change_no other.change_no)) same in
    λ i. record { batch = fields.0 i; place = fields.1.0 i; change_no = fields.1.1 i }

pub same_statuses : (one other : StatusRow) → (int_eq one.batch other.batch && (pointwise nat_eq one.name other.name && (int_eq one.report other.report))) ≡ true → one ≡ other
same_statuses one other same =
    let fields = both _ _ (number one.batch other.batch) (both _ _ (text one.name other.name) (number one.report other.report)) same in
    λ i. record { batch = fields.0 i; name = fields.1.0 i; report = fields.1.1 i }

pub same_wanted : (one other : WantedRow) → (int_eq one.kind other.kind && (int_eq one.place other.place && (pointwise nat_eq one.word other.word))) ≡ true → one ≡ other
same_wanted one other same =
    let fields = both _ _ (number one.kind other.kind) (both _ _ (number one.place other.place) (text one.word other.word)) same in
    λ i. record { kind = fields.0 i; place = fields.1.0 i; word = fields.1.1 i }
