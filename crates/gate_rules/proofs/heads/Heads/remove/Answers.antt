use Rattle.std.proofs.Common.{◌≡◌, ◌==◌, not, ◌&&◌, ◌∙◌, Some, None, sym, ap, rules}
use Rattle.std.specs.BTreeSet as tree_set
use Rattle.std.specs.Option.{option_copied_mut}
use Rattle.gate_rules.specs.Heads.{among}
use Rattle.gate_rules.proofs.Indexing.{removed_under, same_under, here, one_less, empty_has}
use Rattle.gate_rules.proofs.heads.Heads.remove.Goals as goal

pub returns-then-is_empty : goal.returns-then-is_empty
returns-then-is_empty c =
    let old = c.args.self.now.numbers in
    let between = c.get_mut.follows.lender c.remove.new.self in
    let left = Some c.remove.new.self in
    let found = sym c.get_mut.ensures.value ∙ ap option_copied_mut c.in-Some.is in
    let updates = (c.get_mut.follows.holds c.remove.new.self).3 (search rules) in
    let none : tree_set.btree_set_len c.remove.new.self ≡ 0 = search rules in
    λ other n.
    same_under between c.remove-then-is_empty.new.self c.args.head None c.remove-then-is_empty.ensures.updates
    (λ m. sym (here old between c.args.head left updates m ∙ empty_has c.remove.new.self none m)) other n
    ∙ removed_under old between c.args.head left updates c.args.number
    (λ m. one_less c.in-Some.numbers.now c.remove.new.self c.args.number m c.remove.ensures.updates ∙ ap (λ had. not (m == c.args.number) && among m had) (sym found)) other n

pub returns-else-is_empty : goal.returns-else-is_empty
returns-else-is_empty c =
    let found = sym c.get_mut.ensures.value ∙ ap option_copied_mut c.in-Some.is in
    let updates = (c.get_mut.follows.holds c.remove.new.self).3 (search rules) in
    removed_under c.args.self.now.numbers (c.get_mut.follows.lender c.remove.new.self) c.args.head (Some c.remove.new.self) updates c.args.number
    (λ m. one_less c.in-Some.numbers.now c.remove.new.self c.args.number m c.remove.ensures.updates ∙ ap (λ had. not (m == c.args.number) && among m had) (sym found))
