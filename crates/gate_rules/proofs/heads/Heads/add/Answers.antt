use Rattle.std.proofs.Common.{ℕ, ◌==◌, ◌||◌, ◌∙◌, List, Some, sym, ap, subst, rules}
use Rattle.std.specs.BTreeMap as tree
use Rattle.std.specs.BTreeMap.{BTreeMap}
use Rattle.std.specs.BTreeSet as tree_set
use Rattle.std.specs.BTreeSet.{BTreeSet}
use Rattle.std.specs.Cmp.Lexicographic.{slice_cmp}
use Rattle.std.specs.Option.{option_copied_mut}
use Rattle.std.specs.Ordering.{nat_cmp}
use Rattle.gate_rules.specs.Heads.{among}
use Rattle.gate_rules.proofs.Indexing.{added_under, one_more, same_keys, same_under}
use Rattle.gate_rules.proofs.heads.Heads.add.Goals as goal

pub returns-in_err-insert-clause-err : goal.returns-in_err-insert-clause-err
returns-in_err-insert-clause-err c =
    let found = sym c.get_mut.ensures.value ∙ ap option_copied_mut c.in-Some.is in
    let updates = (c.get_mut.follows.holds c.insert.new.self).3 (search rules) in
    let same = same_under c.args.self.now.numbers (c.get_mut.follows.lender c.insert.new.self) c.args.head (Some c.insert.new.self) updates
    (λ n. same_keys c.in-Some.numbers.now c.insert.new.self c.in_err-insert.ensures.err n ∙ ap (among n) (sym found)) in
    search (rules, same)

pub returns-in-Some-clause-ok : goal.returns-in-Some-clause-ok
returns-in-Some-clause-ok c =
    let found = sym c.get_mut.ensures.value ∙ ap option_copied_mut c.in-Some.is in
    let updates = (c.get_mut.follows.holds c.insert.new.self).3 (search rules) in
    added_under c.args.self.now.numbers (c.get_mut.follows.lender c.insert.new.self) c.args.head (Some c.insert.new.self) updates c.args.number
    (λ n. one_more c.in-Some.numbers.now c.insert.new.self c.args.number n c.in_ok-insert.ensures.updates ∙ ap (λ had. (n == c.args.number) || among n had) (sym found))

pub returns-clause-ok : goal.returns-clause-ok
returns-clause-ok c =
    let absent = sym c.get_mut.ensures.value ∙ ap option_copied_mut c.in_default.is in
    let updates : tree.Updates (slice_cmp nat_cmp) c.args.self.now.numbers c.insert-3.new.self c.args.head (Some c.insert-2.new.self) =
    subst (λ (old : BTreeMap (List ℕ) (BTreeSet ℕ)). tree.Updates (slice_cmp nat_cmp) old c.insert-3.new.self c.args.head (Some c.insert-2.new.self)) c.get_mut.follows.holds-at-none c.in_ok-insert-3.ensures.updates in
    added_under c.args.self.now.numbers c.insert-3.new.self c.args.head (Some c.insert-2.new.self) updates c.args.number
    (λ n. one_more c.new-numbers.result c.insert-2.new.self c.args.number n c.in_ok-insert-2.ensures.updates
    ∙ ap (λ (keys : List ℕ). (n == c.args.number) || tree_set.contains nat_cmp (record { keys = keys }) n) c.new-numbers.ensures.empty
    ∙ ap (λ had. (n == c.args.number) || among n had) (sym absent))
