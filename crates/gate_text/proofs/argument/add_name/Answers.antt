use Rattle.std.proofs.Common.{◌≡◌, true, false, rules}
use Rattle.std.specs.FinSet as set
use Rattle.gate_text.proofs.Lists.{with_new, with_known, set_with_new}
use Rattle.gate_text.proofs.argument.add_name.Goals as goal

pub returns-in_ok-push-clause-names : goal.returns-in_ok-push-clause-names
returns-in_ok-push-clause-names c =
    let new : set.contains c.args.known.now c.args.name ≡ false = search rules in
    rw c.in_ok-push.ensures.items (with_new c.args.names.now.items c.args.name c.args.known.now c.requires new)

pub returns-in_ok-push-clause-known : goal.returns-in_ok-push-clause-known
returns-in_ok-push-clause-known c =
    rw (c.in_ok-insert.ensures.ok, c.in_ok-push.ensures.items, c.in_ok-copy.ensures.value) (set_with_new c.args.names.now.items c.args.name c.args.known.now c.requires)

pub returns-else-not-contains-clause-names : goal.returns-else-not-contains-clause-names
returns-else-not-contains-clause-names c =
    let old : set.contains c.args.known.now c.args.name ≡ true = search rules in
    with_known c.args.names.now.items c.args.name c.args.known.now c.requires old
