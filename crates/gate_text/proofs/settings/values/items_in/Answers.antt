use Rattle.std.proofs.Common.{◌≡◌, true, false, length, rules}
use Rattle.std.proofs.lemmas.List.{length-map}
use Rattle.std.specs.Int.{is_in_range}
use Rattle.toml.specs.View.{view}
use Rattle.gate_text.proofs.Values.{array_is, listed-view}
use Rattle.gate_text.proofs.settings.values.items_in.Goals as goal

pub returns-then-contains : goal.returns-then-contains
returns-then-contains c =
    let values = c.as_slice-items.result.now in
    let within : is_in_range c.args.least c.args.most (length values) ≡ true = search rules in
    let is = array_is (view c.args.value.now) values (search rules) in
    rw (is, listed-view values, length-map values view, within)

pub returns-else-contains : goal.returns-else-contains
returns-else-contains c =
    let values = c.as_slice-items.result.now in
    let past : is_in_range c.args.least c.args.most (length values) ≡ false = search rules in
    let is = array_is (view c.args.value.now) values (search rules) in
    rw (is, listed-view values, length-map values view, past)
