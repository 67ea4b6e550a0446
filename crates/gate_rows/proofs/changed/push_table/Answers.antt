use Rattle.std.proofs.Common.{◌++◌, ◌∙◌, map, ap}
use Rattle.std.proofs.lemmas.Result.{on_ok_weaker}
use Rattle.gate_rows.proofs.Unmatched.{gone_are, differing_are}
use Rattle.gate_rows.proofs.changed.push_table.Goals as goal
use Rattle.gate_rows.specs.Changed.{unmatched}
use Rattle.gate_tables.specs.Differences.{is_same}
use Rattle.gate_tables.specs.Keys.{has_key, key_of}

pub returns-clause-gone : goal.returns-clause-gone
returns-clause-gone g c was now apart others old new =
    let before = c.deref.ensures.value ∙ c.sorted_by_key-old.ensures was apart old in
    let after = c.deref-2.ensures.value ∙ c.sorted_by_key-new.ensures now others new in
    let form = g.R.Keyed.form in
    let listed = (λ i. unmatched form (λ r x. has_key form (key_of form r) x) (before i) (after i)) ∙ gone_are form g.met.R.Keyed.keyed was now apart others in
    on_ok_weaker c.push_differing.result (λ put. c.in_ok-push_gone.ensures ∙ ap (λ rows. c.args.deletions.now.items ++ map g.R.Keyed.deletion rows) listed) c.push_differing.ensures

pub returns-clause-put : goal.returns-clause-put
returns-clause-put g c was now apart others old new =
    let before = c.deref-3.ensures.value ∙ c.sorted_by_key-old.ensures was apart old in
    let after = c.sorted_by_key-new.ensures now others new in
    let form = g.R.Keyed.form in
    let listed = (λ i. unmatched form (is_same form) (after i) (before i)) ∙ differing_are form g.met.R.Keyed.keyed was now apart others in
    on_ok_weaker c.push_differing.result (λ put. put ∙ ap (λ rows. c.args.puts.now.items ++ map g.R.Keyed.put rows) listed) c.push_differing.ensures
