use Rattle.std.proofs.Common.{◌≡◌, ◌<◌, length, List, Some, refl, subst, rules, slice_get}
use Rattle.std.proofs.lemmas.Option.{slice_get_read}
use Rattle.gate_state.specs.Lanes.{joins}
use Rattle.gate_state.specs.declared.batch.Batch.{Batch}
use Rattle.gate_state.proofs.Lanes.{joined_at}
use Rattle.gate_state.proofs.waiting.enter.Goals as goal

pub returns-in_ok-join-in-Some-clause-waiting : goal.returns-in_ok-join-in-Some-clause-waiting
returns-in_ok-join-in-Some-clause-waiting c =
    let waiting = c.args.waiting.now.items in
    let place = c.in-Some.place in
    let old = c.index_mut-batch.result.now in
    let same : c.as_slice.result.now ≡ waiting = c.as_slice.ensures.value in
    let within = subst (λ (batches : List Batch). place < length batches) same c.in-Some.ensures.within in
    let there : slice_get waiting place ≡ Some old = slice_get_read waiting _ place old refl within c.index_mut-batch.ensures.value in
    let found : Some place ≡ joins c.args.size c.args.priority waiting = search rules in
    joined_at c.args.number c.args.priority c.args.change waiting place old c.join.new.batch _ found there c.in_ok-join-in-Some.ensures
