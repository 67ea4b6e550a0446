use Rattle.std.proofs.Common.{◌≡◌, Bool, true, if◌then◌else◌, IfOk, sym, ◌∙◌, ap, subst}
use Rattle.gate_queue.specs.Vocabulary.{is_required, Outcome}
use Rattle.gate_queue.specs.Machine.{on_both, told_on, told, quiet}
use Rattle.gate_queue.proofs.running.tell_batches.Goals as goal

pub returns-then-is_required-clause-value : goal.returns-then-is_required-clause-value
returns-then-is_required-clause-value c =
    let s = c.args.state in
    let commit = c.args.commit in
    let name = c.args.name.now in
    let said = c.args.said in
    let both : Outcome = on_both (told_on commit name said) s in
    let required : is_required s.desk.settings name ≡ true = sym c.is_required.ensures.value ∙ c.if-is_required.true in
    let same : both ≡ told commit name said s = sym (ap (λ (b : Bool). if b then both else quiet s) required) in
    subst (λ (o : Outcome). IfOk c.tell_both.result (λ outcome. outcome ≡ o)) same c.tell_both.ensures
