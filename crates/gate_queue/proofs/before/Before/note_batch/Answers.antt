use Rattle.std.proofs.Common.{◌≡◌, ◌<◌, ◌≤◌, true, false, is_some, ap, subst, sym, ◌∙◌}
use Rattle.std.specs.Cmp.{nat_cmp_total}
use Rattle.std.specs.FinMap as finite
use Rattle.std.specs.FinMap.{nat_cmp-IsAntisymmetric}
use Rattle.gate_text.specs.Finite.{get-entries, inserted}
use Rattle.gate_queue.proofs.Noting.{batch_new, batch_old, noted_new, noted_there}
use Rattle.gate_queue.proofs.before.Before.note_batch.Goals as goal
use Rattle.gate_queue.specs.Before.{Noted}
use Rattle.gate_state.specs.Queue.{batch_numbered}

pub returns-then-number-self : goal.returns-then-number-self
returns-then-number-self c = batch_new c.args.state.now c.args.self.now c.args.number (subst (λ (n : Noted). n.next ≤ c.args.number) c.self.view_is c.if-number-self.true)

pub returns-then-contains_key : goal.returns-then-contains_key
returns-then-contains_key c =
    let number = c.args.number in
    let noted = c.args.self.now in
    let there : is_some (finite.get noted.batches number) ≡ true =
    ap (λ (n : Noted). is_some (finite.get n.batches number)) (sym c.self.view_is) ∙ ap is_some (get-entries nat_cmp_total c.self.inside.batches number) ∙ sym c.contains_key.ensures ∙ c.if-contains_key.true in
    let below : number < noted.next = subst (λ (n : Noted). number < n.next) c.self.view_is c.if-number-self.false in
    (λ i. record noted { batches = noted_there noted.batches number (batch_numbered number c.args.state.now.queue) there i }) ∙ batch_old c.args.state.now noted number below

pub returns : goal.returns
returns c =
    let number = c.args.number in
    let noted = c.args.self.now in
    let batch = batch_numbered number c.args.state.now.queue in
    let there : is_some (finite.get noted.batches number) ≡ false =
    ap (λ (n : Noted). is_some (finite.get n.batches number)) (sym c.self.view_is) ∙ ap is_some (get-entries nat_cmp_total c.self.inside.batches number) ∙ sym c.contains_key.ensures ∙ c.if-contains_key.false in
    let below : number < noted.next = subst (λ (n : Noted). number < n.next) c.self.view_is c.if-number-self.false in
    rw (inserted nat_cmp_total nat_cmp-IsAntisymmetric c.self.inside.batches c.put.new.map _ _ c.in_ok-put.ensures, c.in_ok-batch.ensures, c.batch.ensures.value)
    (ap (λ (n : Noted). record n { batches = finite.insert n.batches number batch }) c.self.view_is ∙ (λ i. record noted { batches = noted_new noted.batches number batch there i }) ∙ batch_old c.args.state.now noted number below)
