use Rattle.std.proofs.Common.{◌≡◌, true, false, is_some, ap, sym, ◌∙◌}
use Rattle.std.specs.Cmp.{nat_cmp_total}
use Rattle.std.specs.FinMap as finite
use Rattle.std.specs.FinMap.{nat_cmp-IsAntisymmetric}
use Rattle.gate_text.specs.Finite.{get-entries, inserted}
use Rattle.gate_queue.proofs.Noting.{noted_new, noted_there}
use Rattle.gate_queue.proofs.before.Before.note_change.Goals as goal
use Rattle.gate_queue.specs.Before.{Noted}

pub returns-then-contains_key : goal.returns-then-contains_key
returns-then-contains_key c =
    let number = c.args.number in
    let noted = c.args.self.now in
    let there : is_some (finite.get noted.changes number) ≡ true =
    ap (λ (n : Noted). is_some (finite.get n.changes number)) (sym c.self.view_is) ∙ ap is_some (get-entries nat_cmp_total c.self.inside.changes number) ∙ sym c.contains_key.ensures ∙ c.if-contains_key.true in
    λ i. record noted { changes = noted_there noted.changes number (finite.get c.args.state.now.desk.changes number) there i }

pub returns : goal.returns
returns c =
    let number = c.args.number in
    let noted = c.args.self.now in
    let change = finite.get c.args.state.now.desk.changes number in
    let there : is_some (finite.get noted.changes number) ≡ false =
    ap (λ (n : Noted). is_some (finite.get n.changes number)) (sym c.self.view_is) ∙ ap is_some (get-entries nat_cmp_total c.self.inside.changes number) ∙ sym c.contains_key.ensures ∙ c.if-contains_key.false in
    rw (inserted nat_cmp_total nat_cmp-IsAntisymmetric c.self.inside.changes c.put.new.map _ _ c.in_ok-put.ensures, c.in_ok-change.ensures, c.change.ensures.value)
    (ap (λ (n : Noted). record n { changes = finite.insert n.changes number change }) c.self.view_is ∙ (λ i. record noted { changes = noted_new noted.changes number change there i }))
