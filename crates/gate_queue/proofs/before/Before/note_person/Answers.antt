use Rattle.std.proofs.Common.{◌≡◌, true, false, is_some, ap, sym, ◌∙◌}
use Rattle.std.specs.Cmp.Lexicographic.{nat_list_cmp_total}
use Rattle.std.specs.FinMap as finite
use Rattle.std.specs.FinMap.{slice_cmp-IsAntisymmetric, nat_cmp-IsAntisymmetric}
use Rattle.gate_text.specs.Finite.{get-entries, inserted}
use Rattle.gate_queue.proofs.Noting.{noted_new, noted_there}
use Rattle.gate_queue.proofs.before.Before.note_person.Goals as goal
use Rattle.gate_queue.specs.Before.{Noted}

pub returns-then-contains_key : goal.returns-then-contains_key
returns-then-contains_key c =
    let name = c.args.person.now in
    let noted = c.args.self.now in
    let there : is_some (finite.get noted.people name) ≡ true =
    ap (λ (n : Noted). is_some (finite.get n.people name)) (sym c.self.view_is) ∙ ap is_some (get-entries nat_list_cmp_total c.self.inside.people name) ∙ sym c.contains_key.ensures ∙ c.if-contains_key.true in
    λ i. record noted { people = noted_there noted.people name (finite.get c.args.state.now.desk.roles name) there i }

pub returns : goal.returns
returns c =
    let name = c.args.person.now in
    let noted = c.args.self.now in
    let role = finite.get c.args.state.now.desk.roles name in
    let there : is_some (finite.get noted.people name) ≡ false =
    ap (λ (n : Noted). is_some (finite.get n.people name)) (sym c.self.view_is) ∙ ap is_some (get-entries nat_list_cmp_total c.self.inside.people name) ∙ sym c.contains_key.ensures ∙ c.if-contains_key.false in
    rw (inserted nat_list_cmp_total (slice_cmp-IsAntisymmetric nat_cmp-IsAntisymmetric) c.self.inside.people c.put.new.map _ _ c.in_ok-put.ensures, c.in_ok-copy.ensures.value, c.role_on-role.ensures)
    (ap (λ (n : Noted). record n { people = finite.insert n.people name role }) c.self.view_is ∙ (λ i. record noted { people = noted_new noted.people name role there i }))
