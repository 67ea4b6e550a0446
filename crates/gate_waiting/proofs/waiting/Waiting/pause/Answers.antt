use Rattle.std.proofs.Common.{arith, ◌≡◌, ◌∙◌, ◌-◌, ◌*◌, ◌<◌, ℕ, List, [], ◌∷◌, length, Some, refl, sym, ap, subst}
use Rattle.gate_waiting.proofs.Pauses.{pause_until_late}
use Rattle.gate_waiting.specs.Pauses.{IsPause, first_due_of}
use Rattle.gate_waiting.specs.Room.{Room}
use Rattle.gate_waiting.specs.declared.guest.Guest.{Guest}
use Rattle.gate_waiting.specs.declared.guest.Ready.{Ready}
use Rattle.gate_waiting.specs.declared.taking.LateAt.{LateAt}
use Rattle.gate_waiting.proofs.waiting.Waiting.pause.Goals as goal

is_none : (ready : List Ready) (n : ℕ) → n ≡ length ready → (0 < n → ⊥) → ready ≡ []
is_none [] n is none = refl
is_none (r ∷ ready) n is none = absurd (none (omega arith))

pub returns : goal.returns
returns g c =
    let now = c.args.now in
    let was = c.self.inside in
    let room : Room g.row.W.Denot = record { whole = was.whole; patience = was.patience; next = was.next; guests = was.guests; ready = was.ready } in
    let nobody = is_none was.ready c.len.result c.len.ensures.value (λ some. omega arith) in
    let of_room = pause_until_late room now (omega arith) nobody (let some = c.len-2.ensures.value in let here = c.if-len-eq0.false in omega arith) in
    let shown = subst (λ (r : Room g.row.W.Denot). IsPause now (Some (first_due_of was.patience (10 * was.patience) was.guests - now)) r) c.self.view_is of_room in
    let due : c.first_due-due.result ≡ first_due_of was.patience (10 * was.patience) was.guests =
    c.first_due-due.ensures ∙ ap (λ (late : LateAt). first_due_of late.patience late.in_all c.as_slice.result.now) c.new.ensures
    ∙ ap (λ (guests : List Guest). first_due_of was.patience (10 * was.patience) guests) c.as_slice.ensures.value in
    let is : c.saturating_sub.result ≡ first_due_of was.patience (10 * was.patience) was.guests - now =
    c.saturating_sub.ensures ∙ ap (λ n. n - now) due in
    record { pause = subst (λ n. IsPause now (Some n) c.args.self.now) (sym is) shown }
