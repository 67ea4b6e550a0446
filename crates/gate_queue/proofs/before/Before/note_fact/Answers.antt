use Rattle.std.proofs.Common.{◌≡◌, sym, subst, ap}
use Rattle.std.proofs.lemmas.Result.{on_ok_weaker}
use Rattle.gate_queue.proofs.Noting.{person_more, person_noted}
use Rattle.gate_queue.proofs.before.Before.note_fact.Goals as goal
use Rattle.gate_queue.specs.Before.{HasNoted, Noted, NotesMore, with_person}
use Rattle.gate_queue.specs.MayChange.{Parts, fact_may_do, of_person}

pub returns-in-Role-clause-more : goal.returns-in-Role-clause-more
returns-in-Role-clause-more c =
    let s = c.args.state.now in
    on_ok_weaker c.note_person.result (λ is. subst (NotesMore s c.args.self.now) (sym is) (person_more s c.args.self.now c.in-Role.person)) c.note_person.ensures

pub returns-in-Role-clause-has : goal.returns-in-Role-clause-has
returns-in-Role-clause-has c =
    let s = c.args.state.now in
    let new : Noted = c.note_person.new.self in
    let person = c.in-Role.person in
    let has = λ (is : new ≡ with_person person s c.args.self.now). subst (λ (may : Parts). HasNoted may new) (sym (ap (fact_may_do s) c.in-Role.is)) (subst (HasNoted (of_person person)) (sym is) (person_noted s c.args.self.now person)) in
    on_ok_weaker c.note_person.result has c.note_person.ensures
