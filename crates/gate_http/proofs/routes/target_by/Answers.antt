use Rattle.std.proofs.Common.{ap, sym, ◌∙◌}
use Rattle.std.proofs.lemmas.Option.{none-some}
use Rattle.gate_http.proofs.Parts.{part-is, same-text}
use Rattle.gate_http.proofs.Targets.{found, missed}
use Rattle.gate_http.specs.Targets.{change_of}
use Rattle.gate_http.proofs.routes.target_by.Goals as goal

pub returns-in_default : goal.returns-in_default
returns-in_default c = sym (missed c.args.path.now (rw c.requires at c.in_default.ensures.missing))

pub returns-in-Deliveries : goal.returns-in-Deliveries
returns-in-Deliveries c =
    let is = found c.args.path.now _ (rw c.requires at c.in-Ok.ensures.found) in
    sym (rw c.in-Deliveries.is at is)

pub returns-in-Queue : goal.returns-in-Queue
returns-in-Queue c =
    let is = found c.args.path.now _ (rw c.requires at c.in-Ok.ensures.found) in
    sym (rw c.in-Queue.is at is)

pub returns-in-Some : goal.returns-in-Some
returns-in-Some c =
    let is = found c.args.path.now _ (rw c.requires at c.in-Ok.ensures.found) in
    let change = rw c.in-Change.is at is in
    let part = part-is _ c.in-Ok.found.params.path.now c.args.path.now change.1.0 change.0 c.in-Ok.ensures.path change.1.1 c.utf8.path in
    c.change_of.ensures ∙ ap change_of (same-text _ _ (sym (c.in-Some.ensures part.0) ∙ part.1)) ∙ sym change.1.2

pub returns-in-None : goal.returns-in-None
returns-in-None c =
    let is = found c.args.path.now _ (rw c.requires at c.in-Ok.ensures.found) in
    let change = rw c.in-Change.is at is in
    let part = part-is _ c.in-Ok.found.params.path.now c.args.path.now change.1.0 change.0 c.in-Ok.ensures.path change.1.1 c.utf8.path in
    absurd (none-some _ (sym (c.in-None.ensures part.0) ∙ part.1))
