use Rattle.std.proofs.Common.{◌≡◌, Bool, true, cond, Option, Some, sym, ◌∙◌, ap}
use Rattle.std.specs.FinMap as finite
use Rattle.std.specs.Option.{option_copied, option_map}
use Rattle.std.specs.Str.{bytes_eq}
use Rattle.gate_queue.specs.Vocabulary.{Change}
use Rattle.gate_queue.specs.Machine.{pushed, moved_to, with_altered}
use Rattle.gate_queue.proofs.Changes.{same_change}
use Rattle.gate_queue.proofs.changing.push.Goals as goal

-- the same head does nothing
pub returns-then-eq-clause-desk : goal.returns-then-eq-clause-desk
returns-then-eq-clause-desk c =
    let desk = c.args.desk.now in
    let there : finite.get desk.changes c.args.number ≡ Some c.in-Some.change.now = sym c.change.ensures.value ∙ ap option_copied c.in-Some.is in
    let same : bytes_eq c.in-Some.change.now.head c.args.head ≡ true = sym c.eq.ensures ∙ c.if-eq.true in
    sym (ap (λ (found : Option Change). with_altered desk c.args.number (option_map (pushed c.args.head) found)) there
    ∙ ap (λ (b : Bool). with_altered desk c.args.number (Some (cond b c.in-Some.change.now (moved_to c.args.head c.in-Some.change.now)))) same
    ∙ same_change desk c.args.number c.in-Some.change.now there)
