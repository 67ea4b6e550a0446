use Rattle.std.proofs.Common.{sym, ◌∙◌, ap, subst, rules}
use Rattle.std.specs.Option.{option_copied}
use Rattle.gate_rules.specs.Heads.{IsIndexOf}
use Rattle.gate_rules.specs.View.{DeskView, AreOpenAt}
use Rattle.gate_rules.proofs.Indexing.{all_listed, none_listed}
use Rattle.gate_rules.proofs.desk.Desk.open_at.Goals as goal

pub returns-in-Some : goal.returns-in-Some
returns-in-Some c =
    let desk : DeskView = c.args.self.now in
    let is = subst (λ (d : DeskView). IsIndexOf d.changes c.self.inside.heads) c.self.view_is c.self.invariant.1 in
    let all : AreOpenAt c.args.head desk c.in-Some.numbers.now.keys = all_listed desk c.self.inside.heads c.args.head c.in-Some.numbers.now is (sym c.at.ensures ∙ ap option_copied c.in-Some.is) in
    record { value = search (rules, all) }

pub returns-in-None : goal.returns-in-None
returns-in-None c =
    let desk : DeskView = c.args.self.now in
    let is = subst (λ (d : DeskView). IsIndexOf d.changes c.self.inside.heads) c.self.view_is c.self.invariant.1 in
    record { value = rw c.new.ensures.items (none_listed desk c.self.inside.heads c.args.head is (sym c.at.ensures ∙ ap option_copied c.in-None.is)) }
