use Rattle.std.proofs.Common.{◌∙◌, sym, ap, subst}
use Rattle.std.specs.Option.{option_copied}
use Rattle.gate_rules.specs.Heads.{among, IsIndexOf}
use Rattle.gate_rules.specs.View.{DeskView}
use Rattle.gate_rules.proofs.Indexing.{told_by, told_empty, none_open}
use Rattle.gate_rules.proofs.desk.Desk.is_open_head.Goals as goal

pub returns-in-Some : goal.returns-in-Some
returns-in-Some c =
    let desk : DeskView = c.args.self.now in
    let is = subst (λ (d : DeskView). IsIndexOf d.changes c.self.inside.heads) c.self.view_is c.self.invariant.1 in
    let found = sym c.at.ensures ∙ ap option_copied c.in-Some.is in
    record { value = told_empty desk c.self.inside.heads c.args.head c.in-Some.numbers.now is found c.is_empty.result c.is_empty.ensures.0 c.is_empty.ensures.1 }

pub returns-in-None : goal.returns-in-None
returns-in-None c =
    let desk : DeskView = c.args.self.now in
    let is = subst (λ (d : DeskView). IsIndexOf d.changes c.self.inside.heads) c.self.view_is c.self.invariant.1 in
    let none = sym c.at.ensures ∙ ap option_copied c.in-None.is in
    record { value = sym (none_open desk c.args.head (λ n. sym (told_by desk c.self.inside.heads c.args.head is n) ∙ ap (among n) none)) }
