use Rattle.gate_rows.proofs.laws.law_of_rows_of.Goals as goal

pub returns : goal.returns
returns c rows same = c.law_of_rows.ensures c.args.gate.now rows c.is_of_machine.ensures.state c.is_of_machine.ensures.limits same
