use Rattle.gate_rows.proofs.laws.law_of_keys_of.Goals as goal

pub returns : goal.returns
returns c = c.law_of_keys.ensures c.args.gate.now c.is_of_machine.ensures.state
