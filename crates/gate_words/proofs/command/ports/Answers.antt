use Rattle.gate_words.proofs.command.ports.Goals as goal

pub returns : goal.returns
returns c = rw c.value_parser.ensures at c.range.ensures
