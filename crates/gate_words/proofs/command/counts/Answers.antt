use Rattle.gate_words.proofs.command.counts.Goals as goal

pub returns : goal.returns
returns c = rw (c.value_parser.ensures, c.new.ensures.start, c.new.ensures.end, c.from.ensures) at c.range.ensures
