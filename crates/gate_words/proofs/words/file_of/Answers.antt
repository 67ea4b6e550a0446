use Rattle.std.proofs.Common.{rules, sym, ◌∙◌}
use Rattle.clap.specs.Words.{found_of}
use Rattle.clap.proofs.WalkLemmas.{first_value-rows}
use Rattle.gate_words.proofs.words.file_of.Goals as goal

pub returns-in_ok-from_str-in-Some : goal.returns-in_ok-from_str-in-Some
returns-in_ok-from_str-in-Some c = sym (first_value-rows (found_of c.args.options.now) c.args.name.now) ∙ search rules

pub returns-in-None : goal.returns-in-None
returns-in-None c = sym (first_value-rows (found_of c.args.options.now) c.args.name.now) ∙ search rules
