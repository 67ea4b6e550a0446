use Rattle.std.proofs.Common.{rules, sym, ◌∙◌, codes}
use Rattle.clap.specs.Words.{found_of}
use Rattle.clap.proofs.WalkLemmas.{first_value-rows}
use Rattle.gate_words.proofs.Wrong.{none_in}
use Rattle.gate_words.proofs.words.report_job.Goals as goal

pub returns-in_ok-from_str-in-Some-clause-job : goal.returns-in_ok-from_str-in-Some-clause-job
returns-in_ok-from_str-in-Some-clause-job c = sym (first_value-rows (found_of c.args.options.now) (codes "FILE")) ∙ search rules

pub returns-in-None-clause-none : goal.returns-in-None-clause-none
returns-in-None-clause-none c = none_in _ (sym (first_value-rows (found_of c.args.options.now) (codes "FILE")) ∙ search rules)
