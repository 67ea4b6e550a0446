use Rattle.gate_words.proofs.Wrong.{no_patience, no_serve}
use Rattle.gate_words.proofs.words.serve_job.Goals as goal

pub returns-in_default-clause-none : goal.returns-in_default-clause-none
returns-in_default-clause-none c = no_serve _ c.in_default.ensures.none

pub returns-in_default-patience_in-clause-none : goal.returns-in_default-patience_in-clause-none
returns-in_default-patience_in-clause-none c = no_patience _ c.in_default-patience_in.ensures.none
