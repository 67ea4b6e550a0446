use Rattle.std.proofs.Common.{subst}
use Rattle.clap.specs.Words.{found_of, one_text}
use Rattle.clap.proofs.WalkLemmas.{one_text-rows}
use Rattle.gate_words.specs.Words.{IsFlag}
use Rattle.gate_words.proofs.Numbers.{flag_read}
use Rattle.gate_words.proofs.words.has_flag.Goals as goal

pub returns : goal.returns
returns c =
    let options = found_of c.args.options.now in
    subst (IsFlag c.get_flag.result) (one_text-rows options c.args.name.now)
    (flag_read (one_text options c.args.name.now) c.get_flag.result c.get_flag.ensures.none c.get_flag.ensures.value c.get_flag.ensures.other)
