use Rattle.std.proofs.Common.{codes, rules, subst, sym}
use Rattle.std.specs.Str.Parse.{ExplainsUnsignedError, HasUnsignedDigitsIfOk, ParsesUnsigned}
use Rattle.clap.specs.Words.{found_of, one_text}
use Rattle.clap.proofs.WalkLemmas.{one_text-rows}
use Rattle.gate_words.specs.Words.{IsPatience}
use Rattle.gate_words.proofs.Numbers.{patience_left_out, patience_read, patience_unread}
use Rattle.gate_words.proofs.words.read_patience.Goals as goal

pub returns-in-Ok-Some-clause-value : goal.returns-in-Ok-Some-clause-value
returns-in-Ok-Some-clause-value c =
    let options = found_of c.args.options.now in
    subst (IsPatience c.in-Ok-Some.patience) (one_text-rows options (codes "patience"))
    (patience_read (λ bs r. ParsesUnsigned 32 10 bs r × ExplainsUnsignedError 10 bs r × HasUnsignedDigitsIfOk bs r) (λ _ _ read. read.0) (one_text options (codes "patience")) c.try_get_one.result c.in-Ok-Some.patience (search rules) c.try_get_one.ensures.none c.try_get_one.ensures.value)

pub returns-in-Ok-None-clause-value : goal.returns-in-Ok-None-clause-value
returns-in-Ok-None-clause-value c =
    let options = found_of c.args.options.now in
    subst (IsPatience 30) (one_text-rows options (codes "patience"))
    (patience_left_out (λ bs r. ParsesUnsigned 32 10 bs r × ExplainsUnsignedError 10 bs r × HasUnsignedDigitsIfOk bs r) (one_text options (codes "patience")) c.try_get_one.result (search rules) c.try_get_one.ensures.value)

pub returns-in-Err-clause-none : goal.returns-in-Err-clause-none
returns-in-Err-clause-none c patience is limits =
    let options = found_of c.args.options.now in
    patience_unread (λ bs r. ParsesUnsigned 32 10 bs r × ExplainsUnsignedError 10 bs r × HasUnsignedDigitsIfOk bs r) (λ _ _ read. read.0) (one_text options (codes "patience")) c.try_get_one.result c.in-Err.field-0 (search rules) c.try_get_one.ensures.none c.try_get_one.ensures.value
    patience (subst (IsPatience patience) (sym (one_text-rows options (codes "patience"))) is) limits
