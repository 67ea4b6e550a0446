use Rattle.std.proofs.Common.{true, refl, ◌≡◌, ◌∙◌, ap, map, subst}
use Rattle.std.proofs.lemmas.Result.{IfOk-weaker}
use Rattle.clap.specs.Words.{App, FailsBy, fault_of, is_simple, is_simple_and_free, subcommand_of}
use Rattle.clap.proofs.OnLiterals.{clap_on_literals}
use Rattle.gate_words.specs.Words.{gate_words}
use Rattle.gate_words.proofs.command.matches_in.Goals as goal

is_plain : is_simple gate_words ≡ true
unfolding clap_on_literals
is_plain = refl

is_free : is_simple_and_free gate_words ≡ true
unfolding clap_on_literals
is_free = refl

pub returns-clause-command : goal.returns-clause-command
returns-clause-command c =
    let made = c.in_ok-gate_command.ensures in
    IfOk-weaker c.try_get_matches_from.result _ _ (λ matches found.
    (found (ap is_simple made ∙ is_plain)).1 ∙ ap (λ (a : App). subcommand_of a (map (λ word. word.now) c.args.words.now)) made) c.try_get_matches_from.ensures.matches

pub returns-clause-faults : goal.returns-clause-faults
returns-clause-faults c =
    let made = c.in_ok-gate_command.ensures in
    subst (λ (a : App). FailsBy (fault_of a (map (λ word. word.now) c.args.words.now)) c.try_get_matches_from.result) made
    (c.try_get_matches_from.ensures.kinds (ap is_simple_and_free made ∙ is_free))
