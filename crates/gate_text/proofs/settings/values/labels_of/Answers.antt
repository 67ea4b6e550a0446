use Rattle.std.proofs.Common.{◌∙◌, ap}
use Rattle.gate_text.specs.Arguments.{all_of}
use Rattle.gate_text.proofs.Values.{plain_values, behind_nothing}
use Rattle.gate_text.proofs.settings.values.labels_of.Goals as goal

pub loop-value-init : goal.loop-value-init
loop-value-init c = rw c.new-labels.ensures.items (behind_nothing _ ∙ ap all_of (plain_values c.args.items.now))
