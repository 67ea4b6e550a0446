use Rattle.std.proofs.Common.{◌≡◌, ◌++◌, drop, map}
use Rattle.toml.specs.View.{view}
use Rattle.gate_text.specs.Arguments.{all_of}
use Rattle.gate_text.specs.Settings.{plain_in}
use Rattle.gate_text.proofs.Lists.{rest_read}
use Rattle.gate_text.proofs.Values.{plain_at}
use Rattle.gate_text.proofs.settings.values.labels_of.Given as goal

abbrev pub invariant-loop-value : goal.invariant-loop-value
invariant-loop-value l = rest_read plain_at (◌++◌) l.labels.items (drop l.value-index l.items) ≡ all_of (map plain_in (map view l.items))
