use Rattle.std.proofs.Common.{rules}
use Rattle.toml.specs.Errors.{IsMemory}
use Rattle.gate_text.specs.Settings.{settings_of}
use Rattle.gate_text.proofs.settings.read_settings.Goals as goal

pub returns-in-Ok : goal.returns-in-Ok
unfolding settings_of
returns-in-Ok c = record { value = rw c.in-Ok.ensures.ok c.settings_in.ensures }

pub returns-in-Err-2 : goal.returns-in-Err-2
unfolding settings_of
returns-in-Err-2 c =
    let other : ¬ IsMemory c.in-Err.error = search rules in
    record { value = rw (c.in-Err.ensures.refused other) }
