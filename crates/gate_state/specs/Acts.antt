-- WHAT AN ACT IS ABOUT, and the limits that it keeps.
use Rattle.std.specs.Prelude.{ℕ, ◌==◌, ⊤, Option, Some, None, if◌then◌else◌}
use Rattle.gate_text.specs.Limits.{IsPriority, AreNames}
use Rattle.gate_text.specs.declared.command.Command.TheVariants.{ApproveFor, Priority}
use Rattle.gate_text.specs.declared.command.Spoken.TheVariants.{Known}
use Rattle.gate_state.specs.State.{IsMoment}
use Rattle.gate_state.specs.declared.act.Act.{Act}
use Rattle.gate_state.specs.declared.act.Act.TheVariants.{On, Other}
use Rattle.gate_state.specs.declared.act.Deed.{Deed}
use Rattle.gate_state.specs.declared.act.Deed.TheVariants.{Said}
use Rattle.gate_state.specs.declared.act.Fact.{Fact}
use Rattle.gate_state.specs.declared.act.Fact.TheVariants.{Tick}

-- what an act does to this change, if it is about it
abbrev pub on : ℕ → Act → Option Deed
on change (On other deed) = if change == other then Some deed else None
on change (Other fact) = None

-- A reading of the clock is not above its limit, a priority is from -9999 to 9999, and an `r=` lists one or more names, no two the
-- same. What comments and deliveries are read as keeps that.
abbrev pub FactKeepsLimits : Fact → Type 0
FactKeepsLimits (Tick now) = IsMoment now
FactKeepsLimits _ = ⊤

abbrev pub DeedKeepsLimits : Deed → Type 0
DeedKeepsLimits (Said person (Known (Priority priority))) = IsPriority priority
DeedKeepsLimits (Said person (Known (ApproveFor names))) = AreNames names
DeedKeepsLimits _ = ⊤

abbrev pub ActKeepsLimits : Act → Type 0
ActKeepsLimits (On change deed) = DeedKeepsLimits deed
ActKeepsLimits (Other fact) = FactKeepsLimits fact
