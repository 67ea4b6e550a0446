-- THE ACTS OF AN EVENT.
use Rattle.std.specs.Prelude.{ℕ, ⊤, List, [], ◌∷◌, map}
use Rattle.gate_text.specs.Reading.{comment_says}
use Rattle.gate_state.specs.Acts.{FactKeepsLimits}
use Rattle.gate_state.specs.declared.act.Act.{Act}
use Rattle.gate_state.specs.declared.act.Act.TheVariants as act
use Rattle.gate_state.specs.declared.act.Deed.TheVariants.{Said, Happened}
use Rattle.gate_deliveries.specs.declared.delivery.Event.{Event}
use Rattle.gate_deliveries.specs.declared.delivery.Event.TheVariants.{Comment, On, Other}

-- one act for each command that a comment says, in order
abbrev pub spoken_acts_of : ℕ → List ℕ → List ℕ → List Act
spoken_acts_of change person text = map (λ spoken. act.On change (Said person spoken)) (comment_says text)

-- one act for a fact
abbrev pub acts_of_event : Event → List Act
acts_of_event (Comment change person text) = spoken_acts_of change person text
acts_of_event (On change fact) = act.On change (Happened fact) ∷ []
acts_of_event (Other fact) = act.Other fact ∷ []

-- what every value of the type is made so: a reading of the clock is within its limit
abbrev pub EventKeepsLimits : Event → Type 0
EventKeepsLimits (Comment change person text) = ⊤
EventKeepsLimits (On change fact) = ⊤
EventKeepsLimits (Other fact) = FactKeepsLimits fact
