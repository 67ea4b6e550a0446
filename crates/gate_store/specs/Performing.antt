-- WHAT A BOOK IS TOLD of a delivery that acted.
use Rattle.std.specs.Prelude.{◌≡◌, false}
use Rattle.std.specs.List.{All}
use Rattle.std.specs.String.{string_bytes}
use Rattle.gate_answers.specs.Answers.{answer_text_of}
use Rattle.gate_answers.specs.Reading.{answer_of}
use Rattle.gate_state.specs.Acts.{ActKeepsLimits}
use Rattle.gate_state.specs.declared.state.State.{State}
use Rattle.gate_queue.specs.Before.{IsBefore}
use Rattle.gate_store.specs.Run.{acts_meet_full, after_all}
use Rattle.gate_store.specs.declared.answered.Answered.{Answered}
use Rattle.gate_store.specs.declared.answered.Performed.{Performed}

-- The acts lead from one state to another, and what was noted is what was before them. Each keeps its limits, and none met a full gate.
pub record LeadsFrom (old : State) (performed : Performed) (new : State) : Type 0 where
  pub before : IsBefore performed.before old new
  pub after : new ≡ after_all old performed.acts
  pub room : acts_meet_full old performed.acts ≡ false
  pub limits : All ActKeepsLimits performed.acts

-- The text is that of the answer, and is read as it.
pub record HasItsText (answered : Answered) : Type 0 where
  pub text : string_bytes answered.text ≡ answer_text_of answered.answer
  pub reads : answer_of (string_bytes answered.text) ≡ answered.answer
