use Rattle.std.proofs.Common.{◌≡◌, ◌<◌, ◌≢◌, length, arith, rules}
use Rattle.gate_hook.proofs.Ending.{ends_empty, ends_last, stops_last, stops_within, told_last, may_end}
use Rattle.gate_hook.proofs.lines.Session.finish.Goals as goal

pub returns-then-is_empty-clause-served : goal.returns-then-is_empty-clause-served
returns-then-is_empty-clause-served g c opened input left before so_far at_end =
    let session = c.args.self.now in
    let none : length session.line ≡ 0 = search rules in
    ends_empty _ opened input left _ session.line session.count before _ none so_far

pub returns-in-Ok-clause-served : goal.returns-in-Ok-clause-served
returns-in-Ok-clause-served g c opened input left before so_far at_end =
    let session = c.args.self.now in
    let not_none : length session.line ≢ 0 = λ none. cc (c.if-is_empty.ensures.1 none) in
    let some : 0 < length session.line = omega arith in
    rw c.in-Ok.ensures.answers.count
    (ends_last _ _ opened input left _ _ session.line session.count before _ _ some c.in-Ok.ensures.steps.turns.outlasts.was so_far c.in-Ok.ensures.answers.answered)

pub returns-in-Err-clause-served : goal.returns-in-Err-clause-served
returns-in-Err-clause-served g c opened input left before so_far at_end =
    let session = c.args.self.now in
    let not_none : length session.line ≢ 0 = λ none. cc (c.if-is_empty.ensures.1 none) in
    let some : 0 < length session.line = omega arith in
    stops_last _ _ opened input left _ _ session.line session.count before _ _ c.in-Err.fault some at_end c.in-Err.ensures.steps.turns.outlasts.was so_far c.in-Err.ensures.answers.answered

pub returns-in-Err-clause-within : goal.returns-in-Err-clause-within
returns-in-Err-clause-within g c input within = stops_within g.B.Book.may_answer c.in-Err.fault input within c.in-Err.ensures.steps.cause

pub returns-in-Err-clause-steps : goal.returns-in-Err-clause-steps
returns-in-Err-clause-steps g c =
    let steps = c.in-Err.ensures.steps in
    record {
      turns = steps.turns;
      stays = steps.stays;
      cause = may_end g.B.Book.may_answer c.in-Err.fault steps.cause;
    }

pub returns-in-Err-clause-told : goal.returns-in-Err-clause-told
returns-in-Err-clause-told g c opened input left before so_far at_end begun honest =
    let session = c.args.self.now in
    let not_none : length session.line ≢ 0 = λ none. cc (c.if-is_empty.ensures.1 none) in
    let some : 0 < length session.line = omega arith in
    told_last _ opened input left _ session.line session.count before _ _ c.in-Err.fault some at_end so_far c.in-Err.ensures.answers.unwritten (begun (c.in-Err.ensures.steps.turns.outlasts.honest honest))
