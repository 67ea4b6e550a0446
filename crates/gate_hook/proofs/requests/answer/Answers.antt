use Rattle.std.proofs.Common.{inl, inr}
use Rattle.gate_store.proofs.Outlasting.{outlasts_none}
use Rattle.gate_hook.proofs.Responding.{answers-read, answers-unread, consumed-anyhow, makes-anyhow, some-input, unread-fails, unread-stays}
use Rattle.gate_hook.proofs.requests.answer.Goals as goal

pub returns-in-Err-clause-answers : goal.returns-in-Err-clause-answers
returns-in-Err-clause-answers g c =
    let failed = c.in-Err.ensures.asked in
    let input = some-input _ _ (failed.1.0, failed.1.1) in
    record {
      answered = (input.0, input.1, λ sound. answers-unread _ _ _ _ failed.0);
      anyhow = λ honest. inr (input.0, input.1, tt);
      taken = failed.1;
      outlasts = outlasts_none g.B.Book _;
      stays = λ begun honest. unread-stays c.in-Err.fault _ failed.0 (begun honest);
      cause = unread-fails g.B.Book.may_answer c.in-Err.fault failed.0;
    }

pub returns-clause-answers : goal.returns-clause-answers
returns-clause-answers g c =
    let asked = c.in-Ok.ensures.asked.0 in
    let made = c.respond.ensures.makes in
    record {
      answered = (asked.0, asked.1, λ sound. answers-read _ _ _ _ _ _ asked.2 (made.responds sound));
      anyhow = λ honest. elim (made.anyhow honest) [
        | inl sound ↦ inl sound
        | inr anyhow ↦ inr (asked.0, asked.1, makes-anyhow _ _ _ _ asked.2 anyhow)
      ];
      taken = c.in-Ok.ensures.asked.1;
      outlasts = made.outlasts;
      stays = made.stays;
      cause = made.cause;
    }

pub returns-clause-consumed : goal.returns-clause-consumed
returns-clause-consumed g c = consumed-anyhow c.respond.result _ _ _ c.in-Ok.ensures.consumed
