use Rattle.std.proofs.Common.{◌≡◌, ℕ, suc, ◌+◌, ◌<◌, List, [], ◌∷◌, ◌++◌, length, take, drop, get_or, sym, ◌∙◌, ap, add-one, append_assoc, arith}
use Rattle.std.proofs.Math.Seq.{drop-cons, take-suc}
use Rattle.std.proofs.lemmas.List.{take_all, take-append-drop}
use Rattle.gate_hook.proofs.Sessions.{turns_both}
use Rattle.gate_hook.proofs.lines.Session.take_chunk.Goals as goal

-- bytes, cut at one of them
cut_at : (bytes : List ℕ) (i b : ℕ) → i < length bytes → get_or bytes i 0 ≡ b → bytes ≡ take i bytes ++ b ∷ drop (suc i) bytes
cut_at bytes i b within is =
    sym (take-append-drop i bytes) ∙ ap (λ (rest : List ℕ). take i bytes ++ rest) (drop-cons bytes i 0 within) ∙ ap (λ (x : ℕ). take i bytes ++ x ∷ drop (suc i) bytes) is

-- one byte more of them
one_more : (input bytes : List ℕ) (i : ℕ) → i < length bytes → (input ++ take i bytes) ++ get_or bytes i 0 ∷ [] ≡ input ++ take (i + 1) bytes
one_more input bytes i within =
    append_assoc input (take i bytes) (get_or bytes i 0 ∷ [])
    ∙ ap (λ (front : List ℕ). input ++ front) (sym (ap (λ (n : ℕ). take n bytes) (add-one i) ∙ take-suc bytes i 0 within))

pub loop-byte-preserved : goal.loop-byte-preserved
loop-byte-preserved g c =
    let bytes = c.args.bytes.now in
    let i = c.loop-byte.byte-index in
    let so_far = c.loop-byte.invariant in
    record {
      counted = omega (arith, c.in-Ok.ensures.count, so_far.counted);
      turns = turns_both g.B.Book _ _ _ so_far.turns c.in-Ok.ensures.steps.turns;
      stays = λ begun premise. c.in-Ok.ensures.steps.stays (so_far.stays begun) premise;
      taken = λ opened input before begun.
          rw (← one_more input bytes i c.loop-byte-test.true) (c.in-Ok.ensures.taken opened (input ++ take i bytes) before (so_far.taken opened input before begun));
    }

pub returns-clause-taken : goal.returns-clause-taken
returns-clause-taken g c opened input before begun =
    let all = take_all c.loop-byte.byte-index c.args.bytes.now c.loop-byte-test.false in
    rw all at c.loop-byte.invariant.taken opened input before begun

pub returns-in-Err-clause-taken : goal.returns-in-Err-clause-taken
returns-in-Err-clause-taken g c opened input before so_far =
    let bytes = c.args.bytes.now in
    let i = c.loop-byte.byte-index in
    let at = c.in-Err.ensures.taken opened (input ++ take i bytes) before (c.loop-byte.invariant.taken opened input before so_far) in
    record {
      front = take i bytes;
      others = drop (suc i) bytes;
      bytes = cut_at bytes i 10 c.loop-byte-test.true at.0;
      stops = at.1;
      told = λ premise. at.2 (c.loop-byte.invariant.stays premise.0, premise.1);
    }

pub returns-in-Err-clause-steps : goal.returns-in-Err-clause-steps
returns-in-Err-clause-steps g c = record {
  turns = turns_both g.B.Book _ _ _ c.loop-byte.invariant.turns c.in-Err.ensures.steps.turns;
  stays = λ begun premise. c.in-Err.ensures.steps.stays (c.loop-byte.invariant.stays begun) premise;
  cause = c.in-Err.ensures.steps.cause;
}
