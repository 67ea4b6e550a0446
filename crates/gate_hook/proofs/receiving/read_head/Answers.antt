use Rattle.std.proofs.Common.{inl, inr, refl, sym, arith, subst, length-append}
use Rattle.std.proofs.KnownBytes.{Consumes-trans}
use Rattle.httparse.specs.Grammar.{HasNoRequest}
use Rattle.httparse.specs.Spans.{RequestOverflows}
use Rattle.gate_hook.proofs.Losing.{kept-but-last}
use Rattle.gate_hook.proofs.Needing.{few-left, len-within, takes-new}
use Rattle.gate_hook.proofs.NoHead.{none-ever, none-when-full}
use Rattle.gate_http.specs.Heads.{max_fields, IsHeadOf}
use Rattle.gate_hook.proofs.receiving.read_head.Goals as goal

pub returns-in-Never : goal.returns-in-Never
returns-in-Never g c =
    let never = subst (RequestOverflows max_fields) c.deref.ensures.value (rw c.in-Never.is at c.head_in.ensures) in
    (c.loop-head.invariant.0, none-ever _ _ never, c.loop-head.invariant.1, inr never)

pub returns-then-room-eq0 : goal.returns-then-room-eq0
returns-then-room-eq0 g c =
    let unfinished = subst HasNoRequest c.deref.ensures.value (rw c.in-Unfinished.is at c.head_in.ensures) in (
      c.loop-head.invariant.0,
      none-when-full _ _ (omega (arith, c.if-room-eq0.true, c.len-room.ensures, c.loop-head.invariant.1)) unfinished,
      c.loop-head.invariant.1,
      inl unfinished,
    )

pub returns-in-Err : goal.returns-in-Err
returns-in-Err g c =
    let unfinished = subst HasNoRequest c.deref.ensures.value (rw c.in-Unfinished.is at c.head_in.ensures) in
    let failed = c.in-Err.ensures in (
      (
        failed.0,
        (
          _,
          Consumes-trans _ _ _ _ _ c.loop-head.invariant.0 failed.2.1,
          takes-new _ (inr (_, _, refl, unfinished, failed.2.3))
              (omega (arith, failed.2.2, c.len-room.ensures, c.loop-head.invariant.1, length-append c.loop-head.bytes.items failed.2.0)),
        ),
      ),
      kept-but-last _ _ _ _ _ _ failed.1 c.loop-head.invariant.0 failed.2.1 failed.2.3,
      inl (subst HasNoRequest (sym failed.1) unfinished),
    )

pub returns-in-Whole : goal.returns-in-Whole
returns-in-Whole g c =
    let is = subst (IsHeadOf _ c.in-Whole.head) c.deref.ensures.value (rw c.in-Whole.is at c.head_in.ensures) in
    (c.loop-head.invariant.0, is, omega (arith, len-within _ _ is, c.loop-head.invariant.1), few-left _ _ is c.loop-head.invariant.2)
