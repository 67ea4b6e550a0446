use Rattle.std.proofs.Common.{arith, ap, sym, ◌∙◌, length}
use Rattle.gate_http.proofs.Fields.{count-more, values-kept}
use Rattle.gate_http.proofs.head.count_of.Goals as goal
use Rattle.gate_http.proofs.head.count_of.Goals.{then-is_named, else-is_named}

pub loop-field-preserved : goal.loop-field-preserved
loop-field-preserved c =
    elim c.if-is_named.branch [
      | then-is_named w ↦
          let more = count-more _ _ _ _ _ c.loop-field-test.true (sym w.if-is_named.ensures) in
          (omega (arith, w.count-is, c.loop-field.invariant.0, more), omega (arith, w.count-is, c.loop-field.invariant.1))
      | else-is_named w ↦
          let kept = values-kept _ _ _ _ _ c.loop-field-test.true (sym w.if-is_named.ensures) in
          (w.count-is ∙ c.loop-field.invariant.0 ∙ sym (ap length kept), omega (arith, w.count-is, c.loop-field.invariant.1))
    ]
