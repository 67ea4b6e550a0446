use Rattle.std.proofs.Common.{Some, ap, sym, ◌∙◌}
use Rattle.gate_http.proofs.Fields.{first-found, values-kept}
use Rattle.gate_http.proofs.head.first_of.Goals as goal

pub returns-then-is_named : goal.returns-then-is_named
returns-then-is_named c = ap Some c.of.ensures ∙ sym (first-found _ _ _ _ _ c.loop-field-test.true c.loop-field.invariant (sym c.if-is_named.ensures))

pub loop-field-preserved : goal.loop-field-preserved
loop-field-preserved c = values-kept _ _ _ _ _ c.loop-field-test.true (sym c.if-is_named.ensures) ∙ c.loop-field.invariant
