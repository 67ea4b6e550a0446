use Rattle.std.proofs.Common.{sym}
use Rattle.gate_http.proofs.Fields.{named-is}
use Rattle.gate_http.proofs.head.is_named.Goals as goal

pub returns : goal.returns
returns c =
    rw (sym c.of.ensures, sym c.as_bytes.ensures.value) (sym (named-is c.as_bytes.result.now c.of.result.now _ c.eq_ignore_ascii_case.ensures.test))
