use Rattle.std.proofs.Common.{ap, ◌∙◌}
use Rattle.gate_http.specs.Heads.{path_of}
use Rattle.gate_http.proofs.head.Head.line.Goals as goal

pub returns : goal.returns
returns c =
    let begins = c.requires.begins in
    record { line = (begins.0, begins.1, begins.2, c.of.ensures ∙ begins.3.method, c.path_of.ensures ∙ ap path_of (c.of-2.ensures ∙ begins.3.target)) }
