use Rattle.std.proofs.Common.{codes, subst, sym, arith}
use Rattle.clap.specs.Words.{found_of, one_text}
use Rattle.clap.proofs.WalkLemmas.{one_text-rows}
use Rattle.gate_words.specs.Words.{IsNumber}
use Rattle.gate_words.proofs.Numbers.{number_read, number_same, number_unread}
use Rattle.gate_words.proofs.words.numbers_in.Goals as goal

pub returns-clause-numbers : goal.returns-clause-numbers
returns-clause-numbers c =
    let options = found_of c.args.options.now in
    let port = number_read 16 (one_text options (codes "port")) c.in_ok-port.port c.get_one.result c.in_ok-port.was c.get_one.ensures.none c.get_one.ensures.value in
    let count = number_read 32 (one_text options (codes "count")) c.in_ok-count.count c.get_one-2.result c.in_ok-count.was c.get_one-2.ensures.none c.get_one-2.ensures.value in (
      subst (IsNumber c.in_ok-port.port) (one_text-rows options (codes "port")) port,
      subst (IsNumber c.in_ok-count.count) (one_text-rows options (codes "count")) count,
    )

pub returns-in_err-port-clause-none : goal.returns-in_err-port-clause-none
returns-in_err-port-clause-none c =
    let options = found_of c.args.options.now in
    rw c.from_residual.ensures (λ port count numbers limits.
    number_unread 16 (one_text options (codes "port")) c.get_one.result c.in_err-port.was c.get_one.ensures.value port (omega (arith, limits.1))
    (subst (IsNumber port) (sym (one_text-rows options (codes "port"))) numbers.0))

pub returns-in_err-count-clause-none : goal.returns-in_err-count-clause-none
returns-in_err-count-clause-none c =
    let options = found_of c.args.options.now in
    rw c.from_residual-in_err-count.ensures (λ port count numbers limits.
    number_unread 32 (one_text options (codes "count")) c.get_one-2.result c.in_err-count.was c.get_one-2.ensures.value count (omega (arith, limits.3))
    (subst (IsNumber count) (sym (one_text-rows options (codes "count"))) numbers.1))

pub returns-then-port-eq0-clause-none : goal.returns-then-port-eq0-clause-none
returns-then-port-eq0-clause-none c port count numbers limits =
    let options = found_of c.args.options.now in
    let read_port = number_read 16 (one_text options (codes "port")) c.in_ok-port.port c.get_one.result c.in_ok-port.was c.get_one.ensures.none c.get_one.ensures.value in
    let read_count = number_read 32 (one_text options (codes "count")) c.in_ok-count.count c.get_one-2.result c.in_ok-count.was c.get_one-2.ensures.none c.get_one-2.ensures.value in
    let same_port = number_same _ c.in_ok-port.port port read_port (subst (IsNumber port) (sym (one_text-rows options (codes "port"))) numbers.0) in
    let same_count = number_same _ c.in_ok-count.count count read_count (subst (IsNumber count) (sym (one_text-rows options (codes "count"))) numbers.1) in
    grind (arith, c.then-port-eq0.either, same_port, same_count, limits)
