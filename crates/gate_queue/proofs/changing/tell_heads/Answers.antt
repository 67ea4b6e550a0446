use Rattle.std.proofs.Common.{◌≡◌, OnOk, sym, ◌∙◌, ap, subst}
use Rattle.gate_rules.specs.View.{with_status}
use Rattle.gate_queue.specs.Vocabulary.{DeskView}
use Rattle.gate_queue.specs.Machine.{all_altered}
use Rattle.gate_queue.proofs.Telling.{told_all, told_none}
use Rattle.gate_queue.proofs.changing.tell_heads.Goals as goal

pub returns-then-not-is_open_head-clause-ok : goal.returns-then-not-is_open_head-clause-ok
returns-then-not-is_open_head-clause-ok c =
    sym (told_none c.args.commit c.args.name.now c.args.is_success c.args.desk.now (sym c.is_open_head.ensures.value ∙ c.if-not-is_open_head.true))

pub returns-clause-ok : goal.returns-clause-ok
returns-clause-ok c =
    let name = c.args.name.now in
    let success = c.args.is_success in
    let told = told_all c.args.commit name success c.args.desk.now c.in_ok-numbers.numbers.items c.in_ok-numbers.ensures.value in
    subst (λ (desk : DeskView). OnOk c.tell_all.result (c.tell_all.new.desk ≡ desk))
    (ap (all_altered (with_status name success) c.args.desk.now) c.as_slice.ensures.value ∙ told) c.tell_all.ensures
