use Rattle.std.proofs.Common.{◌∙◌, sym, ap}
use Rattle.std.specs.Cmp.Lexicographic.{nat_list_cmp_total}
use Rattle.std.specs.FinMap.{get}
use Rattle.gate_text.specs.Finite.{get-entries}
use Rattle.gate_queue.proofs.before.noting.role_on.Goals as goal

pub returns : goal.returns
returns c = c.copied.ensures ∙ c.get.ensures.value ∙ sym (get-entries nat_list_cmp_total c.roles.result.now c.args.person.now) ∙ ap (λ roles. get roles c.args.person.now) c.roles.ensures.value
