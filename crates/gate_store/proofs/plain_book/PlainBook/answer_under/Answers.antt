use Rattle.std.proofs.Common.{◌∙◌, sym, ap}
use Rattle.std.specs.Cmp.Lexicographic.{nat_list_cmp_total}
use Rattle.gate_text.specs.Finite.{get-entries}
use Rattle.gate_store.specs.Run.{Records, kept_under}
use Rattle.gate_store.proofs.plain_book.PlainBook.answer_under.Goals as goal

pub returns : goal.returns
returns c =
    c.get.ensures.value ∙ sym (get-entries nat_list_cmp_total c.self.inside.answers c.args.id.now) ∙ ap (λ (book : Records). kept_under book c.args.id.now) c.self.view_is
