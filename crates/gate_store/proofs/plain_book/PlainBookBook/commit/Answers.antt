use Rattle.std.proofs.Common.{◌∙◌, ap, rules}
use Rattle.gate_store.specs.Logged.{after_log}
use Rattle.gate_store.proofs.plain_book.PlainBookBook.commit.Goals as goal

pub returns-in_err-keep : goal.returns-in_err-keep
returns-in_err-keep c =
    let book = c.self.inside in
    let same = ap (λ kept. record { state = after_log book.gate book.log.items; kept = kept }) c.in_err-keep.ensures.err ∙ c.self.view_is in
    record {
      commits = record {
        ok = search rules;
        err = search (rules, same);
        outlasts = search rules;
        stays = search rules;
        cause = search rules;
        fault = search rules;
      };
    }
