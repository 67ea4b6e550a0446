use Rattle.std.proofs.Common.{◌≡◌, ◌∙◌, ◌++◌, ◌∷◌, [], false, ap, rules, subst, sym}
use Rattle.std.specs.FinMap.{insert}
use Rattle.gate_store.specs.Logged.{after_log}
use Rattle.gate_store.specs.Run.{Records, acts_meet_full, after_all}
use Rattle.gate_store.proofs.Logged.{after_more, repeated_more}
use Rattle.gate_store.proofs.plain_book.PlainBookBook.commit_since.Goals as goal

pub invariant_of-self-2 : goal.invariant_of-self-2
invariant_of-self-2 c =
    let book = c.self.inside in
    let acts = c.args.performed.acts in
    let leads = c.requires.leads tt in
    let now = ap (λ (records : Records). records.state) c.self.view_is in
    rw (c.push_reserved.ensures.items, c.reserve.ensures.items)
    (repeated_more book.gate book.log.items acts c.self.invariant (subst (λ s. acts_meet_full s acts ≡ false) (sym now) leads.room) leads.limits)

pub returns : goal.returns
returns c =
    let book = c.self.inside in
    let acts = c.args.performed.acts in
    let leads = c.requires.leads tt in
    let logged = ap (after_log book.gate) (c.push_reserved.ensures.items ∙ ap (λ log. log ++ acts ∷ []) c.reserve.ensures.items) in
    let state = logged ∙ after_more book.gate book.log.items acts ∙ ap (λ (records : Records). after_all records.state acts) c.self.view_is ∙ sym leads.after in
    let kept = c.in_ok-keep.ensures.ok ∙ ap (λ (records : Records). insert records.kept c.args.id.now c.args.answered.now.answer) c.self.view_is in
    record {
      commits = record {
        ok = λ sound i. record { state = state i; kept = kept i };
        err = search rules;
        outlasts = search rules;
        stays = search rules;
        cause = search rules;
        fault = search rules;
      };
    }
