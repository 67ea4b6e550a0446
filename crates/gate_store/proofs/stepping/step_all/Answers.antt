use Rattle.std.proofs.Common.{rules, refl, sym, ◌∙◌, ap, ◌≡◌, false}
use Rattle.std.proofs.lemmas.Bool.{true≢false}
use Rattle.std.proofs.lemmas.List.{drop_all}
use Rattle.gate_state.specs.Room.{is_full}
use Rattle.gate_state.specs.declared.state.State.{State}
use Rattle.gate_queue.specs.Machine.{after, reply_to}
use Rattle.gate_store.specs.Run.{acts_meet_full}
use Rattle.gate_store.proofs.Telling.{full_met, told_next, full_next, led_next, led_more, tells_next}
use Rattle.gate_store.proofs.stepping.step_all.Goals as goal

pub loop-act-preserved : goal.loop-act-preserved
loop-act-preserved c =
    let acts = c.args.acts.now in
    let place = c.loop-act.act-index in
    let act = c.act-item.result in
    let at = c.act-item.is in
    let within = c.loop-act-test.true in
    let old = c.args.gate in
    let s = c.loop-act.gate in
    let t = c.in_ok-gate.gate in
    let replies = c.loop-act.replies in
    let so_far = c.loop-act.invariant in
    let stepped = c.in_ok-gate.ensures in
    let room : is_full s.queue ≡ false = stepped.full in
    record {
      told = rw stepped.reply (told_next acts place act at within old s t replies (reply_to s act) (refl, stepped.gate) so_far.told);
      full = full_next acts place act at within old s t stepped.gate room so_far.full;
      first = λ full. absurd (true≢false (sym full ∙ ap (λ (s : State). is_full s.queue) (sym (so_far.first full)) ∙ room));
      led = led_next acts place act at within old s t stepped.gate so_far.led;
      history = λ history legal.
          tells_next acts place act at within old s (after s act) (reply_to s act) (refl, refl) so_far.so_far stepped.history history legal (so_far.history history legal);
      before = rw stepped.gate (stepped.before old so_far.before);
      so_far = led_more acts place act at within old s t stepped.gate so_far.so_far;
    }

pub returns-clause-at_once : goal.returns-clause-at_once
returns-clause-at_once c full some =
    let met = full_met c.args.gate c.args.acts.now full some in
    let none : acts_meet_full c.args.gate c.args.acts.now ≡ false =
    sym c.loop-act.invariant.full ∙ ap (acts_meet_full c.loop-act.gate) (drop_all c.loop-act.act-index c.args.acts.now c.loop-act-test.false) in
    absurd (true≢false (sym met ∙ none))

pub returns-in_err-gate-clause-at_once : goal.returns-in_err-gate-clause-at_once
returns-in_err-gate-clause-at_once c full some =
    let met = c.in_err-gate.ensures.at_once (ap (λ (s : State). is_full s.queue) (c.loop-act.invariant.first full) ∙ full) in
    search (rules, met)
