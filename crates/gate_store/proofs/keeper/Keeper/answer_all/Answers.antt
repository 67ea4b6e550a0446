use Rattle.std.proofs.Common.{◌≡◌, ◌++◌, [], ◌∷◌, List, length, ◌∙◌, ap, arith}
use Rattle.std.proofs.lemmas.List.{length_push}
use Rattle.gate_state.specs.declared.reply.Reply.{Reply}
use Rattle.gate_store.proofs.Outlasting.{outlasts_both}
use Rattle.gate_store.proofs.Runs.{answers_more, led_more, room_more, tell_more}
use Rattle.gate_store.proofs.keeper.Keeper.answer_all.Goals as goal

pub loop-delivery-preserved : goal.loop-delivery-preserved
loop-delivery-preserved g c =
    let old = g.B.Book.shows c.args.self.now in
    let now = g.B.Book.shows c.loop-delivery.self in
    let deliveries = c.args.deliveries.now in
    let place = c.loop-delivery.delivery-index in
    let delivery = c.delivery-item.result in
    let at = c.delivery-item.is in
    let within = c.loop-delivery-test.true in
    let was = c.in-Ok.ensures.delivers.outlasts.was in
    let before = c.in-Ok.ensures.delivers.outlasts.honest in
    let stays = c.in-Ok.ensures.delivers.stays in
    let so_far = c.loop-delivery.invariant in
    let pushed : c.push_reserved.new.self.items ≡ c.loop-delivery.answers.items ++ c.in-Ok.answer ∷ [] =
    ◌∙◌ {A = List (List Reply)} c.push_reserved.ensures.items (ap (λ answers. answers ++ c.in-Ok.answer ∷ []) c.reserve.ensures.items) in
    record {
      answers = λ honest.
          let led = so_far.book (was (stays honest)) in
          rw pushed (answers_more old now deliveries place delivery at within led c.loop-delivery.answers.items c.in-Ok.answer (so_far.answers (before honest)) (c.in-Ok.ensures.answer (stays honest)));
      book = λ sound.
          led_more old now deliveries place delivery at within (so_far.book (was sound)) (g.B.Book.shows c.answer.new.self) (c.in-Ok.ensures.delivers.book sound);
      history = λ honest.
          tell_more old now deliveries place delivery at within (so_far.book (was (stays honest))) (so_far.history (before honest)) (c.in-Ok.ensures.delivers.tells (stays honest));
      room = λ honest.
          room_more old now deliveries place delivery at within (so_far.book (was (stays honest))) (so_far.room (before honest)) (c.in-Ok.ensures.delivers.full (stays honest));
      count = omega (arith, ap length pushed, length_push c.loop-delivery.answers.items c.in-Ok.answer, so_far.count);
      outlasts = outlasts_both g.B.Book _ _ _ so_far.outlasts c.in-Ok.ensures.delivers.outlasts;
      stays = λ begun honest. stays honest;
    }
