use Rattle.std.proofs.Common.{◌≡◌, ℕ, ◌+◌, ◌-◌, ◌≤◌, List, ◌++◌, length, take, drop, sym, ◌∙◌, ap, subst, arith}
use Rattle.std.proofs.KnownBytes.{Appends-trans}
use Rattle.std.proofs.Math.Seq.{take-append-add}
use Rattle.std.proofs.lemmas.List.{take_all, take-append-drop, length-take-le, length-drop}
use Rattle.std.specs.Io.KnownBytes.{Appends}
use Rattle.gate_hook.proofs.sending.send.Goals as goal

-- what is left of a text, from the byte after those that were sent
rest_of : (text : List ℕ) (sent : ℕ) → take (length text - sent) (drop sent text) ≡ drop sent text
rest_of text sent = take_all (length text - sent) (drop sent text) (omega (arith, length-drop sent text))

taken : (text : List ℕ) (sent n : ℕ) → sent ≤ length text → take sent text ++ take n (drop sent text) ≡ take (sent + n) text
taken text sent n within =
    let front = take sent text in
    let size : length front ≡ sent = length-take-le sent text within in
    sym (take-append-add front (drop sent text) n) ∙ ap (λ (m : ℕ). take (m + n) (front ++ drop sent text)) size ∙ ap (take (sent + n)) (take-append-drop sent text)

pub loop-sent-preserved : goal.loop-sent-preserved
loop-sent-preserved g c =
    let text = c.args.text.now in
    let sent = c.loop-sent.sent in
    let rest = rest_of text sent in
    let bound = rw rest at c.in-Ok.ensures.bound in
    let bytes = rw rest at c.in-Ok.ensures.bytes in
    record {
      within = omega (arith, bound, length-drop sent text, c.loop-sent.invariant.within);
      so_far = subst (Appends (g.W.Write.contents c.args.writer.now) (g.W.Write.contents c.write.new.self)) (taken text sent c.in-Ok.n c.loop-sent.invariant.within)
          (Appends-trans _ _ _ (take sent text) (take c.in-Ok.n (drop sent text)) c.loop-sent.invariant.so_far bytes);
    }
