-- What acts in order tell, one act after the other.
use Rattle.std.proofs.Common.{◌≡◌, ◌<◌, ◌+◌, ℕ, Bool, true, false, ◌||◌, List, [], ◌∷◌, ◌++◌, length, drop, take, get_or, refl, sym, ◌∙◌, ap, subst, append_assoc, arith}
use Rattle.gate_state.specs.declared.act.Act.{Act}
use Rattle.gate_state.specs.declared.reply.Reply.{Reply}
use Rattle.gate_queue.specs.History.{Entry, EntryTells, Legal, entry_of}
use Rattle.gate_queue.specs.Machine.{reply_to, after}
use Rattle.gate_state.specs.Room.{is_full}
use Rattle.gate_state.specs.declared.state.State.{State}
use Rattle.gate_store.specs.Headline.{Each, Tells, entry_for, history_after}
use Rattle.gate_store.specs.Run.{replies_to, after_all, acts_meet_full}
use Rattle.gate_answers.proofs.Places.{here, up_to}

pub full_met : (s : State) (acts : List Act) → is_full s.queue ≡ true → 0 < length acts → acts_meet_full s acts ≡ true
full_met s [] full some = absurd (omega (arith, some))
full_met s (act ∷ acts) full some = ap (λ (b : Bool). b || acts_meet_full (after s act) acts) full

pub after_all-append : (s : State) (acts others : List Act) → after_all s (acts ++ others) ≡ after_all (after_all s acts) others
after_all-append s [] others = refl
after_all-append s (act ∷ acts) others = after_all-append (after s act) acts others

-- one more act, after all acts before it
each_push : (P : List Entry → State → Act → Type 0) (history : List Entry) (s : State) (acts : List Act) (act : Act)
    → Each P history s acts → P (history_after history s acts) (after_all s acts) act → Each P history s (acts ++ act ∷ [])
each_push P history s [] act each last = (last, tt)
each_push P history s (first ∷ acts) act (now, each) last = (now, each_push P (entry_for s first ∷ history) (after s first) acts act each last)

-- what each act tells keeps the history legal
pub still_legal : (history : List Entry) (s : State) (acts : List Act) → Legal history s → Each Tells history s acts → Legal (history_after history s acts) (after_all s acts)
still_legal history s [] legal tells = legal
still_legal history s (act ∷ acts) legal (now, tells) = still_legal (entry_for s act ∷ history) (after s act) acts now.legal tells

-- The act at a place steps, after those before it.
module _ (acts : List Act) (place : ℕ) (act : Act) (at : act ≡ get_or acts place act) (within : place < length acts) where
  pub told_next : (old s t : State) (replies : List Reply) (reply : Reply) → (reply ≡ reply_to s act) × (t ≡ after s act)
      → replies ++ replies_to s (drop place acts) ≡ replies_to old acts → (replies ++ reply ∷ []) ++ replies_to t (drop (place + 1) acts) ≡ replies_to old acts
  told_next old s t replies reply is told =
      append_assoc replies (reply ∷ []) (replies_to t (drop (place + 1) acts)) ∙ rw (is.0, is.1) (ap (λ (rest : List Act). replies ++ replies_to s rest) (sym (here acts place act at within)) ∙ told)

  pub full_next : (old s t : State) → t ≡ after s act → is_full s.queue ≡ false → acts_meet_full s (drop place acts) ≡ acts_meet_full old acts → acts_meet_full t (drop (place + 1) acts) ≡ acts_meet_full old acts
  full_next old s t is room full = rw is (sym (ap (acts_meet_full s) (here acts place act at within) ∙ ap (λ (b : Bool). b || acts_meet_full (after s act) (drop (place + 1) acts)) room) ∙ full)

  pub led_next : (old s t : State) → t ≡ after s act → after_all s (drop place acts) ≡ after_all old acts → after_all t (drop (place + 1) acts) ≡ after_all old acts
  led_next old s t is led = rw is (ap (after_all s) (sym (here acts place act at within)) ∙ led)

  pub led_more : (old s t : State) → t ≡ after s act → s ≡ after_all old (take place acts) → t ≡ after_all old (take (place + 1) acts)
  led_more old s t is at_s = is ∙ ap (λ (now : State). after now act) at_s ∙ sym (ap (after_all old) (up_to acts place act at within) ∙ after_all-append old (take place acts) (act ∷ []))

  pub tells_next : (old s t : State) (reply : Reply) → (reply ≡ reply_to s act) × (t ≡ after s act) → s ≡ after_all old (take place acts)
      → ((before : List Entry) → Legal before s → EntryTells before s (entry_of act reply) t)
      → (history : List Entry) → Legal history old → Each Tells history old (take place acts) → Each Tells history old (take (place + 1) acts)
  tells_next old s t reply is at_s tells history legal told =
      let so : (before : List Entry) → Legal before s → Tells before s act = rw (← is.0, ← is.1) tells in
      rw (up_to acts place act at within) (each_push Tells history old (take place acts) act told (subst (λ (now : State). Tells (history_after history old (take place acts)) now act) at_s
      (so _ (subst (Legal (history_after history old (take place acts))) (sym at_s) (still_legal history old (take place acts) legal told)))))
