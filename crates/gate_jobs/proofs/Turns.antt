-- Connections in turn, and one more.
use Rattle.std.proofs.Common.{◌≡◌, ◌⊎◌, inl, inr, ℕ, List, [], ◌∷◌, ◌++◌, Option, Some, None, Result, Ok, Err, refl, subst}
use Rattle.std.specs.Io.KnownBytes.{Appends}
use Rattle.gate_hook.specs.Sending.{IsCutOff}
use Rattle.gate_hook.specs.Served.{IsSoundUnless, StaysServing}
use Rattle.gate_hook.specs.declared.fault.HookFault.{HookFault}
use Rattle.gate_hook.specs.declared.fault.HookFault.TheVariants.{Gate, Read, Write, TooMuch}
use Rattle.gate_hook.specs.declared.requests.Served.{Served}
use Rattle.gate_http.specs.Responses.{fault_response, response_text}
use Rattle.gate_queue.specs.declared.fault.Fault.{Fault}
use Rattle.gate_queue.specs.declared.fault.Fault.TheVariants.{Memory, Store, Full, Foreign}
use Rattle.gate_store.specs.Run.{IsOpenAfter, Records}
use Rattle.gate_jobs.specs.Accepting.{AddsText, AreAcceptedInTurn, AreEndedInTurn, ComesFirst, Connection}
use Rattle.gate_jobs.specs.Serving.{AreServedInTurn, AreServedOver, IsServed, IsServedOver}

pub one_more_served : (token : Option (List ℕ)) (connections : List Connection) (last : Connection) (old between new : Records)
    → AreServedInTurn token connections old between → IsServed token last between new → AreServedInTurn token (connections ++ last ∷ []) old new
one_more_served token [] last old between new turns served =
    (new, subst (λ (records : Records). IsServed token last records new) turns served, refl)
one_more_served token (first ∷ connections) last old between new turns served =
    (turns.0, turns.1, one_more_served token connections last turns.0 between new turns.2 served)

pub one_more_accepted : (connections : List Connection) (last : Connection) (old between new : Option (List (List ℕ)))
    → AreAcceptedInTurn connections old between → ComesFirst between new last.unread last.blank
    → AreAcceptedInTurn (connections ++ last ∷ []) old new
one_more_accepted [] last old between new turns comes =
    (new, subst (λ (waiting : Option (List (List ℕ))). ComesFirst waiting new last.unread last.blank) turns comes, refl)
one_more_accepted (first ∷ connections) last old between new turns comes =
    (turns.0, turns.1, one_more_accepted connections last turns.0 between new turns.2 comes)

pub one_more_ended : (text : Connection → Option (List ℕ)) (connections : List Connection) (last : Connection) (old between new : Option (List (List ℕ)))
    → AreEndedInTurn text connections old between → AddsText between new (text last)
    → AreEndedInTurn text (connections ++ last ∷ []) old new
one_more_ended text [] last old between new turns adds =
    (new, subst (λ (ended : Option (List (List ℕ))). AddsText ended new (text last)) turns adds, refl)
one_more_ended text (first ∷ connections) last old between new turns adds =
    (turns.0, turns.1, one_more_ended text connections last turns.0 between new turns.2 adds)

-- OVER A BOOK THAT A FAULT MAY SHUT
pub one_more_over : {B : Type 0} (shows : B → Records) (is_sound : B → Type 0) (token : Option (List ℕ)) (connections : List Connection) (last : Connection) (old between new : B)
    → AreServedOver shows is_sound token connections old between → IsServedOver shows is_sound token last between new
    → AreServedOver shows is_sound token (connections ++ last ∷ []) old new
one_more_over {B} shows is_sound token [] last old between new turns served =
    (new, subst (λ (book : B). IsServedOver shows is_sound token last book new) turns served, refl)
one_more_over {B} shows is_sound token (first ∷ connections) last old between new turns served =
    (turns.0, turns.1, one_more_over shows is_sound token connections last turns.0 between new turns.2 served)

-- A fault after which the book may be shut was told by the response after faults.
open_or_told : (fault : Fault) (sound told : Type 0) → IsOpenAfter fault sound → told → sound ⊎ told
open_or_told Full sound told stays sent = inl stays
open_or_told Memory sound told stays sent = inr sent
open_or_told Store sound told stays sent = inr sent
open_or_told Foreign sound told stays sent = inr sent

cut_or_sound : (fault : Option Fault) (sound told : Type 0) → IsSoundUnless fault sound told → sound ⊎ told
cut_or_sound None sound told stays = inl stays
cut_or_sound (Some fault) sound told stays = open_or_told fault sound told stays.0 stays.1

sent_or_sound : (fault : Option Fault) (sound whole part is : Type 0) → IsSoundUnless fault sound (is × whole) → sound ⊎ (whole ⊎ part)
sent_or_sound None sound whole part is stays = inl stays
sent_or_sound (Some fault) sound whole part is stays = open_or_told fault sound (whole ⊎ part) stays.0 (inl stays.1.1)

pub sound_or_fault : (result : Result Served HookFault) (sound : Type 0) (before after : Option (List ℕ)) → StaysServing result sound before after
    → sound ⊎ (Appends before after (response_text fault_response) ⊎ IsCutOff (response_text fault_response) before after)
sound_or_fault (Ok served) sound before after stays =
    sent_or_sound served.fault sound (Appends before after (response_text fault_response)) (IsCutOff (response_text fault_response) before after)
    (served.status ≡ 503) stays
sound_or_fault (Err Write) sound before after stays =
    elim (cut_or_sound stays.0 sound (IsCutOff (response_text fault_response) before after) stays.1) [ inl still ↦ inl still | inr cut ↦ inr (inr cut) ]
sound_or_fault (Err Read) sound before after stays = inl stays
sound_or_fault (Err (Gate fault)) sound before after stays = absurd stays
sound_or_fault (Err TooMuch) sound before after stays = absurd stays
