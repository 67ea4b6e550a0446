-- The look-backs come to what the words over the whole list say.
use Rattle.std.proofs.Common.{◌≡◌, ◌⊎◌, Bool, true, ◌&&◌, List, [], ◌∷◌, ◌++◌, Option, Some, None, refl, sym, ◌∙◌, ap, inl, inr, arith}
use Rattle.std.proofs.lemmas.List.{append-nil}
use Rattle.std.specs.Cmp.{first_so, second_so}
use Rattle.std.specs.Option.{option_or}
use Rattle.std.proofs.Math.Bool.{or-true}
use Rattle.std.proofs.lemmas.Bool.{or_cases}
use Rattle.gate_queue.specs.History.{Event, last_of, since}
use Rattle.gate_queue.specs.Words.{AllKept, StartedAndKept, AllSilent, SaidLast}

-- SINCE
module _ (start keep : Event → List Event → Bool) where
  pub since_found : (events : List Event) → since start keep events ≡ true → StartedAndKept start keep events
  since_found [] holds = cc holds
  since_found (event ∷ events) holds = elim (or_cases (start event events) (keep event events && since start keep events) holds) [
    | inl started ↦ ([], events, event, refl, started, tt)
    | inr kept ↦
        let (later, before, first, is, started, others) = since_found events (second_so (keep event events) (since start keep events) kept) in (
          event ∷ later,
          before,
          first,
          ap (λ (rest : List Event). event ∷ rest) is,
          started,
          (ap (keep event) (sym is) ∙ first_so (keep event events) (since start keep events) kept, others),
        )
  ]

  since_kept : (later before : List Event) (event : Event) → start event before ≡ true → AllKept keep later (event ∷ before) → since start keep (later ++ event ∷ before) ≡ true
  since_kept [] before event started kept = rw started refl
  since_kept (next ∷ later) before event started kept =
      rw (kept.0, since_kept later before event started kept.1) (or-true (start next (later ++ event ∷ before)))

  pub since_holds : (events : List Event) → StartedAndKept start keep events → since start keep events ≡ true
  since_holds events (later, before, event, is, started, kept) = ap (since start keep) is ∙ since_kept later before event started kept

-- THE LAST
pub none_both : {X : Type 0} (this rest : Option X) → option_or this rest ≡ None → (this ≡ None) × (rest ≡ None)
none_both this rest is = (grind arith, grind arith)

module _ {X : Type 0} (said : Event → List Event → Option X) where
  last_first : (this rest : Option X) (x : X) → option_or this rest ≡ Some x → (this ≡ Some x) ⊎ ((this ≡ None) × (rest ≡ Some x))
  last_first this rest x is = grind arith

  pub last_found : (events : List Event) (x : X) → last_of said events ≡ Some x → SaidLast said events x
  last_found [] x is = cc is
  last_found (event ∷ events) x is = elim (last_first (said event events) (last_of said events) x is) [
    | inl here ↦ ([], events, event, refl, here, tt)
    | inr (silent, rest) ↦
        let (later, before, first, at, says, others) = last_found events x rest in
        (event ∷ later, before, first, ap (λ (tail : List Event). event ∷ tail) at, says, (ap (said event) (sym at) ∙ silent, others))
  ]

  last_said : (later before : List Event) (event : Event) (x : X) → said event before ≡ Some x → AllSilent said later (event ∷ before) → last_of said (later ++ event ∷ before) ≡ Some x
  last_said [] before event x says silent = rw says refl
  last_said (next ∷ later) before event x says silent = rw silent.0 (last_said later before event x says silent.1)

  pub last_is : (events : List Event) (x : X) → SaidLast said events x → last_of said events ≡ Some x
  last_is events x (later, before, event, at, says, silent) = ap (last_of said) at ∙ last_said later before event x says silent

  silent_before : (later before : List Event) → last_of said (later ++ before) ≡ None → AllSilent said later before
  silent_before [] before is = tt
  silent_before (event ∷ later) before is =
      let both = none_both (said event (later ++ before)) (last_of said (later ++ before)) is in
      (both.0, silent_before later before both.1)

  pub none_found : (events : List Event) → last_of said events ≡ None → AllSilent said events []
  none_found events is = silent_before events [] (ap (last_of said) (append-nil events) ∙ is)

  none_before : (later before : List Event) → AllSilent said later before → last_of said before ≡ None → last_of said (later ++ before) ≡ None
  none_before [] before silent none = none
  none_before (event ∷ later) before silent none = rw silent.0 (none_before later before silent.1 none)

  pub none_is : (events : List Event) → AllSilent said events [] → last_of said events ≡ None
  none_is events silent = ap (last_of said) (sym (append-nil events)) ∙ none_before events [] silent refl
