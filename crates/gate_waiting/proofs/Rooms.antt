-- What each call leaves is a room again.
use Rattle.std.proofs.Common.{arith, eqb, ◌≡◌, ◌≢◌, ◌⊎◌, inl, inr, ℕ, suc, ◌+◌, ◌<◌, ◌≤◌, Bool, true, false, cond, List, [], ◌∷◌, ◌++◌, length, Some, refl, ap, subst}
use Rattle.std.proofs.lemmas.Bool.Decides.{eqb_tells}
use Rattle.std.specs.List.{AllByRecursion, find}
use Rattle.std.specs.Option.{unwrap_or}
use Rattle.gate_waiting.specs.Calls.{new_guest, with_guest, without_first}
use Rattle.gate_waiting.specs.Room.{IsRoom, Room, most, ready_numbers, times, waiting_numbers}
use Rattle.gate_waiting.specs.declared.guest.Guest.{Guest}
use Rattle.gate_waiting.specs.declared.guest.Ready.{Ready}
use Rattle.gate_waiting.specs.declared.guest.Reason.{Reason}
use Rattle.gate_waiting.specs.declared.guest.Reason.TheVariants.{Whole}

-- how often a number is another one
abbrev pub one : ℕ → ℕ → ℕ
one n m = cond (eqb m n) 1 0

pub one_itself : (n : ℕ) → one n n ≡ 1
one_itself n = elim (eqb_tells n n) [ inl h ↦ rw h.0 refl | inr h ↦ absurd (h.1 refl) ]

pub one_another : (n m : ℕ) → m ≢ n → one n m ≡ 0
one_another n m other = elim (eqb_tells m n) [ inl h ↦ absurd (other h.1) | inr h ↦ rw h.0 refl ]

pub one_most : (n m : ℕ) → one n m ≤ 1
one_most n m = elim (eqb_tells m n) [ inl h ↦ rw h.0 (omega arith) | inr h ↦ rw h.0 (omega arith) ]

-- one more at the end
pub times_waiting : (n : ℕ) (gs : List Guest) (g : Guest) → times n (waiting_numbers (gs ++ g ∷ [])) ≡ times n (waiting_numbers gs) + one n g.connection
times_waiting n [] g = omega arith
times_waiting n (x ∷ gs) g = let rest = times_waiting n gs g in omega arith

pub times_ready : (n : ℕ) (rs : List Ready) (r : Ready) → times n (ready_numbers (rs ++ r ∷ [])) ≡ times n (ready_numbers rs) + one n r.guest.connection
times_ready n [] r = omega arith
times_ready n (x ∷ rs) r = let rest = times_ready n rs r in omega arith

pub longer : {X : Type 0} (xs : List X) (x : X) → length (xs ++ x ∷ []) ≡ suc (length xs)
longer [] x = refl
longer (y ∷ xs) x = ap suc (longer xs x)

pub all_more : {X : Type 0} (P : X → Type 0) (xs : List X) (x : X) → AllByRecursion P xs → P x → AllByRecursion P (xs ++ x ∷ [])
all_more P [] x all p = (p, tt)
all_more P (y ∷ xs) x all p = (all.0, all_more P xs x all.1 p)

-- ONE THAT IS TAKEN OUT
pub record IsOut (test : Guest → Bool) (guests : List Guest) (guest : Guest) : Type 0 where
  pub passes : test guest ≡ true
  pub numbers : (n : ℕ) → times n (waiting_numbers guests) ≡ one n guest.connection + times n (waiting_numbers (without_first test guests))
  pub shorter : length guests ≡ suc (length (without_first test guests))

some_is : (x g : Guest) → Some x ≡ Some g → x ≡ g
some_is x g is = ap (λ o. unwrap_or o x) is

pub is_out : (test : Guest → Bool) (guests : List Guest) (guest : Guest) → find test guests ≡ Some guest → IsOut test guests guest
is_out test [] guest is = cc
is_out test (x ∷ guests) guest is = by (test x) refl (is_out test guests guest) is
  where
    by : (b : Bool) → test x ≡ b → (find test guests ≡ Some guest → IsOut test guests guest) → cond b (Some x) (find test guests) ≡ Some guest → IsOut test (x ∷ guests) guest
    by true passes behind at = subst (λ (y : Guest). IsOut test (x ∷ guests) y) (some_is x guest at) (record {
      passes = passes;
      numbers = λ n. rw passes refl;
      shorter = rw passes refl;
    })
    by false passes behind at = let rest = behind at in record {
      passes = rest.passes;
      numbers = λ n. let others = rest.numbers n in rw passes (omega arith);
      shorter = rw passes (ap suc rest.shorter);
    }

pub all_out : (P : Guest → Type 0) (test : Guest → Bool) (guests : List Guest) → AllByRecursion P guests → AllByRecursion P (without_first test guests)
all_out P test [] all = tt
all_out P test (x ∷ guests) all = by (test x) (all_out P test guests all.1)
  where
    by : (b : Bool) → AllByRecursion P (without_first test guests) → AllByRecursion P (cond b guests (x ∷ without_first test guests))
    by true rest = all.1
    by false rest = (all.0, rest)

module _ {W : Type 0} (tells : W → Bool → List ℕ → Type 0) (room : Room W) (is : IsRoom tells room) where
  pub room_with_guest : (now : ℕ) → length room.guests + length room.ready < most → IsRoom tells (with_guest now room)
  room_with_guest now few = record {
    once = λ n. elim (eqb_tells room.next n) [
      | inl h ↦ let none = is.below n (omega arith) in let more = times_waiting n room.guests (new_guest room.next now) in let most_one = one_most n room.next in omega arith
      | inr h ↦ let was = is.once n in let more = times_waiting n room.guests (new_guest room.next now) in let other = one_another n room.next h.1 in omega arith
    ];
    below = λ n over. let none = is.below n (omega arith) in let more = times_waiting n room.guests (new_guest room.next now) in let other = one_another n room.next (λ same. omega arith) in omega arith;
    few = let long = longer room.guests (new_guest room.next now) in omega arith;
    patient = is.patient;
    short = all_more (λ (g : Guest). (g.bytes ≡ []) ⊎ tells room.whole false g.bytes) room.guests (new_guest room.next now) is.short (inl refl);
    whole = is.whole;
  }

  -- one that waited is ready
  pub room_ready : (guests : List Guest) (ready : List Ready) (test : Guest → Bool) (found kept : Guest) (reason : Reason) → find test room.guests ≡ Some found
      → guests ≡ without_first test room.guests → ready ≡ room.ready ++ record { guest = kept; reason = reason } ∷ []
      → kept.connection ≡ found.connection → (reason ≡ Whole → tells room.whole true kept.bytes)
      → IsRoom tells (record { whole = room.whole; patience = room.patience; next = room.next; guests = guests; ready = ready })
  room_ready guests ready test found kept reason at left more same whole =
      let out = is_out test room.guests found at in
      let last : Ready = record { guest = kept; reason = reason } in
      rw (left, more) (record {
        once = λ n. let was = is.once n in let numbers = out.numbers n in let added = times_ready n room.ready last in let ones = ap (one n) same in omega arith;
        below = λ n over. let none = is.below n over in let numbers = out.numbers n in let added = times_ready n room.ready last in let ones = ap (one n) same in omega arith;
        few = let few = is.few in let shorter = out.shorter in let long = longer room.ready last in omega arith;
        patient = is.patient;
        short = all_out (λ (g : Guest). (g.bytes ≡ []) ⊎ tells room.whole false g.bytes) test room.guests is.short;
        whole = all_more (λ (r : Ready). r.reason ≡ Whole → tells room.whole true r.guest.bytes) room.ready last is.whole whole;
      })

  -- it goes on to wait
  pub room_waits : (guests : List Guest) (test : Guest → Bool) (found kept : Guest) → find test room.guests ≡ Some found
      → guests ≡ without_first test room.guests ++ kept ∷ [] → kept.connection ≡ found.connection → tells room.whole false kept.bytes
      → IsRoom tells (record { whole = room.whole; patience = room.patience; next = room.next; guests = guests; ready = room.ready })
  room_waits guests test found kept at left same short =
      let out = is_out test room.guests found at in
      let others = without_first test room.guests in
      rw left (record {
        once = λ n. let was = is.once n in let numbers = out.numbers n in let added = times_waiting n others kept in let ones = ap (one n) same in omega arith;
        below = λ n over. let none = is.below n over in let numbers = out.numbers n in let added = times_waiting n others kept in let ones = ap (one n) same in omega arith;
        few = let few = is.few in let shorter = out.shorter in let long = longer others kept in omega arith;
        patient = is.patient;
        short = all_more (λ (g : Guest). (g.bytes ≡ []) ⊎ tells room.whole false g.bytes) others kept (all_out (λ (g : Guest). (g.bytes ≡ []) ⊎ tells room.whole false g.bytes) test room.guests is.short) (inr short);
        whole = is.whole;
      })
