-- No more of the input is taken than the answer needs.
use Rattle.std.proofs.Common.{◌≡◌, ◌⊎◌, ℕ, ◌+◌, ◌<◌, ◌≤◌, true, false, inl, inr, List, [], ◌++◌, length, drop, Option, Result, sym, ap, subst, ◌∙◌, length-append, append_assoc, arith}
use Rattle.std.proofs.Math.Dec.{leb}
use Rattle.std.proofs.lemmas.Bool.Decides.{leb_tells}
use Rattle.std.proofs.lemmas.List.{append-nil}
use Rattle.httparse.proofs.GrammarLemmas.{request_unique}
use Rattle.httparse.specs.Grammar.{HasNoRequest, ReadsRequest, RequestHead, print_request}
use Rattle.gate_http.specs.Heads.{BeginsWith, HasNoHead, ask_in, max_head, IsHeadOf, needed_by}
use Rattle.gate_hook.specs.Receiving.{EndsWithin}
use Rattle.gate_hook.specs.Requests.{TakesAsNeeded, piece}
use Rattle.gate_http.specs.declared.head.Ask.{Ask}
use Rattle.gate_http.specs.declared.head.Head.{Head}
use Rattle.gate_http.specs.declared.refusal.Refusal.{Refusal}
use Rattle.gate_hook.proofs.Asking.{begins}
use Rattle.gate_hook.proofs.NoHead.{within}

-- Bytes without a head, and then a piece in which the head ends: fewer than a piece stand behind it.
pub few-behind : (bytes more : List ℕ) (head : RequestHead) (rest : List ℕ) → HasNoRequest bytes → length more ≤ piece → ReadsRequest (bytes ++ more) head rest → length rest < piece
few-behind bytes more head rest none fits reads = by (leb_tells size (length bytes)) where
  size : ℕ
  size = length (print_request head)

  all : size + length rest ≡ length bytes + length more
  all = sym (length-append (print_request head) rest) ∙ ap length (sym reads.1) ∙ length-append bytes more

  by : ((leb size (length bytes) ≡ true) × (size ≤ length bytes)) ⊎ ((leb size (length bytes) ≡ false) × (length bytes < size)) → length rest < piece
  by (inl (_, early)) = absurd (none head (drop size bytes) (reads.0, within (print_request head) rest bytes more (sym reads.1) early))
  by (inr (_, late)) = omega (arith, all, late, fits)

-- Nothing is read yet, or there was no head before the last piece.
abbrev pub IsNew : List ℕ → Type 0
IsNew bytes = (length bytes ≡ 0) ⊎ ((front : List ℕ) × (more : List ℕ) × (bytes ≡ front ++ more) × HasNoRequest front × (length more ≤ piece))

-- whatever stands there, if reading ends here
pub takes-new : {token : Option (List ℕ)} (bytes : List ℕ) → IsNew bytes → length bytes ≤ max_head → TakesAsNeeded token bytes
takes-new bytes (inl empty) limit = record {
  behind = λ head rest is. inl (omega (arith, empty, ap length is.reads.1, length-append (print_request head) rest));
  before = λ _. limit;
}
takes-new bytes (inr (front, more, same, none, fits)) limit = record {
  behind = λ head rest is.
      inl (omega (arith, few-behind front more head rest none fits (subst (λ (all : List ℕ). ReadsRequest all head rest) same is.reads)));
  before = λ _. limit;
}

-- if a head stands there, it ends in the last piece
pub few-left : {token : Option (List ℕ)} (bytes : List ℕ) (told : Head) → IsHeadOf token told bytes → IsNew bytes → length bytes < told.len + piece
few-left bytes told is (inl empty) = omega (arith, empty)
few-left bytes told is (inr (front, more, same, none, fits)) =
    let few = few-behind front more is.head (drop told.len bytes) none fits (subst (λ (all : List ℕ). ReadsRequest all is.head (drop told.len bytes)) same is.reads) in
    omega (arith, few, is.len, ap length is.reads.1, length-append (print_request is.head) (drop told.len bytes))

pub len-within : {token : Option (List ℕ)} (bytes : List ℕ) (told : Head) → IsHeadOf token told bytes → told.len ≤ length bytes
len-within bytes told is = omega (arith, is.len, ap length is.reads.1, length-append (print_request is.head) (drop told.len bytes))

longer : (bytes rest : List ℕ) (head : RequestHead) (left : List ℕ) → BeginsWith bytes head left → BeginsWith (bytes ++ rest) head (left ++ rest)
longer bytes rest head left is = record {
  reads = (is.reads.0, ap (λ (front : List ℕ). front ++ rest) is.reads.1 ∙ append_assoc (print_request head) left rest);
  size = is.size;
  fields = is.fields;
}

-- input in which no head comes
pub takes-none : {token : Option (List ℕ)} (bytes rest : List ℕ) → HasNoHead (bytes ++ rest) → length bytes ≤ max_head → TakesAsNeeded token bytes
takes-none bytes rest none limit = record {
  behind = λ head left is. absurd (none head (left ++ rest) (longer bytes rest head left is));
  before = λ _. limit;
}

-- all that was read begins with the head that was found
whole : {token : Option (List ℕ)} (first more : List ℕ) (told : Head) (is : IsHeadOf token told first) → told.len ≤ max_head → BeginsWith (first ++ more) is.head (drop told.len first ++ more)
whole first more told is limit = subst (λ (bytes : List ℕ). BeginsWith bytes is.head (drop told.len first ++ more)) (append-nil (first ++ more))
    (subst (λ (rest : List ℕ). BeginsWith ((first ++ more) ++ []) is.head (drop told.len first ++ rest)) (append-nil more) (begins first more [] told is limit))

length-behind : {token : Option (List ℕ)} (first more rest : List ℕ) (told : Head) → IsHeadOf token told first → drop told.len first ++ more ≡ rest → told.len + length rest ≡ length (first ++ more)
length-behind first more rest told is same =
    omega (arith, ap length same, is.len, length-append (drop told.len first) more, length-append first more, ap length is.reads.1, length-append (print_request is.head) (drop told.len first))

few-or-needed : {token : Option (List ℕ)} (first more rest : List ℕ) (head : RequestHead) (told : Head) (is : IsHeadOf token told first) → length first < told.len + piece
    → EndsWithin first more told.len (needed_by told.ask) → (is.head ≡ head) × (drop told.len first ++ more ≡ rest)
    → (length rest < piece) ⊎ (length rest ≤ needed_by (ask_in token head))
few-or-needed {token} first more rest head told is few (inl empty) same =
    inl (omega (arith, few, length-behind first more rest told is same.1, length-append first more, ap length empty))
few-or-needed {token} first more rest head told is few (inr inside) same =
    inr (subst (λ (said : Result Ask Refusal). length rest ≤ needed_by said) (is.ask ∙ ap (ask_in token) same.0) (omega (arith, inside, length-behind first more rest told is same.1)))

-- a head, and what was read behind it
pub takes-behind : {token : Option (List ℕ)} (first more : List ℕ) (told : Head) → IsHeadOf token told first → told.len ≤ max_head → length first < told.len + piece
    → EndsWithin first more told.len (needed_by told.ask) → TakesAsNeeded token (first ++ more)
takes-behind first more told is limit few ends = record {
  behind = λ head rest found.
      few-or-needed first more rest head told is few ends
      (request_unique (first ++ more) is.head head (drop told.len first ++ more) rest (whole first more told is limit).reads found.reads);
  before = λ none. absurd (none is.head (drop told.len first ++ more) (whole first more told is limit));
}
