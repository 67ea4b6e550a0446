-- What a request asks for doesn't depend on what stands behind it.
use Rattle.std.proofs.Common.{◌≡◌, ◌⊎◌, ℕ, ◌-◌, ◌≤◌, inl, inr, List, [], ◌++◌, length, drop, Option, Some, None, Result, Ok, Err, refl, sym, ap, subst, ◌∙◌, append_assoc, length-append, length-drop, arith}
use Rattle.std.proofs.KnownBytes.{Consumes-trans}
use Rattle.std.proofs.lemmas.Bool.{le-leb}
use Rattle.std.proofs.lemmas.List.{append-nil, drop-append-le, take-append-le}
use Rattle.std.specs.Io.KnownBytes.{IsAtEnd}
use Rattle.httparse.specs.Grammar.{print_request}
use Rattle.gate_http.specs.Heads.{BeginsWith, max_head, IsHeadOf, needed_by}
use Rattle.gate_hook.specs.Receiving.{HasReadBody, HasReadHead, IsInput}
use Rattle.gate_hook.specs.Requests.{Asks, asked_by, body_in}
use Rattle.gate_http.specs.declared.head.Ask.{Ask}
use Rattle.gate_http.specs.declared.head.Ask.TheVariants.{Delivery, Report}
use Rattle.gate_http.specs.declared.head.Head.{Head}
use Rattle.gate_http.specs.declared.refusal.Refusal.{Refusal}
use Rattle.gate_hook.specs.declared.requests.Request.{Request}
use Rattle.gate_hook.proofs.NoHead.{is-left, left_of}

body-same : (size : ℕ) (rest more : List ℕ) → size ≤ length rest → body_in size (rest ++ more) ≡ body_in size rest
body-same size rest more fits =
    rw (le-leb size (length rest) fits)
    (rw (le-leb size (length (rest ++ more)) (omega (arith, fits, length-append rest more)))
    (ap (λ (body : List ℕ). Ok body) (take-append-le size rest more fits)))

asked-same : (ask : Result Ask Refusal) (rest more : List ℕ) → needed_by ask ≤ length rest → asked_by ask (rest ++ more) ≡ asked_by ask rest
asked-same (Ok (Delivery size)) rest more fits = rw (body-same size rest more fits) refl
asked-same (Ok (Report report)) rest more fits = refl
asked-same (Err refusal) rest more fits = refl

pub left-none : (after : Option (List ℕ)) → IsAtEnd after → left_of after ≡ []
left-none None end = refl
left-none (Some known) end = end

-- the bytes of the body are there, or no more bytes come
asked-whole : (ask : Result Ask Refusal) (rest : List ℕ) (after : Option (List ℕ)) → (needed_by ask ≤ length rest) ⊎ IsAtEnd after → asked_by ask (rest ++ left_of after) ≡ asked_by ask rest
asked-whole ask rest after (inl fits) = asked-same ask rest (left_of after) fits
asked-whole ask rest after (inr end) = ap (asked_by ask) (ap (λ (more : List ℕ). rest ++ more) (left-none after end) ∙ append-nil rest)

-- a head stands at the front of all that was read and is left
pub begins : {token : Option (List ℕ)} (first more others : List ℕ) (told : Head) (is : IsHeadOf token told first) → told.len ≤ max_head → BeginsWith ((first ++ more) ++ others) is.head (drop told.len first ++ (more ++ others))
begins first more others told is fits = record {
  reads = (
    is.reads.0,
    append_assoc first more others
        ∙ ap (λ (front : List ℕ). front ++ (more ++ others)) is.reads.1
        ∙ append_assoc (print_request is.head) (drop told.len first) (more ++ others),
  );
  size = omega (arith, is.len, fits);
  fields = is.fields;
}

-- what stands behind the head, and that there is a head
behind : {token : Option (List ℕ)} (first more : List ℕ) (told : Head) → IsHeadOf token told first → drop told.len (first ++ more) ≡ drop told.len first ++ more
behind first more told is = drop-append-le told.len first more (omega (arith, is.len, ap length is.reads.1, length-append (print_request is.head) (drop told.len first)))

pub asks-whole : (token old mid new : Option (List ℕ)) (told : Head) (first bytes : List ℕ) (wish : Result Request Refusal)
    → HasReadHead token (Ok (Some told)) old mid first
    → HasReadBody (Ok tt) mid new first bytes told.len (needed_by told.ask)
    → wish ≡ asked_by told.ask (drop told.len bytes)
    → (input : List ℕ) × IsInput old new input × Asks token input wish
asks-whole token old mid new told first bytes wish found read asks =
    let more = read.0 in
    let is = found.1 in
    let all : drop told.len bytes ≡ drop told.len first ++ more = ap (drop told.len) read.2 ∙ behind first more told is in
    let size : length bytes - told.len ≡ length (drop told.len first ++ more) = sym (length-drop told.len bytes) ∙ ap length all in
    let enough = subst (λ (n : ℕ). (needed_by told.ask ≤ n) ⊎ IsAtEnd new) size read.3 in
    let wish_is = asks
    ∙ ap (asked_by told.ask) all
    ∙ sym (asked-whole told.ask (drop told.len first ++ more) new enough)
    ∙ ap (asked_by told.ask) (append_assoc (drop told.len first) more (left_of new))
    ∙ ap (λ (said : Result Ask Refusal). asked_by said (drop told.len first ++ (more ++ left_of new))) is.ask in (
      (first ++ more) ++ left_of new,
      (first ++ more, left_of new, Consumes-trans old mid new first more found.0 read.1, is-left new, refl),
      inl (is.head, drop told.len first ++ (more ++ left_of new), begins first more (left_of new) told is found.2, wish_is),
    )
