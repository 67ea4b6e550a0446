-- The number that an option has, and whether one without a value is there.
use Rattle.std.proofs.Common.{◌≡◌, ℕ, ◌<◌, ◌^◌, Bool, true, false, codes, ap, List, Option, Some, None, Result, Ok, Err, refl, sym, ◌∙◌, subst, arith}
use Rattle.std.specs.Str.Parse.{ExplainsUnsignedError, HasUnsignedDigitsIfOk, ParsesUnsigned}
use Rattle.clap.specs.Matches.{TriesOne}
use Rattle.clap.specs.Words.{ReadsOne, Text}
use Rattle.gate_words.specs.Words.{IsFlag, IsNumber, IsPatience, IsPatient}

no_some : (n : ℕ) → Some n ≡ None → ⊥
no_some n e = grind arith

pub number_read : (k : ℕ) (text : Option Text) (n : ℕ) (read : Option ℕ) → read ≡ Some n
    → (text ≡ None → read ≡ None)
    → ((t : List ℕ) → text ≡ Some t → ReadsOne (λ bs r. ParsesUnsigned k 10 bs r × ExplainsUnsignedError 10 bs r × HasUnsignedDigitsIfOk bs r) t read)
    → IsNumber n text
number_read k None n read is none value = absurd (no_some n (sym is ∙ none refl))
number_read k (Some t) n read is none value =
    let parsed = (subst (ReadsOne (λ bs r. ParsesUnsigned k 10 bs r × ExplainsUnsignedError 10 bs r × HasUnsignedDigitsIfOk bs r) t) is (value t refl)).0 in
    (parsed.0.0, parsed.1)

-- An option that isn't read as a number of so many bits has none.
pub number_unread : (k : ℕ) (text : Option Text) (read : Option ℕ) → read ≡ None
    → ((t : List ℕ) → text ≡ Some t → ReadsOne (λ bs r. ParsesUnsigned k 10 bs r × ExplainsUnsignedError 10 bs r × HasUnsignedDigitsIfOk bs r) t read)
    → (n : ℕ) → n < 2 ^ k → IsNumber n text → ⊥
number_unread k None read is value n fits never = absurd never
number_unread k (Some t) read is value n fits number =
    let refused = subst (ReadsOne (λ bs r. ParsesUnsigned k 10 bs r × ExplainsUnsignedError 10 bs r × HasUnsignedDigitsIfOk bs r) t) is (value t refl) in
    refused.1.0 (number.0, subst (λ (v : ℕ). v < 2 ^ k) number.1 fits)

-- An option has one number at the most.
pub number_same : (text : Option Text) (n m : ℕ) → IsNumber n text → IsNumber m text → n ≡ m
number_same None n m never other = absurd never
number_same (Some t) n m first second = first.1 ∙ sym second.1

-- what is found if nothing is, and if a number is
abbrev found : {E : Type 0} → Option ℕ → Result (Option ℕ) E
found {E} n = Ok n

no_found : {E : Type 0} (n : ℕ) → found {E = E} None ≡ found (Some n) → ⊥
no_found n e = grind arith

-- A patience that was read, or that was left out. `gives` is how a number is read.
pub patience_read : {E : Type 0} (gives : List ℕ → Result ℕ E → Type 0) → ((bs : List ℕ) (r : Result ℕ E) → gives bs r → ParsesUnsigned 32 10 bs r)
    → (text : Option Text) (read : Result (Option ℕ) E) (n : ℕ) → read ≡ Ok (Some n)
    → (text ≡ None → read ≡ Ok None)
    → ((t : List ℕ) → text ≡ Some t → TriesOne gives t read)
    → IsPatience n text
patience_read gives parses None read n is none value = absurd (no_found n (sym (none refl) ∙ is))
patience_read gives parses (Some t) read n is none value =
    let parsed = parses t (Ok n) (subst (TriesOne gives t) is (value t refl)) in
    (parsed.0.0, parsed.1)

pub patience_left_out : {E : Type 0} (gives : List ℕ → Result ℕ E → Type 0)
    (text : Option Text) (read : Result (Option ℕ) E) → read ≡ Ok None
    → ((t : List ℕ) → text ≡ Some t → TriesOne gives t read)
    → IsPatience 30 text
patience_left_out gives None read is value = refl
patience_left_out gives (Some t) read is value = absurd (subst (TriesOne gives t) is (value t refl))

no_err : {E : Type 0} (e : E) → found {E = E} None ≡ Err e → ⊥
no_err e same = grind arith

-- An option that isn't read has no patience.
pub patience_unread : {E : Type 0} (gives : List ℕ → Result ℕ E → Type 0) → ((bs : List ℕ) (r : Result ℕ E) → gives bs r → ParsesUnsigned 32 10 bs r)
    → (text : Option Text) (read : Result (Option ℕ) E) (e : E) → read ≡ Err e
    → (text ≡ None → read ≡ Ok None)
    → ((t : List ℕ) → text ≡ Some t → TriesOne gives t read)
    → (n : ℕ) → IsPatience n text → IsPatient n → ⊥
patience_unread gives parses None read e is none value n patience limits = absurd (no_err e (sym (none refl) ∙ is))
patience_unread gives parses (Some t) read e is none value n number limits =
    parses t (Err e) (subst (TriesOne gives t) is (value t refl)) (number.0, subst (λ (v : ℕ). v < 2 ^ 32) number.1 (omega (arith, limits.1)))

pub flag_read : (text : Option Text) (flag : Bool) → (text ≡ None → flag ≡ false) → (text ≡ Some (codes "true") → flag ≡ true)
    → (text ≡ Some (codes "false") → flag ≡ false) → IsFlag flag text
flag_read None flag none value other = none refl
flag_read (Some text) flag none value other = (λ is. value (ap (λ (t : Text). Some t) is), λ is. other (ap (λ (t : Text). Some t) is))
