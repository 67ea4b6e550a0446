-- How a path is walked, byte after byte.
use Rattle.std.proofs.Common.{◌≡◌, ℕ, zero, suc, ◌-◌, List, [], ◌∷◌, ◌++◌, length, drop, Option, Some, None, Bool, true, false, cond, refl, sym, ◌∙◌, arith, nat_eq, ◌==◌, ◌||◌, ◌⊎◌, inl, inr, true≢false, nat_lt}
use Rattle.std.proofs.lemmas.Bool.Decides.{nat_tests}
use Rattle.std.specs.List.{list_all, starts_with}
use Rattle.std.specs.Str.{bytes_eq}
use Rattle.matchit.specs.Rows.{RowsOf, catch_all_token, param_token}
use Rattle.matchit.specs.Seek.{step, or_else, seek, param_step, has_slash}
use Rattle.gate_http.proofs.Numerals.{both}

pub or-none : {K : Type 0} (found : Option K) → or_else found None ≡ found
or-none None = refl
or-none (Some key) = refl

none-after : {K : Type 0} (path : List ℕ) → (param_step {K = K} [] path).1 ≡ []
unfolding param_step
none-after {K} path =
    elim (has_slash path) as (λ slash. (cond {A = ℕ × RowsOf K} slash (0, []) (length path, [])).1 ≡ []) [
      | true ↦ refl
      | false ↦ refl
    ]

-- no rows
pub seek-none : {K : Type 0} (skip : ℕ) (path : List ℕ) → seek {K = K} skip [] path ≡ None
unfolding seek
seek-none skip [] = refl
seek-none (suc skip) (b ∷ path) = seek-none skip path
seek-none {K} zero (b ∷ path) = simp (seek-none {K = K} 0 path, none-after {K = K} (b ∷ path), seek-none {K = K} ((param_step {K = K} [] (b ∷ path)).0 - 1) path)

-- rows that all begin with a byte, or end
pub seek-byte : {K : Type 0} (rows : RowsOf K) (b : ℕ) (path : List ℕ) → step param_token rows ≡ [] → step catch_all_token rows ≡ []
    → seek 0 rows (b ∷ path) ≡ seek 0 (step b rows) path
unfolding seek
seek-byte {K} rows b path params catch_alls =
    simp (params, catch_alls, none-after {K = K} (b ∷ path), seek-none {K = K} ((param_step {K = K} [] (b ∷ path)).0 - 1) path, or-none (seek 0 (step b rows) path))

-- whether there are no bytes
abbrev pub nothing : List ℕ → Bool
nothing [] = true
nothing (b ∷ path) = false

-- a row that ends
pub seek-end : {K : Type 0} (key : K) (path : List ℕ) → seek 0 (([], key) ∷ []) path ≡ cond (nothing path) (Some key) None
unfolding seek
seek-end key [] = refl
seek-end {K} key (b ∷ path) = seek-byte {K = K} (([], key) ∷ []) b path refl refl ∙ seek-none {K = K} 0 path

step-other : {K : Type 0} (b x : ℕ) (t : List ℕ) (key : K) → (x == b) ≡ false → step b ((x ∷ t, key) ∷ []) ≡ []
step-other b x t key other = rw other refl

-- a token that stands for itself
abbrev pub is_byte : ℕ → Bool
is_byte token = nat_lt token param_token

abbrev pub are_bytes : List ℕ → Bool
are_bytes tokens = list_all is_byte tokens

no-param : (x : ℕ) → is_byte x ≡ true → (x == param_token) ≡ false
no-param x byte = grind (arith, nat_tests)

no-catch-all : (x : ℕ) → is_byte x ≡ true → (x == catch_all_token) ≡ false
no-catch-all x byte = grind (arith, nat_tests)

seek-one : {K : Type 0} (x : ℕ) (t : List ℕ) (key : K) (b : ℕ) (path : List ℕ) → is_byte x ≡ true
    → seek 0 ((x ∷ t, key) ∷ []) (b ∷ path) ≡ seek 0 (step b ((x ∷ t, key) ∷ [])) path
seek-one x t key b path byte =
    seek-byte ((x ∷ t, key) ∷ []) b path (step-other param_token x t key (no-param x byte)) (step-other catch_all_token x t key (no-catch-all x byte))

-- a row of bytes
pub seek-whole : {K : Type 0} (w : List ℕ) (key : K) (path : List ℕ) → are_bytes w ≡ true → seek 0 ((w, key) ∷ []) path ≡ cond (bytes_eq path w) (Some key) None
unfolding seek
seek-whole [] key [] bytes = refl
seek-whole [] key (b ∷ path) bytes = seek-end key (b ∷ path)
seek-whole (x ∷ w) key [] bytes = refl
seek-whole {K} (x ∷ w) key (b ∷ path) bytes = seek-one x w key b path (both _ _ bytes).0 ∙ by (x == b) refl (seek-whole w key path (both _ _ bytes).1)
  where
    by : (same : Bool) → (x == b) ≡ same → seek 0 ((w, key) ∷ []) path ≡ cond (bytes_eq path w) (Some key) None
        → seek 0 (step b ((x ∷ w, key) ∷ [])) path ≡ cond (bytes_eq (b ∷ path) (x ∷ w)) (Some key) None
    by true is rest =
        let turned : (b == x) ≡ true = grind (arith, nat_tests) in
        rw (is, turned) rest
    by false is rest =
        let turned : (b == x) ≡ false = grind (arith, nat_tests) in
        rw (is, turned) (seek-none {K = K} 0 path)

-- a row that begins with some bytes
pub seek-front : {K : Type 0} (w t : List ℕ) (key : K) (path : List ℕ) → are_bytes w ≡ true
    → seek 0 ((w ++ t, key) ∷ []) path ≡ cond (starts_with nat_eq path w) (seek 0 ((t, key) ∷ []) (drop (length w) path)) None
unfolding seek
seek-front [] t key path bytes = refl
seek-front (x ∷ w) t key [] bytes = refl
seek-front {K} (x ∷ w) t key (b ∷ path) bytes =
    seek-one x (w ++ t) key b path (both _ _ bytes).0 ∙ by (x == b) refl (seek-front w t key path (both _ _ bytes).1)
  where
    by : (same : Bool) → (x == b) ≡ same
        → seek 0 ((w ++ t, key) ∷ []) path ≡ cond (starts_with nat_eq path w) (seek 0 ((t, key) ∷ []) (drop (length w) path)) None
        → seek 0 (step b ((x ∷ (w ++ t), key) ∷ [])) path ≡ cond (starts_with nat_eq (b ∷ path) (x ∷ w)) (seek 0 ((t, key) ∷ []) (drop (length (x ∷ w)) (b ∷ path))) None
    by true is rest = rw is rest
    by false is rest = rw is (seek-none {K = K} 0 path)

-- a row whose part is all that is left, without a slash
skip-all : {K : Type 0} (key : K) (path : List ℕ) → seek (length path) (([], key) ∷ []) path ≡ Some key
unfolding seek
skip-all key [] = refl
skip-all key (b ∷ path) = skip-all key path

skip-others : {K : Type 0} (key : K) (n : ℕ) (path : List ℕ) → n ≡ length path → seek (suc n - 1) (([], key) ∷ []) path ≡ Some key
skip-others key n path is =
    let less : suc n - 1 ≡ n = omega arith in
    rw (less, is) (skip-all key path)

-- the part isn't found as a byte of the path, or that makes no difference
as-byte : {K : Type 0} (key : K) (b : ℕ) (path : List ℕ)
    → (seek 0 (step b ((param_token ∷ [], key) ∷ [])) path ≡ None)
    ⊎ ((seek 0 (step b ((param_token ∷ [], key) ∷ [])) path ≡ Some key) × (has_slash (b ∷ path) ≡ false))
as-byte {K} key b path = by (param_token == b) path refl
  where
    by : (same : Bool) (path : List ℕ) → (param_token == b) ≡ same
        → (seek 0 (step b ((param_token ∷ [], key) ∷ [])) path ≡ None)
        ⊎ ((seek 0 (step b ((param_token ∷ [], key) ∷ [])) path ≡ Some key) × (has_slash (b ∷ path) ≡ false))
    by true [] is =
        let other : (b == 47) ≡ false = grind (arith, nat_tests) in
        inr (rw is (seek-end key []), rw other refl)
    by true (c ∷ path) is = inl (rw is (seek-end key (c ∷ path)))
    by false path is = inl (rw is (seek-none {K = K} 0 path))

pub seek-part : {K : Type 0} (key : K) (path : List ℕ) → seek 0 ((param_token ∷ [], key) ∷ []) path ≡ cond (nothing path || has_slash path) None (Some key)
unfolding seek param_step
seek-part key [] = refl
seek-part {K} key (b ∷ path) = by (has_slash (b ∷ path)) refl (as-byte key b path)
  where
    by : (slash : Bool) → has_slash (b ∷ path) ≡ slash
        → (seek 0 (step b ((param_token ∷ [], key) ∷ [])) path ≡ None)
        ⊎ ((seek 0 (step b ((param_token ∷ [], key) ∷ [])) path ≡ Some key) × (has_slash (b ∷ path) ≡ false))
        → seek 0 ((param_token ∷ [], key) ∷ []) (b ∷ path) ≡ cond (has_slash (b ∷ path)) None (Some key)
    by true is (inl none) = simp (none, is, seek-none {K = K} 0 path)
    by true is (inr found) = absurd (true≢false (sym is ∙ found.1))
    by false is (inl none) = simp (none, is, skip-others key (length path) path refl)
    by false is (inr found) = simp (found.0, is)
