-- What a path names is what the router finds.
use Rattle.std.proofs.Common.{◌≡◌, ◌≢◌, ◌⊎◌, inl, inr, ℕ, ◌<◌, Bool, true, false, nat_eq, List, [], ◌∷◌, ◌++◌, drop, Option, Some, None, cond, codes, refl, sym, subst, arith, ◌==◌, ◌||◌}
use Rattle.std.proofs.lemmas.Bool.Decides.{Decides-eqb, eqb_tells, nat_tests}
use Rattle.std.proofs.lemmas.List.Sums.{AllPass-from_list_all}
use Rattle.std.proofs.lemmas.Slice.Eq.{bytes_eq-Decides, starts_is}
use Rattle.std.proofs.lemmas.Str.{IsUtf8-append, IsUtf8-from_ascii}
use Rattle.std.proofs.lemmas.Str.Ascii.{IsAscii-from_all}
use Rattle.std.specs.Char.{is_ascii_digit}
use Rattle.std.specs.List.{list_all, starts_with}
use Rattle.std.specs.Str.{IsUtf8, bytes_eq}
use lib.Utf8.{encode}
use Rattle.matchit.specs.Router.{RouteOf}
use Rattle.matchit.specs.Rows.{RowsOf, param_token}
use Rattle.matchit.specs.Seek.{first, has_slash, seek, step}
use Rattle.gate_http.proofs.ChangeNumbers.{no-number, none-empty, slash-bad}
use Rattle.gate_http.proofs.Walks.{nothing, seek-byte, seek-front, seek-none, seek-part, seek-whole}
use Rattle.gate_http.specs.Routes.{change_route, deliveries_route, queue_route, the_routes}
use Rattle.gate_http.specs.Targets.{before_number, change_of, target_of}
use Rattle.gate_http.specs.declared.target.Report.TheVariants.{Queue as TheQueue}
use Rattle.gate_http.specs.declared.routes.Route.{Route}
use Rattle.gate_http.specs.declared.routes.Route.TheVariants.{Change, Deliveries, Queue}
use Rattle.gate_http.specs.declared.target.Target.TheVariants.{Deliveries as ToDeliveries, Report as ToReport}

-- what it tells of a path that a route was found
abbrev pub IsRouteOf : Route → RouteOf Route → List ℕ → Type 0
IsRouteOf Deliveries route path = target_of path ≡ Some ToDeliveries
IsRouteOf Queue route path = target_of path ≡ Some (ToReport TheQueue)
IsRouteOf Change route path = (route ≡ change_route) × ((text : List ℕ) × (path ≡ before_number ++ text) × (target_of path ≡ change_of text))

-- and that none was
abbrev pub IsRouted : Option (RouteOf Route) → List ℕ → Type 0
IsRouted None path = target_of path ≡ None
IsRouted (Some route) path = IsRouteOf route.value route path

-- BEHIND `/changes/` stands a text without a slash
abbrev change_rows : List ℕ → RowsOf (RouteOf Route)
change_rows pattern = (pattern ++ param_token ∷ [], change_route) ∷ []

at-number : (text : List ℕ) → IsRouted (seek 0 (change_rows []) text) (before_number ++ text)
at-number text = rw (seek-part change_route text) (by text (has_slash text) refl)
  where
    by : (text : List ℕ) (slash : Bool) → has_slash text ≡ slash → IsRouted (cond (nothing text || has_slash text) None (Some change_route)) (before_number ++ text)
    by [] slash is = none-empty
    by (b ∷ text) true is = rw is (no-number (b ∷ text) (slash-bad (b ∷ text) is))
    by (b ∷ text) false is = rw is (refl, (b ∷ text, refl, refl))

at-changes : (path : List ℕ) → IsRouted (seek 0 (change_rows (codes "hanges/")) path) (47 ∷ 99 ∷ path)
at-changes path =
    rw (seek-front (codes "hanges/") (param_token ∷ []) change_route path refl) (by (starts_with nat_eq path (codes "hanges/")) refl)
  where
    by : (begins : Bool) → starts_with nat_eq path (codes "hanges/") ≡ begins
        → IsRouted (cond (starts_with nat_eq path (codes "hanges/")) (seek 0 (change_rows []) (drop 7 path)) None) (47 ∷ 99 ∷ path)
    by true is =
        let whole = (starts_is Decides-eqb path (codes "hanges/") _ refl).0 is in
        rw is (subst (λ (rest : List ℕ). IsRouted (seek 0 (change_rows []) (drop 7 path)) (47 ∷ 99 ∷ rest)) (sym whole) (at-number (drop 7 path)))
    by false is = rw is (rw is refl)

-- THE OTHER TWO stand in whole
at-deliveries : (path : List ℕ) → IsRouted (seek 0 ((codes "eliveries", deliveries_route) ∷ []) path) (47 ∷ 100 ∷ path)
at-deliveries path = rw (seek-whole (codes "eliveries") deliveries_route path refl) (by (bytes_eq path (codes "eliveries")) refl)
  where
    by : (is_it : Bool) → bytes_eq path (codes "eliveries") ≡ is_it → IsRouted (cond (bytes_eq path (codes "eliveries")) (Some deliveries_route) None) (47 ∷ 100 ∷ path)
    by true is = rw is (rw is refl)
    by false is = rw is (rw is refl)

at-queue : (path : List ℕ) → IsRouted (seek 0 ((codes "ueue", queue_route) ∷ []) path) (47 ∷ 113 ∷ path)
at-queue path = rw (seek-whole (codes "ueue") queue_route path refl) (by (bytes_eq path (codes "ueue")) refl)
  where
    by : (is_it : Bool) → bytes_eq path (codes "ueue") ≡ is_it → IsRouted (cond (bytes_eq path (codes "ueue")) (Some queue_route) None) (47 ∷ 113 ∷ path)
    by true is = rw is (rw is refl)
    by false is = rw is (rw is refl)

-- BEHIND THE FIRST SLASH the next byte tells the route
abbrev tails : RowsOf (RouteOf Route)
tails =
    (codes "changes/" ++ param_token ∷ [], change_route)
    ∷ (codes "deliveries", deliveries_route)
    ∷ (codes "queue", queue_route)
    ∷ []

at-letter : (c : ℕ) (path : List ℕ) → IsRouted (seek 0 (step c tails) path) (47 ∷ c ∷ path)
at-letter c path = by (eqb_tells 99 c) (eqb_tells 100 c) (eqb_tells 113 c)
  where
    IsNext : ℕ → Type 0
    IsNext letter = ((letter == c ≡ true) × (letter ≡ c)) ⊎ ((letter == c ≡ false) × (letter ≢ c))

    Goal : ℕ → Type 0
    Goal letter = IsRouted (seek 0 (step letter tails) path) (47 ∷ letter ∷ path)

    by : IsNext 99 → IsNext 100 → IsNext 113 → Goal c
    by (inl is) deliveries queue = subst Goal is.1 (at-changes path)
    by (inr first_no) (inl is) queue = subst Goal is.1 (at-deliveries path)
    by (inr first_no) (inr second_no) (inl is) = subst Goal is.1 (at-queue path)
    by (inr first_no) (inr second_no) (inr third_no) =
        let d : (c == 100) ≡ false = grind (arith, nat_tests) in
        let q : (c == 113) ≡ false = grind (arith, nat_tests) in
        rw (first_no.0, second_no.0, third_no.0) (rw (seek-none {K = RouteOf Route} 0 path, d, q, first_no.0) refl)

at-slash : (path : List ℕ) → IsRouted (seek 0 tails path) (47 ∷ path)
unfolding seek
at-slash [] = refl
at-slash (c ∷ path) = rw (seek-byte tails c path refl refl) (at-letter c path)

pub routed : (path : List ℕ) → IsRouted (first the_routes path) path
unfolding seek
routed [] = refl
routed (b ∷ path) = rw (seek-byte the_routes b path refl refl) (by (eqb_tells 47 b))
  where
    by : ((47 == b ≡ true) × (47 ≡ b)) ⊎ ((47 == b ≡ false) × (47 ≢ b)) → IsRouted (seek 0 (step b the_routes) path) (b ∷ path)
    by (inl is) = subst (λ (letter : ℕ). IsRouted (seek 0 (step letter the_routes) path) (letter ∷ path)) is.1 (at-slash path)
    by (inr not_it) =
        let other : (b == 47) ≡ false = grind (arith, nat_tests) in
        rw not_it.0 (rw (seek-none {K = RouteOf Route} 0 path, other, not_it.0) refl)

pub found : (path : List ℕ) (route : RouteOf Route) → first the_routes path ≡ Some route → IsRouteOf route.value route path
found path route is = subst (λ (told : Option (RouteOf Route)). IsRouted told path) is (routed path)

pub missed : (path : List ℕ) → first the_routes path ≡ None → target_of path ≡ None
missed path is = subst (λ (told : Option (RouteOf Route)). IsRouted told path) is (routed path)

-- A PATH THAT ISN'T UTF-8 names nothing, since what names something is ASCII
number-ascii : (text : List ℕ) → list_all is_ascii_digit text ≡ true → IsUtf8 (before_number ++ text)
unfolding encode
number-ascii text digits =
    IsUtf8-append before_number text (before_number, (refl, refl))
    (IsUtf8-from_ascii text (IsAscii-from_all text (λ k d within. digit_ascii _ (AllPass-from_list_all is_ascii_digit text digits k d within))))
  where
    digit_ascii : (b : ℕ) → is_ascii_digit b ≡ true → b < 128
    digit_ascii b digit = grind (arith, nat_tests)

pub no-text : (path : List ℕ) → ¬ IsUtf8 path → target_of path ≡ None
unfolding encode
no-text path not_text = by (bytes_eq path (codes "/deliveries")) (bytes_eq path (codes "/queue")) (starts_with nat_eq path before_number) refl refl refl
  where
    text : List ℕ
    text = drop 9 path

    by : (deliveries queue change : Bool) → bytes_eq path (codes "/deliveries") ≡ deliveries → bytes_eq path (codes "/queue") ≡ queue → starts_with nat_eq path before_number ≡ change → target_of path ≡ None
    by true queue change d q c = absurd (not_text (subst IsUtf8 (sym ((bytes_eq-Decides path (codes "/deliveries")).0 d)) (codes "/deliveries", (refl, refl))))
    by false true change d q c = absurd (not_text (subst IsUtf8 (sym ((bytes_eq-Decides path (codes "/queue")).0 q)) (codes "/queue", (refl, refl))))
    by false false false d q c = rw (d, q, c) refl
    by false false true d q c = rw (d, q, c) (number (list_all is_ascii_digit text) refl)
      where
        number : (digits : Bool) → list_all is_ascii_digit text ≡ digits → change_of text ≡ None
        number true is = absurd (not_text (subst IsUtf8 (sym ((starts_is Decides-eqb path before_number _ refl).0 c)) (number-ascii text is)))
        number false is = no-number text is
