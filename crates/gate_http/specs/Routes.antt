-- The routes, as `matchit` keeps them: in the order of their patterns.
use Rattle.std.specs.Prelude.{ℕ, List, [], ◌∷◌, ◌++◌, codes}
use Rattle.matchit.specs.Router.{RouteOf}
use Rattle.matchit.specs.Rows.{RowsOf, param_token}
use Rattle.gate_http.specs.declared.routes.Route.{Route}
use Rattle.gate_http.specs.declared.routes.Route.TheVariants.{Deliveries, Queue, Change}

-- a route without a part that varies
abbrev pub plain_route : List ℕ → Route → RouteOf Route
plain_route path value = record { pattern = path; text = path; names = []; value = value }

-- that of a change has the part `n`, whose name stands at this place in the text
abbrev pub change_route : RouteOf Route
change_route = record {
  pattern = codes "/changes/" ++ param_token ∷ [];
  text = codes "/changes/{n}";
  names = (10, 11) ∷ [];
  value = Change;
}

abbrev pub deliveries_route : RouteOf Route
deliveries_route = plain_route (codes "/deliveries") Deliveries

abbrev pub queue_route : RouteOf Route
queue_route = plain_route (codes "/queue") Queue

abbrev pub the_routes : RowsOf (RouteOf Route)
the_routes =
    (codes "/changes/" ++ param_token ∷ [], change_route)
    ∷ (codes "/deliveries", deliveries_route)
    ∷ (codes "/queue", queue_route)
    ∷ []
