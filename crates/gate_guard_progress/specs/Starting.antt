-- STARTING: what becomes of deliveries that a host hands in again, after a stop or at any other time.
use Rattle.std.specs.Prelude.{◌≡◌, true, List, ◌++◌, map as list_map, Some}
use Rattle.std.specs.List.{All}
use Rattle.gate_deliveries.specs.declared.delivery.Delivery.{Delivery}
use Rattle.gate_store.specs.Run.{Records, after_deliveries, answers_to, is_known, kept_under}

-- The identifiers of these deliveries are known.
abbrev pub AreKnown : Records → List Delivery → Type 0
AreKnown records deliveries = All (λ (delivery : Delivery). is_known records delivery.id ≡ true) deliveries

-- WHAT WAS HANDED IN IS KNOWN, and stays so.
abbrev pub LawOfKnowing : Type 0
LawOfKnowing = (records : Records) (before later : List Delivery) → AreKnown (after_deliveries records (before ++ later)) before

-- WHAT IS KNOWN CHANGES NOTHING if it is handed in again. Each is answered what is kept, and what is handed in later is answered, and leads
-- on, as without it.
pub record ChangesNothing (records : Records) (again later : List Delivery) : Type 0 where
  pub kept : list_map Some (answers_to records again) ≡ list_map (λ delivery. kept_under records delivery.id) again
  pub answers : answers_to records (again ++ later) ≡ answers_to records again ++ answers_to records later
  pub same : after_deliveries records (again ++ later) ≡ after_deliveries records later

abbrev pub LawOfRepeats : Type 0
LawOfRepeats = (records : Records) (again later : List Delivery) → AreKnown records again → ChangesNothing records again later

-- A START from any place on: a host has handed these in, stops, and hands them in again with what comes later. All are answered, and lead
-- on, as if it had handed them in once.
pub record GoesOn (records : Records) (since later : List Delivery) : Type 0 where
  pub answers : answers_to (after_deliveries records since) (since ++ later) ≡ answers_to records (since ++ later)
  pub same : after_deliveries (after_deliveries records since) (since ++ later) ≡ after_deliveries records (since ++ later)

abbrev pub LawOfStarts : Type 0
LawOfStarts = (records : Records) (since later : List Delivery) → GoesOn records since later
