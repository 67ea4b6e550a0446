-- WHO WAITS, in the order in which something was heard of them last, AND WHO IS READY, in the order in which they became so.
use Rattle.std.specs.Prelude.{◌≡◌, ◌≢◌, ◌⊎◌, ℕ, ◌+◌, ◌*◌, ◌^◌, ◌<◌, ◌≤◌, nat_le, ◌||◌, Bool, true, false, ◌==◌, if◌then◌else◌, List, [], ◌∷◌, ◌++◌, length, map}
use Rattle.std.specs.List.{AllByRecursion}
use Rattle.gate_waiting.specs.Events.{Event, bytes_of, came_at, heard_at}
use Rattle.gate_waiting.specs.declared.guest.Guest.{Guest}
use Rattle.gate_waiting.specs.declared.guest.Ready.{Ready}
use Rattle.gate_waiting.specs.declared.guest.Reason.TheVariants.{Lost, Whole}

-- how many are here at once
abbrev pub most : ℕ
most = 256

-- `W` says when a request is whole
pub record Room (W : Type 0) : Type 0 where
  pub whole : W
  -- microseconds for which nothing may come
  pub patience : ℕ
  -- the number of the next connection
  pub next : ℕ
  pub guests : List Guest
  pub ready : List Ready

abbrev pub empty_room : {W : Type 0} → W → ℕ → Room W
empty_room whole patience = record { whole = whole; patience = patience; next = 0; guests = []; ready = [] }

-- the connections that are here
abbrev pub waiting_numbers : List Guest → List ℕ
waiting_numbers guests = map (λ (g : Guest). g.connection) guests

abbrev pub ready_numbers : List Ready → List ℕ
ready_numbers ready = map (λ (r : Ready). r.guest.connection) ready

-- how often a number stands in a list
abbrev pub times : ℕ → List ℕ → ℕ
times n [] = 0
times n (m ∷ ms) = (if m == n then 1 else 0) + times n ms

-- how often a connection is here
abbrev pub here : {W : Type 0} → ℕ → Room W → ℕ
here n room = times n (waiting_numbers room.guests) + times n (ready_numbers room.ready)

-- WHAT A ROOM KEEPS: no connection is here twice, each is under a number below the next one, and there are not too many. On one that waits
-- nothing has come, or its request isn't whole; and of one that is ready since its request is whole, it is.
pub record IsRoom {W : Type 0} (tells : W → Bool → List ℕ → Type 0) (room : Room W) : Type 0 where
  pub once : (n : ℕ) → here n room ≤ 1
  pub below : (n : ℕ) → room.next ≤ n → here n room ≡ 0
  pub few : length room.guests + length room.ready ≤ most
  pub patient : room.patience < 2 ^ 60
  pub short : AllByRecursion (λ g. (g.bytes ≡ []) ⊎ tells room.whole false g.bytes) room.guests
  pub whole : AllByRecursion (λ r. r.reason ≡ Whole → tells room.whole true r.guest.bytes) room.ready

-- LATE is one on which nothing came for so long as the patience, or that has been here for ten times that
abbrev pub is_later : ℕ → ℕ → ℕ → Guest → Bool
is_later patience in_all now guest = nat_le (guest.heard + patience) now || nat_le (guest.came + in_all) now

abbrev pub is_late : {W : Type 0} → Room W → ℕ → Guest → Bool
is_late room now guest = is_later room.patience (10 * room.patience) now guest

-- WHAT IS KNOWN OF A CONNECTION is what the events say of it.
pub record IsAsTold (events : List Event) (guest : Guest) : Type 0 where
  pub bytes : guest.bytes ≡ bytes_of guest.connection events
  pub came : guest.came ≡ came_at guest.connection events
  pub heard : guest.heard ≡ heard_at guest.connection events

-- But of one for whose last bytes there was no memory these are lost, and nothing before them.
pub record IsReadyAsTold (events : List Event) (ready : Ready) : Type 0 where
  pub all : ready.reason ≢ Lost → IsAsTold events ready.guest
  pub front : (lost : List ℕ) × (bytes_of ready.guest.connection events ≡ ready.guest.bytes ++ lost)

pub record Tells {W : Type 0} (events : List Event) (room : Room W) : Type 0 where
  pub guests : AllByRecursion (IsAsTold events) room.guests
  pub ready : AllByRecursion (IsReadyAsTold events) room.ready
