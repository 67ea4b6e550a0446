-- Which change is in which batch is read again: so what is tried, and what is landing.
use Rattle.std.proofs.Common.{◌≡◌, inl, inr, ◌==◌, ℕ, suc, ℤ, pos, Bool, true, false, not, ◌&&◌, ◌||◌, List, [], ◌∷◌, map, refl, sym, ◌∙◌, ap, subst}
use Rattle.std.specs.Cmp.{first_so, second_so, unsigned_Decides}
use Rattle.std.specs.List.{flat_map, list_all, list_any}
use Rattle.std.specs.Ordering.{int_eq}
use Rattle.gate_rules.specs.declared.change.Change.{Change}
use Rattle.gate_state.specs.Checks.{are_apart, are_held, belong_to, belongs, belongs_to, fit_places, is_held, is_in, is_inside, landing_changes}
use Rattle.gate_state.specs.Lanes.{batches_of}
use Rattle.gate_state.specs.State.{Marks}
use Rattle.gate_state.specs.declared.batch.Batch.{Batch}
use Rattle.gate_state.specs.declared.lane.Lane.{Lane}
use Rattle.gate_rows.specs.Decoding.{is_member}
use Rattle.gate_rows.specs.Encoding.{batch_row, from_place, member_row, members_of, placed}
use Rattle.gate_tables.specs.declared.row.BatchRow.{BatchRow}
use Rattle.gate_tables.specs.declared.row.MemberRow.{MemberRow}
use Rattle.gate_tables.specs.declared.row.Rows.{Rows}
use Rattle.gate_rows.proofs.Batches.{among_all}
use Rattle.gate_rows.proofs.Elements.{Among, HaveSame, among-flat_map, among-map, flat_map-among, map-among}
use Rattle.gate_rows.proofs.Marks.{itself, same_number}
use Rattle.gate_rows.proofs.Scanning.{among-any, any-among, same_truth}

-- AN ITEM AND ITS PLACE
item_of : {X : Type 0} (entry : ℤ × X) (at : ℕ) (xs : List X) → Among entry (from_place at xs) → Among entry.1 xs
item_of entry at [] there = absurd there
item_of entry at (x ∷ xs) (inl is) = inl (ap (λ (e : ℤ × _). e.1) is)
item_of entry at (x ∷ xs) (inr later) = inr (item_of entry (suc at) xs later)

place_of : {X : Type 0} (x : X) (at : ℕ) (xs : List X) → Among x xs → (place : ℤ) × Among (place, x) (from_place at xs)
place_of x at [] there = absurd there
place_of x at (y ∷ ys) (inl is) = (pos at, inl (λ i. (pos at, is i)))
place_of x at (y ∷ ys) (inr later) = let found = place_of x (suc at) ys later in (found.0, inr found.1)

and_so : (a b : Bool) → a ≡ true → b ≡ true → a && b ≡ true
and_so a b one other = ap (λ (c : Bool). c && b) one ∙ other

-- A CHANGE IS A MEMBER of a batch that passes a test.
module _ (all : List Batch) (apart : (one other : Batch) → Among one all → Among other all → one.number ≡ other.number → one ≡ other)
    (rows : Rows) (members : HaveSame rows.members (flat_map members_of all)) (batches : HaveSame rows.batches (map batch_row all)) (test : BatchRow → Bool) (n : ℕ) where
  member_there : is_member (pos n) test rows ≡ true → (b : Batch) × Among b all × (test (batch_row b) ≡ true) × Among n b.changes
  member_there is =
      let row = any-among (λ row. int_eq row.change_no (pos n) && list_any (λ batch. int_eq batch.number row.batch && test batch) rows.batches) rows.members is in
      let of = flat_map-among members_of row.0 all ((members row.0).0 row.1) in
      let b = of.0 in
      let entry = map-among (member_row b.number) row.0 (placed b.changes) of.2 in
      let change : entry.0.1 ≡ n = same_number entry.0.1 n (ap (λ (r : MemberRow). int_eq r.change_no (pos n)) (sym entry.2)
      ∙ first_so (int_eq row.0.change_no (pos n)) (list_any (λ batch. int_eq batch.number row.0.batch && test batch) rows.batches) row.2) in
      let found = any-among (λ batch. int_eq batch.number row.0.batch && test batch) rows.batches
      (second_so (int_eq row.0.change_no (pos n)) (list_any (λ batch. int_eq batch.number row.0.batch && test batch) rows.batches) row.2) in
      let other = map-among batch_row found.0 all ((batches found.0).0 found.1) in
      let number : other.0.number ≡ b.number = same_number other.0.number b.number
      (ap (λ (r : BatchRow). int_eq r.number (pos b.number)) (sym other.2) ∙ ap (λ (r : MemberRow). int_eq found.0.number r.batch) (sym entry.2)
      ∙ first_so (int_eq found.0.number row.0.batch) (test found.0) found.2) in
      let same : other.0 ≡ b = apart other.0 b other.1 of.1 number in (
        b,
        of.1,
        ap (λ (x : Batch). test (batch_row x)) (sym same) ∙ ap test (sym other.2) ∙ second_so (int_eq found.0.number row.0.batch) (test found.0) found.2,
        subst (λ (m : ℕ). Among m b.changes) change (item_of entry.0 0 b.changes entry.1),
      )

  member_back : (b : Batch) → Among b all → test (batch_row b) ≡ true → Among n b.changes → is_member (pos n) test rows ≡ true
  member_back b there passes among =
      let place = place_of n 0 b.changes among in
      let row : MemberRow = member_row b.number (place.0, n) in
      let listed : Among row rows.members = (members row).1 (among-flat_map members_of row b all there (among-map (member_row b.number) (place.0, n) (placed b.changes) place.1)) in
      let inside : list_any (λ batch. int_eq batch.number row.batch && test batch) rows.batches ≡ true =
      among-any (λ batch. int_eq batch.number row.batch && test batch) (batch_row b) rows.batches ((batches (batch_row b)).1 (among-map batch_row b all there))
      (and_so (int_eq (pos b.number) (pos b.number)) (test (batch_row b)) (itself (pos b.number)) passes) in
      among-any (λ row. int_eq row.change_no (pos n) && list_any (λ batch. int_eq batch.number row.batch && test batch) rows.batches) row rows.members listed
      (and_so (int_eq (pos n) (pos n)) (list_any (λ batch. int_eq batch.number row.batch && test batch) rows.batches) (itself (pos n)) inside)

  -- so whether it is one is what this says
  pub member_is : (b : Bool) → ((found : (b : Batch) × Among b all × (test (batch_row b) ≡ true) × Among n b.changes) → b ≡ true)
      → (b ≡ true → (b : Batch) × Among b all × (test (batch_row b) ≡ true) × Among n b.changes) → is_member (pos n) test rows ≡ b
  member_is b to from = same_truth (is_member (pos n) test rows) b (λ is. to (member_there is)) (λ is. let found = from is in member_back found.0 found.1 found.2 found.3)

-- WHAT A BRANCH HOLDS
inside_of : (n : ℕ) (batches : List Batch) → is_inside n batches ≡ true → (b : Batch) × Among b batches × Among n b.changes
inside_of n batches is =
    let found = any-among (λ (batch : Batch). is_in n batch.changes) batches is in
    let change = any-among (λ other. n == other) found.0.changes found.2 in
    (found.0, found.1, subst (λ (m : ℕ). Among m found.0.changes) (sym ((unsigned_Decides n change.0).0 change.2)) change.1)

pub or_false : (a : Bool) → a || false ≡ true → a ≡ true
or_false true is = refl
or_false false is = cc is

unless : (a b : Bool) → not a || b ≡ true → a ≡ true → b ≡ true
unless true b is a = is
unless false b is a = cc a

module _ (marks : Marks) (lane : Lane) (entries : List (ℕ × Change)) (fits : fit_places marks lane entries ≡ true) where
  first_three : are_apart (batches_of lane) && list_all (belong_to marks) (batches_of lane) && list_all marks.landing (landing_changes lane.running) ≡ true
  first_three = first_so (are_apart (batches_of lane) && list_all (belong_to marks) (batches_of lane) && list_all marks.landing (landing_changes lane.running)) (are_held marks lane entries) fits

  held : (n : ℕ) (c : Change) → Among (n, c) entries → is_held marks lane n ≡ true
  held n c there = among_all (λ (entry : ℕ × Change). is_held marks lane entry.0) (n, c) entries
      (second_so (are_apart (batches_of lane) && list_all (belong_to marks) (batches_of lane) && list_all marks.landing (landing_changes lane.running)) (are_held marks lane entries) fits) there

  pub in_batch : (n : ℕ) (c : Change) → Among (n, c) entries → belongs marks n ≡ true → (b : Batch) × Among b (batches_of lane) × Among n b.changes
  in_batch n c there is =
      inside_of n (batches_of lane) (unless (belongs marks n) (is_inside n (batches_of lane))
      (first_so (not (belongs marks n) || is_inside n (batches_of lane)) (not (marks.landing n) || is_in n (landing_changes lane.running)) (held n c there)) is)

  pub in_landing_batch : (n : ℕ) (c : Change) → Among (n, c) entries → marks.landing n ≡ true → is_in n (landing_changes lane.running) ≡ true
  in_landing_batch n c there is =
      unless (marks.landing n) (is_in n (landing_changes lane.running))
      (second_so (not (belongs marks n) || is_inside n (batches_of lane)) (not (marks.landing n) || is_in n (landing_changes lane.running)) (held n c there)) is

  pub belongs_there : (n : ℕ) (b : Batch) → Among b (batches_of lane) → Among n b.changes → belongs marks n ≡ true
  belongs_there n b there among =
      let all_belong = second_so (are_apart (batches_of lane)) (list_all (belong_to marks) (batches_of lane))
      (first_so (are_apart (batches_of lane) && list_all (belong_to marks) (batches_of lane)) (list_all marks.landing (landing_changes lane.running)) first_three) in
      first_so (belongs marks n) (int_eq b.priority (marks.priority n)) (among_all (belongs_to marks b.priority) n b.changes (among_all (belong_to marks) b (batches_of lane) all_belong there) among)

  pub landing_there : (n : ℕ) → Among n (landing_changes lane.running) → marks.landing n ≡ true
  landing_there n among =
      among_all marks.landing n (landing_changes lane.running)
      (second_so (are_apart (batches_of lane) && list_all (belong_to marks) (batches_of lane)) (list_all marks.landing (landing_changes lane.running)) first_three) among
