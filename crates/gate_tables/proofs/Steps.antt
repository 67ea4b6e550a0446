-- Statements in a transaction, one after the other.
use Rattle.std.proofs.Common.{◌≡◌, ◌≢◌, ℕ, IsTrue, List, [], ◌∷◌, Vec, Global, Result, Ok, IfOk, arith, ap, sym, subst, subst₂, ◌∙◌}
use Rattle.std.specs.List.{AllByRecursion}
use Rattle.gate_tables.specs.Calls.{Does, Finds, Queries}
use Rattle.gate_tables.specs.Database.{all_schema}
use Rattle.gate_tables.specs.Effects.{Asks, GoesOn, Lasts, Tells}
use Rattle.gate_tables.specs.Forms.{Form}
use Rattle.gate_tables.specs.Known.{IsKnown}
use Rattle.sqlite.proofs.Callers.{IsPlain}
use Rattle.sqlite.specs.Effect.{Database}
use Rattle.sqlite.specs.Held.{state}
use Rattle.sqlite.specs.Listing.{understood}
use Rattle.sqlite.specs.Order.{Row}
use Rattle.sqlite.specs.Schema.{Schema}
use Rattle.sqlite.specs.State.{State, HasCleanDisk, IsUnchanged, KeepsCommit, Survives}
use Rattle.sqlite.specs.Store.{Ghosts}
use Rattle.sqlite.specs.Table.{Table}
use Rattle.sqlite.specs.Tree.{Trees}
use Rattle.sqlite.specs.declared.transaction.Transaction.{Transaction}

keeps_then : (a b c : State) → KeepsCommit a b → KeepsCommit b c → KeepsCommit a c
keeps_then a b c p q = record { was_open = λ o. p.was_open (q.was_open o); committed = λ o. q.committed o ∙ p.committed (q.was_open o) }

pub clean_before : (old new : State) {Commits : Trees → Type 0} → Survives old new Commits → HasCleanDisk new → HasCleanDisk old
clean_before old new it clean = let less = it.clean in omega (arith, clean, less)

-- no fault is forgotten
pub survives_lasts : (old new : State) {Commits : Trees → Type 0} → (HasCleanDisk new → IsTrue new.is_open → IsTrue old.is_open) → Survives old new Commits → Lasts old new
survives_lasts old new was it = record { was = was; clean = clean_before old new it; shield = it.shield }

lasts_then : {a b c : State} → Lasts a b → Lasts b c → Lasts a c
lasts_then p q = record {
  was = λ clean is_open. p.was (q.clean clean) (q.was clean is_open);
  clean = λ clean. p.clean (q.clean clean);
  shield = λ shielded. q.shield (p.shield shielded);
}

goes_then : {a b c : State} → GoesOn a b → GoesOn b c → GoesOn a c
goes_then {a} {b} {c} p q = record { lasts = lasts_then p.lasts q.lasts; kept = λ clean. keeps_then a b c (p.kept (q.lasts.clean clean)) (q.kept clean) }

pub plain_known : {R : Type 0} (form : Form R) → IsKnown form → (text : List ℕ) → text ≡ form.select → (schema : Schema) → schema ≡ all_schema → IsPlain (understood schema text)
plain_known form known text is schema has = subst₂ (λ s t. IsPlain (understood s t)) (sym has) (sym is) known.selects.plain

still_known : (a b : State) → IsUnchanged a b → a.now.schema ≡ all_schema → b.now.schema ≡ all_schema
still_known a b still has = ap (λ (d : Database). d.schema) still.0.now_is ∙ has

module _ {A : Type 0} {Holds : Trees → A → Type 0} {told : A} {a b c : State} (tells : HasCleanDisk b → a.now.schema ≡ all_schema → Tells Holds a b told) where
  asks_then : Asks (a.now.schema ≡ all_schema) a b → Asks (b.now.schema ≡ all_schema) b c → Asks (a.now.schema ≡ all_schema) a c
  asks_then p q = record {
    lasts = lasts_then p.lasts q.lasts;
    kept = λ clean has.
        let mid = q.lasts.clean clean in
        keeps_then a b c (p.kept mid has) (q.kept clean (still_known a b (tells mid has).still has));
  }

  -- what is told after nothing changed was so before
  tells_then : {B : Type 0} {Holds' : Trees → B → Type 0} {told' : B} → (HasCleanDisk c → HasCleanDisk b) → (HasCleanDisk c → b.now.schema ≡ all_schema → Tells Holds' b c told') → HasCleanDisk c → a.now.schema ≡ all_schema → Tells Holds' a c told'
  tells_then {B} {Holds'} {told'} before after clean has =
      let mid = before clean in
      let first = (tells mid has).still in
      let second = after clean (still_known a b first has) in
      record {
        holds = subst (λ (d : Database). Holds' d.trees told') first.0.now_is second.holds;
        still = (
          record {
            was_open = first.0.was_open;
            is_open = second.still.0.is_open;
            now_is = second.still.0.now_is ∙ first.0.now_is;
            committed_is = second.still.0.committed_is ∙ first.0.committed_is;
            mode = second.still.0.mode ∙ first.0.mode;
          },
          record { changes = second.still.1.changes ∙ first.1.changes; last_rowid = second.still.1.last_rowid ∙ first.1.last_rowid },
          second.still.2 ∙ first.2,
        );
      }

-- calls in a transaction, one after the other
module _ {S : Type 0} {g : Ghosts S} {a b c : Transaction S} where
  pub does_both : {P Q : State → State → Type 0} → Does g a b P → Does g b c Q → Does g a c (λ _ _. P (state g a.conn.now) (state g b.conn.now) × Q (state g b.conn.now) (state g c.conn.now))
  does_both p q = record {
    same_reference = q.same_reference ∙ p.same_reference;
    did = λ clean. (p.did (q.goes_on.lasts.clean clean), q.did clean);
    goes_on = goes_then p.goes_on q.goes_on;
  }

  -- two questions, the second of which says what was found
  pub finds_then : {A B D E : Type 0} {one : A} {H : Trees → A → Type 0} {r : Result B E} {K : Trees → B → Type 0} {s : Result D E} {J : Trees → D → Type 0}
      → Finds g a b {E = E} (Ok one) H → Finds g b c r K
      → (HasCleanDisk (state g c.conn.now) → (state g a.conn.now).now.schema ≡ all_schema → IfOk s (Tells J (state g a.conn.now) (state g c.conn.now))) → Finds g a c s J
  finds_then p q found = record { same_reference = q.same_reference ∙ p.same_reference; found = found; asks = asks_then p.found p.asks q.asks }

  -- two that were answered
  pub finds_both : {A B E : Type 0} {one : A} {H : Trees → A → Type 0} {other : B} {K : Trees → B → Type 0} → Finds g a b {E = E} (Ok one) H → Finds g b c {E = E} (Ok other) K
      → Finds g a c {T = A × B} {E = E} (Ok (one, other)) (λ db both. H db both.0 × K db both.1)
  finds_both p q = record {
    same_reference = q.same_reference ∙ p.same_reference;
    found = λ clean has.
        let first = p.found (q.asks.lasts.clean clean) has in
        let second = tells_then p.found q.asks.lasts.clean q.found clean has in
        record { holds = (first.holds, second.holds); still = second.still };
    asks = asks_then p.found p.asks q.asks;
  }

module _ {S : Type 0} {g : Ghosts S} {a b : Transaction S} where
  -- what a call did says what it did in other words
  pub does_so : {P R : State → State → Type 0} → Does g a b P → (HasCleanDisk (state g b.conn.now) → P (state g a.conn.now) (state g b.conn.now) → R (state g a.conn.now) (state g b.conn.now)) → Does g a b R
  does_so p so = record { same_reference = p.same_reference; did = λ clean. so clean (p.did clean); goes_on = p.goes_on }

  pub finds_so : {A B E : Type 0} {one : A} {H : Trees → A → Type 0} {other : B} {K : Trees → B → Type 0} → Finds g a b {E = E} (Ok one) H → ((db : Trees) → H db one → K db other) → Finds g a b {E = E} (Ok other) K
  finds_so p so = record {
    same_reference = p.same_reference;
    found = λ clean has. let it = p.found clean has in record { holds = so _ it.holds; still = it.still };
    asks = p.asks;
  }

  -- what is asked of tables that are known is understood
  pub finds_known : {R A E : Type 0} (form : Form R) → IsKnown form → (text : List ℕ) → text ≡ form.select → {r : Result (Vec Row Global) E} {s : Result A E} {H : Trees → A → Type 0} → Queries g a b r text
      → (HasCleanDisk (state g b.conn.now) → (state g a.conn.now).now.schema ≡ all_schema → IfOk s (Tells H (state g a.conn.now) (state g b.conn.now))) → Finds g a b s H
  finds_known form known text is q found = record {
    same_reference = q.same_reference;
    found = found;
    asks = record { lasts = q.asks.lasts; kept = λ clean has. q.asks.kept clean (plain_known form known text is (state g a.conn.now).now.schema has) };
  }

pub spares_then : (tree : ℕ) (a b c : Trees) (tables : List Table) → AllByRecursion (λ t. t.tree ≢ tree → b t.tree ≡ a t.tree) tables → AllByRecursion (λ t. t.tree ≢ tree → c t.tree ≡ b t.tree) tables
    → AllByRecursion (λ t. t.tree ≢ tree → c t.tree ≡ a t.tree) tables
spares_then tree a b c [] p q = tt
spares_then tree a b c (t ∷ ts) p q = ((λ other. q.0 other ∙ p.0 other), spares_then tree a b c ts p.1 q.1)
