-- A query leaves the database as it was.
use Rattle.std.proofs.Common.{◌≡◌, ◌⊎◌, inl, inr, ℕ, List, Option, Some, None, IsTrue, sym, ap, subst, ◌∙◌}
use Rattle.gate_tables.specs.Database.{all_schema}
use Rattle.gate_tables.specs.Effects.{IsReady, Leaves}
use Rattle.gate_tables.specs.Kept.{AreKept}
use Rattle.sqlite.proofs.Callers.{IsPlain}
use Rattle.sqlite.specs.Clock.{timed}
use Rattle.sqlite.specs.Effect.{Database}
use Rattle.sqlite.specs.Listing.{understood}
use Rattle.sqlite.specs.Order.{Row}
use Rattle.sqlite.specs.State.{State, IsUnchanged, IsRolledBack, Shown, ShowsRows, FailsToQuery, FailsToShow, IsNotRun, IsTooLate, KeepsCommit}
use Rattle.sqlite.specs.declared.error.Error.{Error}
use Rattle.sqlite_resolve.specs.declared.compiled.Compiled.{Compiled}
use Rattle.sqlite_schema.specs.declared.command.Returning.{Returning}

pub unchanged_leaves : (old new : State) → IsUnchanged old new → Leaves old new
unchanged_leaves old new h = record { was_open = λ _. h.0.was_open; same = λ _ _. (h.0.now_is, h.0.committed_is) }

pub undone_leaves : (old new : State) → IsRolledBack old new → Leaves old new
undone_leaves old new h = record { was_open = h.was_open; same = λ is_open settled. let both = h.undone is_open in (both.0 ∙ sym settled, both.1) }

pub unchanged_keeps : (old new : State) → IsUnchanged old new → KeepsCommit old new
unchanged_keeps old new h = record { was_open = λ _. h.0.was_open; committed = λ _. h.0.committed_is }

-- a plain query that shows rows changes nothing
pub shown_unchanged : (sql : List ℕ) (params : Row) (old new : State) (rows : List Row) → IsPlain (understood old.now.schema sql) → Shown sql params old new rows → IsUnchanged old new
unfolding Shown
shown_unchanged sql params old new rows plain h =
    let none = (subst IsPlain h.1.is plain).0 in
    (subst (ShowsRows old new sql h.0 (timed params h.0.formats h.1.now) rows) none h.2).3

pub shown_leaves : (sql : List ℕ) (params : Row) (old new : State) (rows : List Row) → IsPlain (understood old.now.schema sql) → Shown sql params old new rows → Leaves old new
shown_leaves sql params old new rows plain h = unchanged_leaves old new (shown_unchanged sql params old new rows plain h)

-- a query that fails changes nothing, or all that was not committed is undone
abbrev pub Ends : State → State → Type 0
Ends old new = IsUnchanged old new ⊎ IsRolledBack old new

not_run_ends : (old new : State) (sql : List ℕ) (params : Row) (e : Error) → IsNotRun old new sql params e → Ends old new
unfolding IsNotRun
not_run_ends old new sql params e (inl h) = inl h.1
not_run_ends old new sql params e (inr h) = inr h.3

show_ends : (old new : State) (sql : List ℕ) (c : Compiled) (params : Row) (e : Error) (r : Option Returning) → FailsToShow old new sql c params e r → Ends old new
show_ends old new sql c params e None h = inl h.3
show_ends old new sql c params e (Some what) (inl h) = inl h.1
show_ends old new sql c params e (Some what) (inr h) = inr h.3

failed_ends : (sql : List ℕ) (params : Row) (old new : State) (e : Error) → FailsToQuery sql params old new e → Ends old new
unfolding FailsToQuery
failed_ends sql params old new e (inl h) = not_run_ends old new sql params e h
failed_ends sql params old new e (inr h) = show_ends old new sql h.0 (timed params h.0.formats h.1.now) e h.0.returning h.2

ends_leave : (old new : State) → Ends old new → Leaves old new
ends_leave old new (inl h) = unchanged_leaves old new h
ends_leave old new (inr h) = undone_leaves old new h

pub failed_leaves : (sql : List ℕ) (params : Row) (old new : State) (e : Error) → FailsToQuery sql params old new e → Leaves old new
failed_leaves sql params old new e h = ends_leave old new (failed_ends sql params old new e h)

-- either way nothing is committed
ends_keep : (old new : State) → Ends old new → KeepsCommit old new
ends_keep old new (inl h) = unchanged_keeps old new h
ends_keep old new (inr h) = record { was_open = h.was_open; committed = λ is_open. (h.undone is_open).1 }

pub failed_keeps : (sql : List ℕ) (params : Row) (old new : State) (e : Error) → FailsToQuery sql params old new e ⊎ IsTooLate sql params old new e → KeepsCommit old new
failed_keeps sql params old new e (inl h) = ends_keep old new (failed_ends sql params old new e h)
failed_keeps sql params old new e (inr h) = unchanged_keeps old new h.5

-- rows are shown by a connection that was open, and is
shows_open : (old new : State) (sql : List ℕ) (c : Compiled) (params : Row) (rows : List Row) (r : Option Returning) → ShowsRows old new sql c params rows r
    → IsTrue old.is_open × IsTrue new.is_open
shows_open old new sql c params rows None h = (h.3.0.was_open, h.3.0.is_open)
shows_open old new sql c params rows (Some what) h = (h.1.shown.was_open, h.1.shown.is_open)

pub shown_open : (sql : List ℕ) (params : Row) (old new : State) (rows : List Row) → Shown sql params old new rows → IsTrue old.is_open × IsTrue new.is_open
unfolding Shown
shown_open sql params old new rows h = shows_open old new sql h.0 (timed params h.0.formats h.1.now) rows h.0.returning h.2

-- an open and settled database of the tables stays so
pub ready_after : (old new : State) → IsReady old → Leaves old new → IsTrue new.is_open → IsReady new × (new.now ≡ old.now) × (new.committed ≡ old.committed)
ready_after old new ready left is_open =
    let same = left.same is_open ready.settled in (
      record {
        schema_is = ap (λ (d : Database). d.schema) same.0 ∙ ready.schema_is;
        settled = same.0 ∙ ready.settled ∙ sym same.1;
        kept = subst (λ (d : Database). AreKept all_schema d.trees) (sym same.0) ready.kept;
      },
      same.0,
      same.1,
    )
