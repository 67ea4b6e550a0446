-- The statements on `batches`, understood.
use Rattle.std.proofs.Common.{◌≡◌, List, [], ◌∷◌, true, codes, refl}
use Rattle.gate_tables.specs.Casts.{cast_null, cast_int, int_kept, int_again, text_again, each}
use Rattle.gate_tables.specs.Database.{columns_of, table_of}
use Rattle.gate_tables.specs.Forms as forms
use Rattle.gate_tables.specs.Kept.{is_whole}
use Rattle.gate_tables.specs.Known.{Inserts, Selects, Updates, Deletes, IsKnown, IsKeyed}
use Rattle.gate_tables.specs.declared.row.BatchRow.{BatchRow}
use Rattle.sqlite.specs.Cast.{cast_row}
use Rattle.sqlite.specs.Edit.{with_rowid}
use Rattle.sqlite.specs.Listing.{understood}
use Rattle.sqlite.specs.Order.{Row, column}
use Rattle.sqlite.specs.Rowids.TheVariants.{Chosen}
use Rattle.sqlite.specs.Term.{lit, col}
use Rattle.sqlite.specs.declared.types.Value.TheVariants.{Null, Int, Text}
use Rattle.sqlite_tied.specs.Compute.{everything}

stored : (r : BatchRow) (rows : List Row) → columns_of forms.batches.layout (with_rowid Chosen rows (cast_row (table_of forms.batches.layout) (Int r.number ∷ Null ∷ Int r.branch ∷ Int r.priority ∷ Int r.again ∷ Int r.phase ∷ Int r.since ∷ Text r.sha ∷ []))) ≡ forms.batches.values r
stored r rows = rw (cast_null, cast_int r.number, cast_int r.branch, cast_int r.priority, cast_int r.again, cast_int r.phase, cast_int r.since) refl

inserts : Inserts forms.batches
unfolding understood everything
inserts = record {
  terms = col 0 0 ∷ lit Null ∷ col 0 1 ∷ col 0 2 ∷ col 0 3 ∷ col 0 4 ∷ col 0 5 ∷ col 0 6 ∷ [];
  width = 8;
  is = refl;
  plain = (refl, refl);
  one = λ params. refl;
  stored = stored;
}

selects : Selects forms.batches
unfolding understood everything
selects = record {
  terms = col 1 0 ∷ col 1 2 ∷ col 1 3 ∷ col 1 4 ∷ col 1 5 ∷ col 1 6 ∷ col 1 7 ∷ col 1 0 ∷ [];
  names = codes "number" ∷ codes "branch" ∷ codes "priority" ∷ codes "again" ∷ codes "phase" ∷ codes "since" ∷ codes "sha" ∷ codes "number" ∷ [];
  is = refl;
  plain = (refl, refl);
  unlisted = refl;
  shown = λ row. refl;
  read_on = λ row. refl;
  behind = λ row. refl;
}

-- what is read of a whole row is all of it
again : (cells : Row) → is_whole forms.batches.layout.columns (columns_of forms.batches.layout cells) ≡ true → forms.batches.values (forms.batches.read (columns_of forms.batches.layout cells)) ≡ columns_of forms.batches.layout cells
again cells whole = let kinds = each forms.batches.layout.columns (columns_of forms.batches.layout cells) whole in λ i. int_again (column cells 0) kinds.0 i ∷ int_again (column cells 2) kinds.1.0 i ∷ int_again (column cells 3) kinds.1.1.0 i ∷ int_again (column cells 4) kinds.1.1.1.0 i ∷ int_again (column cells 5) kinds.1.1.1.1.0 i ∷ int_again (column cells 6) kinds.1.1.1.1.1.0 i ∷ text_again (column cells 7) kinds.1.1.1.1.1.1.0 i ∷ []

updates : Updates forms.batches
unfolding understood everything
updates = record {
  terms = col 1 0 ∷ lit Null ∷ col 0 1 ∷ col 0 2 ∷ col 0 3 ∷ col 0 4 ∷ col 0 5 ∷ col 0 6 ∷ [];
  is = refl;
  plain = (refl, refl);
  given = λ r. (refl, tt);
  stored = λ r cells whole. let kinds = each forms.batches.layout.columns (columns_of forms.batches.layout cells) whole in λ i. int_kept (column cells 0) kinds.0 i ∷ cast_int r.branch i ∷ cast_int r.priority i ∷ cast_int r.again i ∷ cast_int r.phase i ∷ cast_int r.since i ∷ Text r.sha ∷ [];
}

deletes : Deletes forms.batches
unfolding understood everything
deletes = record { is = refl; plain = (refl, refl) }

pub known : IsKnown forms.batches
known = record { listed = refl; reads = λ r. refl; wholes = λ r. refl; inserts = inserts; selects = selects }

pub keyed : IsKeyed forms.batches
keyed = record { known = known; places = (2 ∷ 3 ∷ 4 ∷ 5 ∷ 6 ∷ 7 ∷ [], refl); fronts = λ r. (refl, refl); whole_again = again; updates = updates; deletes = deletes }
