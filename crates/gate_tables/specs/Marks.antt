-- The statements on `marks`, understood.
use Rattle.std.proofs.Common.{◌≡◌, List, [], ◌∷◌, true, codes, refl}
use Rattle.gate_tables.specs.Casts.{cast_null, cast_int, int_kept, text_kept, int_again, text_again, each}
use Rattle.gate_tables.specs.Database.{columns_of, table_of}
use Rattle.gate_tables.specs.Forms as forms
use Rattle.gate_tables.specs.Kept.{is_whole}
use Rattle.gate_tables.specs.Known.{Inserts, Selects, Updates, Deletes, IsKnown, IsKeyed}
use Rattle.gate_tables.specs.declared.row.MarkRow.{MarkRow}
use Rattle.sqlite.specs.Cast.{cast_row}
use Rattle.sqlite.specs.Edit.{with_rowid}
use Rattle.sqlite.specs.Listing.{understood}
use Rattle.sqlite.specs.Order.{Row, column}
use Rattle.sqlite.specs.Rowids.TheVariants.{Chosen}
use Rattle.sqlite.specs.Term.{lit, col}
use Rattle.sqlite.specs.declared.types.Value.TheVariants.{Null}
use Rattle.sqlite_tied.specs.Compute.{everything}

stored : (r : MarkRow) (rows : List Row) → columns_of forms.marks.layout (with_rowid Chosen rows (cast_row (table_of forms.marks.layout) (Null ∷ forms.marks.values r))) ≡ forms.marks.values r
stored r rows = rw (cast_null, cast_int r.change_no, cast_int r.kind, cast_int r.place) refl

inserts : Inserts forms.marks
unfolding understood everything
inserts = record {
  terms = lit Null ∷ col 0 0 ∷ col 0 1 ∷ col 0 2 ∷ col 0 3 ∷ [];
  width = 5;
  is = refl;
  plain = (refl, refl);
  one = λ params. refl;
  stored = stored;
}

selects : Selects forms.marks
unfolding understood everything
selects = record {
  terms = col 1 1 ∷ col 1 2 ∷ col 1 3 ∷ col 1 4 ∷ col 1 0 ∷ [];
  names = codes "change_no" ∷ codes "kind" ∷ codes "word" ∷ codes "place" ∷ codes "rowid" ∷ [];
  is = refl;
  plain = (refl, refl);
  unlisted = refl;
  shown = λ row. refl;
  read_on = λ row. refl;
  behind = λ row. refl;
}

-- what is read of a whole row is all of it
again : (cells : Row) → is_whole forms.marks.layout.columns (columns_of forms.marks.layout cells) ≡ true → forms.marks.values (forms.marks.read (columns_of forms.marks.layout cells)) ≡ columns_of forms.marks.layout cells
again cells whole = let kinds = each forms.marks.layout.columns (columns_of forms.marks.layout cells) whole in λ i. int_again (column cells 1) kinds.0 i ∷ int_again (column cells 2) kinds.1.0 i ∷ text_again (column cells 3) kinds.1.1.0 i ∷ int_again (column cells 4) kinds.1.1.1.0 i ∷ []

updates : Updates forms.marks
unfolding understood everything
updates = record {
  terms = col 1 0 ∷ col 1 1 ∷ col 1 2 ∷ col 1 3 ∷ col 0 3 ∷ [];
  is = refl;
  plain = (refl, refl);
  given = λ r. (refl, (refl, (refl, tt)));
  stored = λ r cells whole. let kinds = each forms.marks.layout.columns (columns_of forms.marks.layout cells) whole in λ i. int_kept (column cells 1) kinds.0 i ∷ int_kept (column cells 2) kinds.1.0 i ∷ text_kept (column cells 3) kinds.1.1.0 i ∷ cast_int r.place i ∷ [];
}

deletes : Deletes forms.marks
unfolding understood everything
deletes = record { is = refl; plain = (refl, refl) }

pub known : IsKnown forms.marks
known = record { listed = refl; reads = λ r. refl; wholes = λ r. refl; inserts = inserts; selects = selects }

pub keyed : IsKeyed forms.marks
keyed = record { known = known; places = (4 ∷ [], refl); fronts = λ r. (refl, refl); whole_again = again; updates = updates; deletes = deletes }
