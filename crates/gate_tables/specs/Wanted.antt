-- The statements on `wanted`, understood.
use Rattle.std.proofs.Common.{◌≡◌, List, [], ◌∷◌, true, codes, refl}
use Rattle.gate_tables.specs.Casts.{cast_null, cast_int, int_kept, int_again, text_again, each}
use Rattle.gate_tables.specs.Database.{columns_of, table_of}
use Rattle.gate_tables.specs.Forms as forms
use Rattle.gate_tables.specs.Kept.{is_whole}
use Rattle.gate_tables.specs.Known.{Inserts, Selects, Updates, Deletes, IsKnown, IsKeyed}
use Rattle.gate_tables.specs.declared.row.WantedRow.{WantedRow}
use Rattle.sqlite.specs.Cast.{cast_row}
use Rattle.sqlite.specs.Edit.{with_rowid}
use Rattle.sqlite.specs.Listing.{understood}
use Rattle.sqlite.specs.Order.{Row, column}
use Rattle.sqlite.specs.Rowids.TheVariants.{Chosen}
use Rattle.sqlite.specs.Term.{lit, col}
use Rattle.sqlite.specs.declared.types.Value.TheVariants.{Null, Text}
use Rattle.sqlite_tied.specs.Compute.{everything}

stored : (r : WantedRow) (rows : List Row) → columns_of forms.wanted.layout (with_rowid Chosen rows (cast_row (table_of forms.wanted.layout) (Null ∷ forms.wanted.values r))) ≡ forms.wanted.values r
stored r rows = rw (cast_null, cast_int r.kind, cast_int r.place) refl

inserts : Inserts forms.wanted
unfolding understood everything
inserts = record {
  terms = lit Null ∷ col 0 0 ∷ col 0 1 ∷ col 0 2 ∷ [];
  width = 4;
  is = refl;
  plain = (refl, refl);
  one = λ params. refl;
  stored = stored;
}

selects : Selects forms.wanted
unfolding understood everything
selects = record {
  terms = col 1 1 ∷ col 1 2 ∷ col 1 3 ∷ col 1 0 ∷ [];
  names = codes "kind" ∷ codes "place" ∷ codes "word" ∷ codes "rowid" ∷ [];
  is = refl;
  plain = (refl, refl);
  unlisted = refl;
  shown = λ row. refl;
  read_on = λ row. refl;
  behind = λ row. refl;
}

-- what is read of a whole row is all of it
again : (cells : Row) → is_whole forms.wanted.layout.columns (columns_of forms.wanted.layout cells) ≡ true → forms.wanted.values (forms.wanted.read (columns_of forms.wanted.layout cells)) ≡ columns_of forms.wanted.layout cells
again cells whole = let kinds = each forms.wanted.layout.columns (columns_of forms.wanted.layout cells) whole in λ i. int_again (column cells 1) kinds.0 i ∷ int_again (column cells 2) kinds.1.0 i ∷ text_again (column cells 3) kinds.1.1.0 i ∷ []

updates : Updates forms.wanted
unfolding understood everything
updates = record {
  terms = col 1 0 ∷ col 1 1 ∷ col 1 2 ∷ col 0 2 ∷ [];
  is = refl;
  plain = (refl, refl);
  given = λ r. (refl, (refl, tt));
  stored = λ r cells whole. let kinds = each forms.wanted.layout.columns (columns_of forms.wanted.layout cells) whole in λ i. int_kept (column cells 1) kinds.0 i ∷ int_kept (column cells 2) kinds.1.0 i ∷ Text r.word ∷ [];
}

deletes : Deletes forms.wanted
unfolding understood everything
deletes = record { is = refl; plain = (refl, refl) }

pub known : IsKnown forms.wanted
known = record { listed = refl; reads = λ r. refl; wholes = λ r. refl; inserts = inserts; selects = selects }

pub keyed : IsKeyed forms.wanted
keyed = record { known = known; places = (3 ∷ [], refl); fronts = λ r. (refl, refl); whole_again = again; updates = updates; deletes = deletes }
