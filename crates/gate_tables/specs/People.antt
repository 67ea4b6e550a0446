-- The statements on `people`, understood.
use Rattle.std.proofs.Common.{◌≡◌, List, [], ◌∷◌, true, codes, refl}
use Rattle.gate_tables.specs.Casts.{cast_null, cast_int, text_kept, int_again, text_again, each}
use Rattle.gate_tables.specs.Database.{columns_of, table_of}
use Rattle.gate_tables.specs.Forms as forms
use Rattle.gate_tables.specs.Kept.{is_whole}
use Rattle.gate_tables.specs.Known.{Inserts, Selects, Updates, Deletes, IsKnown, IsKeyed}
use Rattle.gate_tables.specs.declared.row.PersonRow.{PersonRow}
use Rattle.sqlite.specs.Cast.{cast_row}
use Rattle.sqlite.specs.Edit.{with_rowid}
use Rattle.sqlite.specs.Listing.{understood}
use Rattle.sqlite.specs.Order.{Row, column}
use Rattle.sqlite.specs.Rowids.TheVariants.{Chosen}
use Rattle.sqlite.specs.Term.{lit, col}
use Rattle.sqlite.specs.declared.types.Value.TheVariants.{Null}
use Rattle.sqlite_tied.specs.Compute.{everything}

stored : (r : PersonRow) (rows : List Row) → columns_of forms.people.layout (with_rowid Chosen rows (cast_row (table_of forms.people.layout) (Null ∷ forms.people.values r))) ≡ forms.people.values r
stored r rows = rw (cast_null, cast_int r.role) refl

inserts : Inserts forms.people
unfolding understood everything
inserts = record {
  terms = lit Null ∷ col 0 0 ∷ col 0 1 ∷ [];
  width = 3;
  is = refl;
  plain = (refl, refl);
  one = λ params. refl;
  stored = stored;
}

selects : Selects forms.people
unfolding understood everything
selects = record {
  terms = col 1 1 ∷ col 1 2 ∷ col 1 0 ∷ [];
  names = codes "name" ∷ codes "role" ∷ codes "rowid" ∷ [];
  is = refl;
  plain = (refl, refl);
  unlisted = refl;
  shown = λ row. refl;
  read_on = λ row. refl;
  behind = λ row. refl;
}

-- what is read of a whole row is all of it
again : (cells : Row) → is_whole forms.people.layout.columns (columns_of forms.people.layout cells) ≡ true → forms.people.values (forms.people.read (columns_of forms.people.layout cells)) ≡ columns_of forms.people.layout cells
again cells whole = let kinds = each forms.people.layout.columns (columns_of forms.people.layout cells) whole in λ i. text_again (column cells 1) kinds.0 i ∷ int_again (column cells 2) kinds.1.0 i ∷ []

updates : Updates forms.people
unfolding understood everything
updates = record {
  terms = col 1 0 ∷ col 1 1 ∷ col 0 1 ∷ [];
  is = refl;
  plain = (refl, refl);
  given = λ r. (refl, tt);
  stored = λ r cells whole. let kinds = each forms.people.layout.columns (columns_of forms.people.layout cells) whole in λ i. text_kept (column cells 1) kinds.0 i ∷ cast_int r.role i ∷ [];
}

deletes : Deletes forms.people
unfolding understood everything
deletes = record { is = refl; plain = (refl, refl) }

pub known : IsKnown forms.people
known = record { listed = refl; reads = λ r. refl; wholes = λ r. refl; inserts = inserts; selects = selects }

pub keyed : IsKeyed forms.people
keyed = record { known = known; places = (2 ∷ [], refl); fronts = λ r. (refl, refl); whole_again = again; updates = updates; deletes = deletes }
