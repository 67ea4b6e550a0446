-- The statements on `members`, understood.
use Rattle.std.proofs.Common.{◌≡◌, List, [], ◌∷◌, true, codes, refl}
use Rattle.gate_tables.specs.Casts.{cast_null, cast_int, int_kept, int_again, each}
use Rattle.gate_tables.specs.Database.{columns_of, table_of}
use Rattle.gate_tables.specs.Forms as forms
use Rattle.gate_tables.specs.Kept.{is_whole}
use Rattle.gate_tables.specs.Known.{Inserts, Selects, Updates, Deletes, IsKnown, IsKeyed}
use Rattle.gate_tables.specs.declared.row.MemberRow.{MemberRow}
use Rattle.sqlite.specs.Cast.{cast_row}
use Rattle.sqlite.specs.Edit.{with_rowid}
use Rattle.sqlite.specs.Listing.{understood}
use Rattle.sqlite.specs.Order.{Row, column}
use Rattle.sqlite.specs.Rowids.TheVariants.{Chosen}
use Rattle.sqlite.specs.Term.{lit, col}
use Rattle.sqlite.specs.declared.types.Value.TheVariants.{Null}
use Rattle.sqlite_tied.specs.Compute.{everything}

stored : (r : MemberRow) (rows : List Row) → columns_of forms.members.layout (with_rowid Chosen rows (cast_row (table_of forms.members.layout) (Null ∷ forms.members.values r))) ≡ forms.members.values r
stored r rows = rw (cast_null, cast_int r.batch, cast_int r.place, cast_int r.change_no) refl

inserts : Inserts forms.members
unfolding understood everything
inserts = record {
  terms = lit Null ∷ col 0 0 ∷ col 0 1 ∷ col 0 2 ∷ [];
  width = 4;
  is = refl;
  plain = (refl, refl);
  one = λ params. refl;
  stored = stored;
}

selects : Selects forms.members
unfolding understood everything
selects = record {
  terms = col 1 1 ∷ col 1 2 ∷ col 1 3 ∷ col 1 0 ∷ [];
  names = codes "batch" ∷ codes "place" ∷ codes "change_no" ∷ codes "rowid" ∷ [];
  is = refl;
  plain = (refl, refl);
  unlisted = refl;
  shown = λ row. refl;
  read_on = λ row. refl;
  behind = λ row. refl;
}

-- what is read of a whole row is all of it
again : (cells : Row) → is_whole forms.members.layout.columns (columns_of forms.members.layout cells) ≡ true → forms.members.values (forms.members.read (columns_of forms.members.layout cells)) ≡ columns_of forms.members.layout cells
again cells whole = let kinds = each forms.members.layout.columns (columns_of forms.members.layout cells) whole in λ i. int_again (column cells 1) kinds.0 i ∷ int_again (column cells 2) kinds.1.0 i ∷ int_again (column cells 3) kinds.1.1.0 i ∷ []

updates : Updates forms.members
unfolding understood everything
updates = record {
  terms = col 1 0 ∷ col 1 1 ∷ col 1 2 ∷ col 0 2 ∷ [];
  is = refl;
  plain = (refl, refl);
  given = λ r. (refl, (refl, tt));
  stored = λ r cells whole. let kinds = each forms.members.layout.columns (columns_of forms.members.layout cells) whole in λ i. int_kept (column cells 1) kinds.0 i ∷ int_kept (column cells 2) kinds.1.0 i ∷ cast_int r.change_no i ∷ [];
}

deletes : Deletes forms.members
unfolding understood everything
deletes = record { is = refl; plain = (refl, refl) }

pub known : IsKnown forms.members
known = record { listed = refl; reads = λ r. refl; wholes = λ r. refl; inserts = inserts; selects = selects }

pub keyed : IsKeyed forms.members
keyed = record { known = known; places = (3 ∷ [], refl); fronts = λ r. (refl, refl); whole_again = again; updates = updates; deletes = deletes }
