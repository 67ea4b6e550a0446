-- The statements on `desk`, understood.
use Rattle.std.proofs.Common.{◌≡◌, List, [], ◌∷◌, true, codes, refl}
use Rattle.gate_tables.specs.Casts.{cast_null, cast_int, int_kept, int_again, text_again, each}
use Rattle.gate_tables.specs.Database.{columns_of, table_of}
use Rattle.gate_tables.specs.Forms as forms
use Rattle.gate_tables.specs.Kept.{is_whole}
use Rattle.gate_tables.specs.Known.{Inserts, Selects, Updates, Deletes, IsKnown, IsKeyed}
use Rattle.gate_tables.specs.declared.row.DeskRow.{DeskRow}
use Rattle.sqlite.specs.Cast.{cast_row}
use Rattle.sqlite.specs.Edit.{with_rowid}
use Rattle.sqlite.specs.Listing.{understood}
use Rattle.sqlite.specs.Order.{Row, column}
use Rattle.sqlite.specs.Rowids.TheVariants.{Chosen}
use Rattle.sqlite.specs.Term.{lit, col}
use Rattle.sqlite.specs.declared.types.Value.TheVariants.{Null, Int, Text}
use Rattle.sqlite_tied.specs.Compute.{everything}

stored : (r : DeskRow) (rows : List Row) → columns_of forms.desk.layout (with_rowid Chosen rows (cast_row (table_of forms.desk.layout) (Int r.one ∷ Null ∷ Int r.version ∷ Int r.next_batch ∷ Int r.clock ∷ Text r.base ∷ Int r.timeout_sec ∷ Int r.required_approvals ∷ Int r.max_batch_size ∷ []))) ≡ forms.desk.values r
stored r rows = rw (cast_null, cast_int r.one, cast_int r.version, cast_int r.next_batch, cast_int r.clock, cast_int r.timeout_sec, cast_int r.required_approvals, cast_int r.max_batch_size) refl

inserts : Inserts forms.desk
unfolding understood everything
inserts = record {
  terms = col 0 0 ∷ lit Null ∷ col 0 1 ∷ col 0 2 ∷ col 0 3 ∷ col 0 4 ∷ col 0 5 ∷ col 0 6 ∷ col 0 7 ∷ [];
  width = 9;
  is = refl;
  plain = (refl, refl);
  one = λ params. refl;
  stored = stored;
}

selects : Selects forms.desk
unfolding understood everything
selects = record {
  terms = col 1 0 ∷ col 1 2 ∷ col 1 3 ∷ col 1 4 ∷ col 1 5 ∷ col 1 6 ∷ col 1 7 ∷ col 1 8 ∷ col 1 0 ∷ [];
  names = codes "one" ∷ codes "version" ∷ codes "next_batch" ∷ codes "clock" ∷ codes "base" ∷ codes "timeout_sec" ∷ codes "required_approvals" ∷ codes "max_batch_size" ∷ codes "one" ∷ [];
  is = refl;
  plain = (refl, refl);
  unlisted = refl;
  shown = λ row. refl;
  read_on = λ row. refl;
  behind = λ row. refl;
}

-- what is read of a whole row is all of it
again : (cells : Row) → is_whole forms.desk.layout.columns (columns_of forms.desk.layout cells) ≡ true → forms.desk.values (forms.desk.read (columns_of forms.desk.layout cells)) ≡ columns_of forms.desk.layout cells
again cells whole = let kinds = each forms.desk.layout.columns (columns_of forms.desk.layout cells) whole in λ i. int_again (column cells 0) kinds.0 i ∷ int_again (column cells 2) kinds.1.0 i ∷ int_again (column cells 3) kinds.1.1.0 i ∷ int_again (column cells 4) kinds.1.1.1.0 i ∷ text_again (column cells 5) kinds.1.1.1.1.0 i ∷ int_again (column cells 6) kinds.1.1.1.1.1.0 i ∷ int_again (column cells 7) kinds.1.1.1.1.1.1.0 i ∷ int_again (column cells 8) kinds.1.1.1.1.1.1.1.0 i ∷ []

updates : Updates forms.desk
unfolding understood everything
updates = record {
  terms = col 1 0 ∷ lit Null ∷ col 0 1 ∷ col 0 2 ∷ col 0 3 ∷ col 0 4 ∷ col 0 5 ∷ col 0 6 ∷ col 0 7 ∷ [];
  is = refl;
  plain = (refl, refl);
  given = λ r. (refl, tt);
  stored = λ r cells whole. let kinds = each forms.desk.layout.columns (columns_of forms.desk.layout cells) whole in λ i. int_kept (column cells 0) kinds.0 i ∷ cast_int r.version i ∷ cast_int r.next_batch i ∷ cast_int r.clock i ∷ Text r.base ∷ cast_int r.timeout_sec i ∷ cast_int r.required_approvals i ∷ cast_int r.max_batch_size i ∷ [];
}

deletes : Deletes forms.desk
unfolding understood everything
deletes = record { is = refl; plain = (refl, refl) }

pub known : IsKnown forms.desk
known = record { listed = refl; reads = λ r. refl; wholes = λ r. refl; inserts = inserts; selects = selects }

pub keyed : IsKeyed forms.desk
keyed = record { known = known; places = (2 ∷ 3 ∷ 4 ∷ 5 ∷ 6 ∷ 7 ∷ 8 ∷ [], refl); fronts = λ r. (refl, refl); whole_again = again; updates = updates; deletes = deletes }
