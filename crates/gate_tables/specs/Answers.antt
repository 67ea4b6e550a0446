-- The statements on `answers`, understood.
use Rattle.std.proofs.Common.{◌≡◌, List, [], ◌∷◌, codes, refl, ℕ}
use Rattle.gate_tables.specs.Casts.{cast_null}
use Rattle.gate_tables.specs.Database.{columns_of, table_of}
use Rattle.gate_tables.specs.Forms as forms
use Rattle.gate_tables.specs.Known.{Inserts, Selects, IsKnown}
use Rattle.sqlite.specs.Cast.{cast_row}
use Rattle.sqlite.specs.Edit.{with_rowid}
use Rattle.sqlite.specs.Listing.{understood}
use Rattle.sqlite.specs.Order.{Row}
use Rattle.sqlite.specs.Rowids.TheVariants.{Chosen}
use Rattle.sqlite.specs.Term.{lit, col}
use Rattle.sqlite.specs.declared.types.Value.TheVariants.{Null}
use Rattle.sqlite_tied.specs.Compute.{everything}

stored : (r : List ℕ × List ℕ) (rows : List Row) → columns_of forms.answers.layout (with_rowid Chosen rows (cast_row (table_of forms.answers.layout) (Null ∷ forms.answers.values r))) ≡ forms.answers.values r
stored r rows = rw (cast_null) refl

inserts : Inserts forms.answers
unfolding understood everything
inserts = record {
  terms = lit Null ∷ col 0 0 ∷ col 0 1 ∷ [];
  width = 3;
  is = refl;
  plain = (refl, refl);
  one = λ params. refl;
  stored = stored;
}

selects : Selects forms.answers
unfolding understood everything
selects = record {
  terms = col 1 1 ∷ col 1 2 ∷ col 1 0 ∷ [];
  names = codes "id" ∷ codes "body" ∷ codes "rowid" ∷ [];
  is = refl;
  plain = (refl, refl);
  unlisted = refl;
  shown = λ row. refl;
  read_on = λ row. refl;
  behind = λ row. refl;
}

pub known : IsKnown forms.answers
known = record { listed = refl; reads = λ r. refl; wholes = λ r. refl; inserts = inserts; selects = selects }
