-- The rows that WHERE finds for a key.
use Rattle.std.proofs.Common.{◌≡◌, [], ◌∷◌, take, length, true, sym, ap, ◌∙◌}
use Rattle.std.specs.List.{list_all}
use Rattle.std.proofs.Math.Seq.{take-append_seam}
use Rattle.gate_tables.proofs.Testing.{tested, begins}
use Rattle.gate_tables.specs.Database.{table_of, columns_of, places_from}
use Rattle.gate_tables.specs.Forms.{Form}
use Rattle.gate_tables.specs.Kept.{is_whole}
use Rattle.gate_tables.specs.Keys.{begin_with, is_front, IsGivenAt, tests_of}
use Rattle.gate_tables.specs.Known.{IsKeyed}
use Rattle.gate_tables.specs.Texts.{key_width}
use Rattle.sqlite.specs.Order.{Row}
use Rattle.sqlite.specs.Term.{holds}

module _ {R : Type 0} (form : Form R) (known : IsKeyed form) (params key : Row) (given : IsGivenAt 0 params key) (front : is_front form.layout.columns key ≡ true) (wide : length key ≡ key_width form.layout) where
  -- a stored row is found if and only if its columns begin with the key
  pub finds : (row : Row) → is_whole form.layout.columns (columns_of form.layout row) ≡ true → list_all (holds (params ∷ row ∷ [])) (tests_of 0 form.layout.primary) ≡ begin_with key (columns_of form.layout row)
  finds row whole =
      let all = places_from (table_of form.layout) 0 form.layout.columns in
      let places : take (length key) all ≡ form.layout.primary = ap (λ n. take n all) wide ∙ ap (take (key_width form.layout)) known.places.1 ∙ take-append_seam form.layout.primary known.places.0 in
      ap (λ ps. list_all (holds (params ∷ row ∷ [])) (tests_of 0 ps)) (sym places) ∙ tested form.layout.columns all 0 params row key given front whole

  -- then the key is in front of its columns
  pub found : (row : Row) → is_whole form.layout.columns (columns_of form.layout row) ≡ true → begin_with key (columns_of form.layout row) ≡ true → take (key_width form.layout) (columns_of form.layout row) ≡ key
  found row whole h = ap (λ n. take n (columns_of form.layout row)) (sym wide) ∙ begins form.layout.columns (columns_of form.layout row) key front whole h
