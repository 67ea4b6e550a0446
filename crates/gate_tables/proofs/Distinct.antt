-- No two answers have the same identifier: the table has an index of it, and a database of these tables keeps that unique.
use Rattle.std.proofs.Common.{◌≡◌, ◌≢◌, ℕ, List, [], ◌∷◌, map, Bool, true, false, not, ◌&&◌, refl, sym, ap, subst, ◌∙◌}
use Rattle.std.specs.List.{AllByRecursion, IsDistinct, list_all}
use Rattle.std.specs.Ordering.{is_eq, is_ne}
use Rattle.std.specs.declared.cmp.Ordering.{Ordering}
use Rattle.std.specs.declared.cmp.Ordering.TheVariants.{Less, Equal, Greater}
use Rattle.std.proofs.lemmas.Bool.{and_parts, not-true, or_parts}
use Rattle.gate_tables.proofs.Finding.{AreWhole, entries, first_text, same}
use Rattle.gate_tables.proofs.Taking.{tied_ints}
use Rattle.gate_tables.proofs.Testing.{truth_of}
use Rattle.gate_tables.specs.Apart.{AreApartBy}
use Rattle.gate_tables.specs.Casts.{each, text_again}
use Rattle.gate_tables.specs.Database.{columns_of, table_of}
use Rattle.gate_tables.specs.Forms.{answers}
use Rattle.gate_tables.specs.Kept.{AreKept, IsKept, is_whole}
use Rattle.gate_tables.specs.Schemas.{schema_of_version}
use Rattle.gate_tables.specs.Tables.{AreAnswers}
use Rattle.gate_tables.specs.declared.version.Version.{Version}
use Rattle.gate_tables.specs.declared.version.Version.TheVariants.{Version1, Version2}
use Rattle.sqlite.specs.Collation.TheVariants.{Binary}
use Rattle.sqlite.specs.Edit.{have_rowids}
use Rattle.sqlite.specs.Ops.{binary}
use Rattle.sqlite.specs.Order.{Row, column, bytes}
use Rattle.sqlite.specs.Schema.{Schema}
use Rattle.sqlite.specs.Tree.{Trees, rowid}
use Rattle.sqlite.specs.declared.types.Value.{Value}
use Rattle.sqlite.specs.declared.types.Value.TheVariants.{Int, Text}
use Rattle.sqlite_schema.specs.Rules.{agree, clashes, differ, equal}
use Rattle.sqlite_trees.specs.View.{is_int}
use Rattle.sqlite_value.proofs.OrderLemmas.{value_cmp-Text}
use Rattle.sqlite_value.specs.Keys.{first_key, plain}
use Rattle.sqlite_value.specs.Order.{value_cmp}

-- WHAT THE TABLE KEEPS: no other row has the identifier of one, as the rules say it with the index of this table alone
abbrev AreUnique : List Row → List Row → Type 0
AreUnique rows some = AllByRecursion (λ row. not (clashes plain (1 ∷ []) rows row) && true ≡ true) some

-- it is the eighth table of each version
held : (schema : Schema) (db : Trees) → (version : Version) → schema ≡ schema_of_version version → AreKept schema db → IsKept (table_of answers.layout) (db 11) × AreUnique (db 11) (db 11)
held schema db Version1 is kept = let first = subst (λ s. AreKept s db) is kept in (first.tables.1.1.1.1.1.1.1.0, first.unique.1.1.1.1.1.1.1.0)
held schema db Version2 is kept = let all = subst (λ s. AreKept s db) is kept in (all.tables.1.1.1.1.1.1.1.0, all.unique.1.1.1.1.1.1.1.0)

-- WHOLE ROWS: what is read of one is all of it
again : (cells : Row) → is_whole answers.layout.columns (columns_of answers.layout cells) ≡ true → answers.values (answers.read (columns_of answers.layout cells)) ≡ columns_of answers.layout cells
again cells whole = let kinds = each answers.layout.columns (columns_of answers.layout cells) whole in λ i. text_again (column cells 1) kinds.0 i ∷ text_again (column cells 2) kinds.1.0 i ∷ []

all_again : (rows : List Row) → list_all (λ row. is_whole answers.layout.columns (columns_of answers.layout row)) rows ≡ true → AreWhole rows
all_again [] whole = tt
all_again (r ∷ rs) whole = let both = and_parts (is_whole answers.layout.columns (columns_of answers.layout r)) _ whole in (again r both.0, all_again rs both.1)

-- TWO ROWS: `=` of two texts, and `<>` of two integers that are apart
equal_texts : (x y : List ℕ) → equal Binary (Text x) (Text y) ≡ same x y
unfolding binary
equal_texts x y = truth_of (is_eq (value_cmp (Text x) (Text y))) ∙ ap is_eq (value_cmp-Text x y)

unequal : (o : Ordering) → (is_eq o ≡ true → ⊥) → is_ne o ≡ true
unequal Less not_tied = refl
unequal Equal not_tied = absurd (not_tied refl)
unequal Greater not_tied = refl

differ_ints : (v w : Value) → is_int v ≡ true → is_int w ≡ true → w ≢ v → differ v w ≡ true
unfolding binary
differ_ints (Int a) (Int b) one other apart =
    truth_of (is_ne (value_cmp (Int a) (Int b))) ∙ unequal (value_cmp (Int a) (Int b)) (λ tied. apart (ap Int (sym (tied_ints a b tied))))
differ_ints v w one other apart = absurd cc

-- one row clashes with another if their identifiers are equal, and their rowids are not
abbrev clash : Row → Row → Bool
clash r o = agree plain (1 ∷ []) r (1 ∷ []) o && differ (rowid r) (rowid o)

no_clash : (a b c : Bool) → a ≡ b → c ≡ true → (a && true) && c ≡ false → b ≡ false
no_clash true b true is differs free = absurd cc
no_clash true b false is differs free = absurd cc
no_clash false b c is differs free = sym is

two_apart : (r o : Row) → column r 1 ≡ Text (bytes (column r 1)) → column o 1 ≡ Text (bytes (column o 1)) → differ (rowid r) (rowid o) ≡ true → clash r o ≡ false
    → same (bytes (column r 1)) (bytes (column o 1)) ≡ false
unfolding first_key
two_apart r o one other differs free =
    let as_texts : equal Binary (column r 1) (column o 1) ≡ equal Binary (Text (bytes (column r 1))) (Text (bytes (column o 1))) = ap (λ v. equal Binary v (column o 1)) one ∙ ap (equal Binary (Text (bytes (column r 1)))) other in
    no_clash (equal Binary (column r 1) (column o 1)) _ (differ (rowid r) (rowid o)) (as_texts ∙ equal_texts (bytes (column r 1)) (bytes (column o 1))) differs free

-- ALL ROWS: none of some clashes with any row
abbrev AreFree : List Row → List Row → Type 0
AreFree rows some = AllByRecursion (λ o. clashes plain (1 ∷ []) rows o ≡ false) some

free_of : (rows some : List Row) → AreUnique rows some → AreFree rows some
free_of rows [] unique = tt
free_of rows (o ∷ os) unique = (not-true (clashes plain (1 ∷ []) rows o) (and_parts (not (clashes plain (1 ∷ []) rows o)) true unique.0).0, free_of rows os unique.1)

-- so none clashes with the first row, nor with any behind it
free_parts : (r : Row) (rows some : List Row) → AreFree (r ∷ rows) some → AllByRecursion (λ o. clash r o ≡ false) some × AreFree rows some
free_parts r rows [] free = (tt, tt)
free_parts r rows (o ∷ os) free =
    let here = or_parts (clash r o) (clashes plain (1 ∷ []) rows o) free.0 in
    let behind = free_parts r rows os free.1 in
    ((here.0, behind.0), (here.1, behind.1))

-- the rows behind one have other identifiers
apart_from : (r : Row) (rows : List Row) → column r 1 ≡ Text (bytes (column r 1)) → is_int (rowid r) ≡ true → AreWhole rows → have_rowids rows ≡ true
    → AllByRecursion (λ o. rowid o ≢ rowid r) rows → AllByRecursion (λ o. clash r o ≡ false) rows → AllByRecursion (λ y. same (bytes (column r 1)) y ≡ false) (map (λ e. e.0) (entries rows))
apart_from r [] text int whole ints own free = tt
apart_from r (o ∷ os) text int whole ints own free =
    let both = and_parts (is_int (rowid o)) (have_rowids os) ints in
    (two_apart r o text (first_text o whole.0) (differ_ints (rowid r) (rowid o) int both.0 own.0) free.0, apart_from r os text int whole.1 both.1 own.1 free.1)

all_apart : (rows : List Row) → AreWhole rows → have_rowids rows ≡ true → AreApartBy rowid rows → AreFree rows rows → IsDistinct same (map (λ e. e.0) (entries rows))
unfolding IsDistinct
all_apart [] whole ints own free = tt
all_apart (r ∷ rs) whole ints own free =
    let both = and_parts (is_int (rowid r)) (have_rowids rs) ints in
    let parts = free_parts r rs rs free.1 in
    (apart_from r rs (first_text r whole.0) both.0 whole.1 both.1 own.0 parts.0, all_apart rs whole.1 both.1 own.1 parts.1)

-- a database of these tables has answers that are apart
pub answers_apart : (schema : Schema) (db : Trees) → (version : Version) → schema ≡ schema_of_version version → AreKept schema db → AreAnswers db
answers_apart schema db version is kept =
    let table = held schema db version is kept in
    let whole = all_again (db 11) table.0.whole in
    record { whole = whole; apart = all_apart (db 11) whole table.0.rowids table.0.own (free_of (db 11) (db 11) table.1) }
