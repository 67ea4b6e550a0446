-- What a query over one table shows.
use Rattle.std.proofs.Common.{◌≡◌, ℕ, ◌-◌, ◌^◌, nat_le, List, [], ◌∷◌, ◌++◌, map, filter, flat_map, length, slice_get, Bool, true, false, None, unwrap_or, if◌then◌else◌, IsPermutation, refl, sym, ap, subst, subst₂, ◌∙◌}
use Rattle.std.specs.List.{list_all}
use Rattle.std.proofs.lemmas.List.Sorted.{IsPermutation-map}
use Rattle.gate_tables.specs.Database.{all_schema, beside_rowid, columns_of}
use Rattle.gate_tables.specs.Effects.{Reads}
use Rattle.gate_tables.specs.Forms.{Form}
use Rattle.gate_tables.specs.Kept.{HaveOwn}
use Rattle.gate_tables.specs.Known.{IsKnown, picked, program}
use Rattle.gate_tables.proofs.Rising.{own_behind}
use Rattle.sqlite.proofs.Callers.{reads_as}
use Rattle.sqlite.specs.Command.TheVariants.{Select}
use Rattle.sqlite.specs.Effect.{Database, Answers}
use Rattle.sqlite.specs.Order.{Row}
use Rattle.sqlite.specs.Program.{overlay}
use Rattle.sqlite.specs.Query.{IsAnswer, Output, output}
use Rattle.sqlite.specs.State.{State, Shown}
use Rattle.sqlite.specs.Term.{Term, eval_all, holds}
use Rattle.sqlite.specs.Tree.{Trees}
use Rattle.sqlite.specs.declared.types.Value.TheVariants.{Null}
use Rattle.sqlite_trees.proofs.ListLemmas.{map-map}

pub map_same : {A B : Type 0} (f g : A → B) → ((x : A) → f x ≡ g x) → (xs : List A) → map f xs ≡ map g xs
map_same f g same [] = refl
map_same {A} {B} f g same (x ∷ xs) = ap (λ (y : B). y ∷ map f xs) (same x) ∙ ap (λ l. g x ∷ l) (map_same f g same xs)

pub filter_all : {A : Type 0} (xs : List A) → filter (λ _. true) xs ≡ xs
filter_all [] = refl
filter_all (x ∷ xs) = ap (λ l. x ∷ l) (filter_all xs)

none_given : (b : Bool) (n : ℕ) → (if b then slice_get {X = List Row} [] n else None) ≡ None
none_given true n = refl
none_given false n = refl

overlaid : (db : Trees) (t : ℕ) → overlay db [] t ≡ db t
overlaid db t = ap (λ o. unwrap_or o (db t)) (none_given (nat_le (2 ^ 31) t) (t - 2 ^ 31))

module _ {A B : Type 0} (p : A → Bool) (f : A → B) where
  one_kept : (b : Bool) (x : A) (front : List B) (rest : List A) → front ≡ map f rest → (if b then f x ∷ [] else []) ++ front ≡ map f (if b then x ∷ rest else rest)
  one_kept true x front rest e = ap (λ l. f x ∷ l) e
  one_kept false x front rest e = e

  kept : (xs : List A) → flat_map (λ x. if p x then f x ∷ [] else []) xs ≡ map f (filter p xs)
  kept [] = refl
  kept (x ∷ xs) = one_kept (p x) x _ (filter p xs) (kept xs)

-- the rows that pass the test, in any order
pub picks : (tree : ℕ) (test terms : List Term) (db : Database) (params : Row) (rows : List Row) → Answers db (program (picked tree test terms)) params rows
    → IsPermutation (map (λ r. eval_all terms (params ∷ r ∷ [])) (filter (λ r. list_all (holds (params ∷ r ∷ [])) test) (db.trees tree))) rows
picks tree test terms db params rows answers =
    let q = picked tree test terms in
    let a : IsAnswer q (overlay db.trees []) params rows = answers.answer Null in
    let passes = λ (r : Row). list_all (holds (params ∷ r ∷ [])) test in
    let env = λ (r : Row). params ∷ r ∷ [] in
    let staged : a.staged ≡ map env (filter passes (db.trees tree)) =
    a.grouped ∙ ap (flat_map (λ r. if passes r then env r ∷ [] else [])) (overlaid db.trees tree) ∙ kept passes env (db.trees tree) in
    let shown = λ (o : Output). o.1 in
    let outputs : a.kept ≡ map (output q) (map env (filter passes (db.trees tree))) = a.distinct ∙ ap (map (output q)) staged in
    let heads : map shown a.kept ≡ map (λ r. eval_all terms (params ∷ r ∷ [])) (filter passes (db.trees tree)) =
    ap (map shown) outputs ∙ map-map shown (output q) (map env (filter passes (db.trees tree))) ∙ map-map (λ e. eval_all terms e) env (filter passes (db.trees tree)) in
    subst₂ IsPermutation heads (sym a.shown) (IsPermutation-map shown a.kept a.ordered a.same)

picks_all : (tree : ℕ) (terms : List Term) (db : Database) (params : Row) (rows : List Row) → Answers db (program (picked tree [] terms)) params rows
    → IsPermutation (map (λ r. eval_all terms (params ∷ r ∷ [])) (db.trees tree)) rows
picks_all tree terms db params rows answers =
    subst (λ rs. IsPermutation (map (λ r. eval_all terms (params ∷ r ∷ [])) rs) rows) (filter_all (db.trees tree)) (picks tree [] terms db params rows answers)

module _ {R : Type 0} (form : Form R) (known : IsKnown form) where
  -- a query for all rows shows those of the table, each with its rowid behind it
  selects_all : (old new : State) (rows : List Row) → old.now.schema ≡ all_schema → Shown form.select [] old new rows → IsPermutation (map (beside_rowid form.layout) (old.now.trees form.layout.tree)) rows
  selects_all old new rows has shown =
      let all = known.selects in
      let command = Select (program (picked form.layout.tree [] all.terms)) all.names in
      let answers = reads_as form.select [] old new all_schema has command all.is all.plain all.unlisted rows shown in
      let stored = old.now.trees form.layout.tree in
      subst (λ cs. IsPermutation cs rows) (map_same (λ r. eval_all all.terms ([] ∷ r ∷ [])) (beside_rowid form.layout) all.shown stored)
      (picks_all form.layout.tree all.terms old.now [] rows answers)

  -- so they are read, and if those of the answer have integers of their own in their last column, the stored ones have such rowids
  pub reads_all : (old new : State) (rows : List Row) → old.now.schema ≡ all_schema → Shown form.select [] old new rows → HaveOwn (length form.layout.columns) rows → Reads form old.now.trees (map form.read rows)
  reads_all old new rows has shown own =
      let stored = old.now.trees form.layout.tree in
      let beside = beside_rowid form.layout in
      let same = selects_all old new rows has shown in
      let read = map-map form.read beside stored ∙ map_same (λ r. form.read (beside r)) (λ r. form.read (columns_of form.layout r)) known.selects.read_on stored ∙ sym (map-map form.read (columns_of form.layout) stored) in
      record {
        same = subst (λ rs. IsPermutation rs (map form.read rows)) read (IsPermutation-map form.read (map beside stored) rows same);
        rowids = own_behind (length form.layout.columns) beside known.selects.behind stored rows same own;
      }
