use Rattle.std.proofs.Common.{◌≡◌, ◌∷◌, ◌++◌, [], List, Option, Some, None, map, sym, ◌∙◌, ap, append-nil, rules}
use Rattle.std.proofs.lemmas.List.{append_assoc}
use Rattle.std.specs.List.{cons_option, flat_map}
use Rattle.gate_rows.specs.Encoding.{change_row, marks_of}
use Rattle.gate_rows.specs.Parts.{are_there, named}
use Rattle.gate_rows.proofs.rows.changes.push_present.Goals as goal

-- one more, if there is one, before the rest
joined : {E R : Type 0} (f : E → R) (rows : List R) (one : Option E) (rest : List E) → rows ++ map f (cons_option one []) ++ map f rest ≡ rows ++ map f (cons_option one rest)
joined f rows None rest = ap (λ (r : List _). r ++ map f rest) (append-nil rows)
joined f rows (Some e) rest = append_assoc rows (f e ∷ []) (map f rest)

all_joined : {E R : Type 0} (f : E → List R) (rows : List R) (one : Option E) (rest : List E) → rows ++ flat_map f (cons_option one []) ++ flat_map f rest ≡ rows ++ flat_map f (cons_option one rest)
all_joined f rows None rest = ap (λ (r : List _). r ++ flat_map f rest) (append-nil rows)
all_joined f rows (Some e) rest = ap (λ (r : List _). rows ++ r ++ flat_map f rest) (append-nil (f e)) ∙ append_assoc rows (f e) (flat_map f rest)

pub loop-number-preserved : goal.loop-number-preserved
loop-number-preserved c =
    let changes = c.args.desk.now.changes in
    let rows = c.loop-number.rows.items in
    let marks = c.loop-number.marks.items in
    let number = c.in-Some.number.now in
    let rest = c.next.new.self in
    let step : c.loop-number.number-iterator ≡ (number, c.in-Some.field-0-1.now) ∷ rest = search rules in (
      ap (λ (r : List _). r ++ map change_row (are_there changes rest)) c.in_ok-push_one.ensures.rows
          ∙ joined change_row rows _ (are_there changes rest)
          ∙ ap (λ found. rows ++ map change_row (cons_option (named number found) (are_there changes rest))) c.change.ensures.value
          ∙ ap (λ left. rows ++ map change_row (are_there changes left)) (sym step) ∙ c.loop-number.invariant.0,
      ap (λ (r : List _). r ++ flat_map marks_of (are_there changes rest)) c.in_ok-push_one.ensures.marks
          ∙ all_joined marks_of marks _ (are_there changes rest)
          ∙ ap (λ found. marks ++ flat_map marks_of (cons_option (named number found) (are_there changes rest))) c.change.ensures.value
          ∙ ap (λ left. marks ++ flat_map marks_of (are_there changes left)) (sym step) ∙ c.loop-number.invariant.1,
    )
