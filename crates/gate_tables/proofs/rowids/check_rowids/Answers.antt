use lib.Signed.{le_z}
use Rattle.std.proofs.Common.{◌≡◌, ℕ, ℤ, ◌<ℤ◌, false, ◌+◌, List, ◌∷◌, ◌++◌, [], take, Option, Some, sym, ap, subst, subst₂, ◌∙◌, SFits, to_z, of_z, w64, rules, arith}
use Rattle.std.proofs.lemmas.List.{take_all, take_more}
use Rattle.std.proofs.lemmas.Int.{to_z-of_z, ints}
use Rattle.gate_tables.proofs.Rising.{IsBefore, Risen, none_risen, risen_on}
use Rattle.gate_tables.specs.Kept.{HaveOwn}
use Rattle.sqlite.specs.Order.{Row, column}
use Rattle.sqlite.specs.declared.types.Value.TheVariants.{Int}
use Rattle.gate_tables.proofs.rowids.check_rowids.Goals as goal
use Rattle.gate_tables.proofs.rowids.check_rowids.Goals.{in-Some+else-id-last, in_default}

next : (at : ℕ) (rows : List Row) (i : ℕ) (row : Row) (id : ℤ) (was last : Option ℤ) → take (i + 1) rows ≡ take i rows ++ row ∷ [] → column row at ≡ Int id → last ≡ Some id → IsBefore was id → Risen at (take i rows) was → Risen at (take (i + 1) rows) last
next at rows i row id was last on is new before risen = subst₂ (Risen at) (sym on) (sym new) (risen_on at row id is (take i rows) was before risen)

greater : (last id : ℤ) → SFits w64 last → SFits w64 id → le_z (to_z w64 (of_z w64 id)) (to_z w64 (of_z w64 last)) ≡ false → last <ℤ id
greater last id one other not = grind (arith, ints, to_z-of_z)

pub loop-row-init : goal.loop-row-init
loop-row-init c = none_risen c.args.at

pub loop-row-preserved : goal.loop-row-preserved
loop-row-preserved c =
    let fits : SFits w64 c.in_ok-id.id = search rules in
    let one = to_z-of_z w64 c.in_ok-id.id fits in
    let so = λ (last : Option ℤ) (is : last ≡ Some (to_z w64 (of_z w64 c.in_ok-id.id))) (before : IsBefore c.loop-row.last c.in_ok-id.id).
    next c.args.at c.args.rows.now c.loop-row.row-index c.row-item.result c.in_ok-id.id c.loop-row.last last (take_more c.args.rows.now c.loop-row.row-index c.row-item.result c.loop-row-test.true ∙ ap (λ (r : Row). take c.loop-row.row-index c.args.rows.now ++ r ∷ []) (sym c.row-item.is)) c.in_ok-id.ensures.ok.1 (is ∙ ap Some one) before c.loop-row.invariant in
    elim c.match-last.branch [
      | in-Some+else-id-last w ↦
          let before : SFits w64 w.in-Some.last = search rules in
          so c.match-last.last w.last-is (subst (λ last. IsBefore last c.in_ok-id.id) (sym w.in-Some.is) (greater w.in-Some.last c.in_ok-id.id before fits w.if-id-last.false))
      | in_default w ↦ so c.match-last.last w.last-is (subst (λ last. IsBefore last c.in_ok-id.id) (sym w.in_default.is) tt)
    ]

pub returns : goal.returns
returns c = subst (HaveOwn c.args.at) (take_all c.loop-row.row-index c.args.rows.now c.loop-row-test.false) c.loop-row.invariant.own
