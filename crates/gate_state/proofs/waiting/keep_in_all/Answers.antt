use Rattle.std.proofs.Common.{◌≡◌, ◌<◌, ◌+◌, ℕ, List, [], ◌∷◌, ◌++◌, length, map, take, drop, get_or, slice_set, sym, ap, subst, ◌∙◌, arith, append_assoc}
use Rattle.std.proofs.Math.Seq.{get_or-append_seam, set-append_seam}
use Rattle.std.proofs.lemmas.List.{drop_more, length-map, length-take-le, map-append, take_more}
use Rattle.gate_state.specs.Lanes.{only}
use Rattle.gate_state.specs.declared.batch.Batch.{Batch}
use Rattle.gate_state.proofs.waiting.keep_in_all.Goals as goal

-- One item more is written, behind those that are.
written : {X : Type 0} (f : X → X) (old : List X) (i : ℕ) (x : X) → i < length old → x ≡ get_or (map f (take i old) ++ drop i old) i x
    → slice_set (map f (take i old) ++ drop i old) i (f x) ≡ map f (take (i + 1) old) ++ drop (i + 1) old
written {X} f old i x within is =
    let front = map f (take i old) in
    let rest = drop (i + 1) old in
    let size : length front ≡ i = length-map (take i old) f ∙ length-take-le i old (omega arith) in
    let cut : drop i old ≡ get_or old i x ∷ rest = drop_more old i x within in
    let here : x ≡ get_or old i x =
    is ∙ ap (λ (l : List X). get_or (front ++ l) i x) cut ∙ ap (λ (n : ℕ). get_or (front ++ get_or old i x ∷ rest) n x) (sym size) ∙ get_or-append_seam front (get_or old i x) rest x in
    let set : slice_set (front ++ drop i old) i (f x) ≡ front ++ f x ∷ rest =
    ap (λ (l : List X). slice_set (front ++ l) i (f x)) cut ∙ ap (λ (n : ℕ). slice_set (front ++ get_or old i x ∷ rest) n (f x)) (sym size) ∙ set-append_seam front (get_or old i x) rest (f x) in
    let more : map f (take (i + 1) old) ≡ front ++ f (get_or old i x) ∷ [] = ap (map f) (take_more old i x within) ∙ map-append f (take i old) (get_or old i x ∷ []) in
    set ∙ ap (λ (y : X). front ++ f y ∷ rest) here ∙ sym (append_assoc front (f (get_or old i x) ∷ []) rest) ∙ ap (λ (l : List X). l ++ rest) (sym more)

pub loop-batch-preserved : goal.loop-batch-preserved
loop-batch-preserved g c =
    let f = only (λ change. g.C.Choice.chooses change c.args.choice.now) in
    let old = c.args.batches.now.items in
    let within : c.loop-batch.batch-index < length old = subst (λ (l : List Batch). c.loop-batch.batch-index < length l) c.deref_mut-batch-items.ensures.value c.loop-batch-test.true in
    let so_far : c.loop-batch.batch-items ≡ map f (take c.loop-batch.batch-index old) ++ drop c.loop-batch.batch-index old = c.loop-batch.invariant in
    let kept : c.keep.new.batch ≡ f c.batch-item.result = c.keep.ensures ∙ ap f (sym c.batch-item.is) in
    let item = c.batch-item.is ∙ ap (λ (l : List Batch). get_or l c.loop-batch.batch-index c.batch-item.result) so_far in
    let told : slice_set c.loop-batch.batch-items c.loop-batch.batch-index c.keep.new.batch ≡ slice_set (map f (take c.loop-batch.batch-index old) ++ drop c.loop-batch.batch-index old) c.loop-batch.batch-index (f c.batch-item.result) =
    λ i. slice_set (so_far i) c.loop-batch.batch-index (kept i) in
    told ∙ written f old c.loop-batch.batch-index c.batch-item.result within item
