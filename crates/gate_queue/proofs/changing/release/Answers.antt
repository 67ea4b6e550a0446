use Rattle.std.proofs.Common.{◌≡◌, ℕ, Bool, false, cond, List, Option, Some, None, refl, ◌∙◌, ap}
use Rattle.std.specs.Option.{option_eq}
use Rattle.std.specs.Str.{bytes_eq}
use Rattle.gate_queue.specs.Vocabulary.{Change}
use Rattle.gate_queue.specs.Machine.{all_altered, landed, with_landing, released}
use Rattle.gate_queue.proofs.Choosing.{by_bool}
use Rattle.gate_queue.proofs.changing.release.Goals as goal

as_released : (base : Option (List ℕ)) (commit : List ℕ) → cond (option_eq bytes_eq base (Some commit)) landed (with_landing false) ≡ released base commit
as_released None commit = refl
as_released (Some base) commit =
    by_bool (λ b. cond b landed (with_landing false) ≡ (λ (change : Change). cond b (landed change) (with_landing false change))) refl refl (bytes_eq base commit)

pub returns : goal.returns
returns c =
    c.release_all.ensures
    ∙ ap (λ (have : Bool). all_altered (cond have landed (with_landing false)) c.args.desk.now c.args.changes.now) c.eq.ensures
    ∙ ap (λ (alter : Change → Change). all_altered alter c.args.desk.now c.args.changes.now) (as_released c.args.base c.args.commit)
