-- What was kept of the input, if reading it failed.
use Rattle.std.proofs.Common.{◌≡◌, ℕ, ◌≤◌, List, [], ◌++◌, length, Option, sym, subst, append_assoc, append-nil, lit≤}
use Rattle.std.proofs.KnownBytes.{Consumes-trans}
use Rattle.std.specs.Io.KnownBytes.{Consumes}
use Rattle.gate_hook.specs.Receiving.{HasKept}
use Rattle.gate_hook.specs.Requests.{piece}

-- all of it
pub kept-all : (before after : Option (List ℕ)) (bytes : List ℕ) → Consumes before after bytes → HasKept before after bytes
kept-all before after bytes consumed = ([], subst (Consumes before after) (sym (append-nil bytes)) consumed, lit≤ tt)

-- all but what was read last
pub kept-but-last : (before mid after : Option (List ℕ)) (old new lost : List ℕ)
    → new ≡ old → Consumes before mid old → Consumes mid after lost → length lost ≤ piece → HasKept before after new
kept-but-last before mid after old new lost same first last few =
    subst (HasKept before after) (sym same) (lost, Consumes-trans before mid after old lost first last, few)

-- all of a head, and what was kept of the bytes behind it
pub kept-behind : (before mid after : Option (List ℕ)) (old new more lost : List ℕ)
    → new ≡ old ++ more → Consumes before mid old → Consumes mid after (more ++ lost) → length lost ≤ piece → HasKept before after new
kept-behind before mid after old new more lost same first behind few =
    let all = Consumes-trans before mid after old (more ++ lost) first behind in
    subst (HasKept before after) (sym same) (lost, subst (Consumes before after) (sym (append_assoc old more lost)) all, few)
