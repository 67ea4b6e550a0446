-- The first denial, as a loop comes to it.
use Rattle.std.proofs.Common.{◌≡◌, ℕ, ◌+◌, ◌<◌, suc, List, [], ◌∷◌, ◌++◌, length, get_or, take, drop, Some, None, refl, sym, ap, ◌∙◌, add-one}
use Rattle.std.proofs.Math.Seq.{split_at, take-suc}
use Rattle.std.proofs.lemmas.Option.{none-some}
use Rattle.gate_hook.specs.Denials.{first_denial}
use Rattle.gate_rules.specs.Words.{word_of}
use Rattle.gate_rules.specs.declared.rule.Rule.{Rule}
use Rattle.gate_state.specs.declared.reply.Reply.{Reply}
use Rattle.gate_state.specs.declared.reply.Reply.TheVariants.{Done, Denied}

behind : (replies others : List Reply) → first_denial replies ≡ None → first_denial (replies ++ others) ≡ first_denial others
behind [] others none = refl
behind (Done orders ∷ replies) others none = behind replies others none
behind (Denied rule ∷ replies) others none = absurd (none-some _ (sym none))

-- the reply at which a loop is, if none before it is a denial
pub at-denied : (replies : List Reply) (i : ℕ) (reply : Reply) (rule : Rule) → reply ≡ get_or replies i reply → i < length replies
    → first_denial (take i replies) ≡ None → reply ≡ Denied rule → first_denial replies ≡ Some (word_of rule)
at-denied replies i reply rule at within none is =
    ap first_denial (split_at replies i reply within)
    ∙ behind (take i replies) (get_or replies i reply ∷ drop (suc i) replies) none
    ∙ ap (λ (one : Reply). first_denial (one ∷ drop (suc i) replies)) (sym at ∙ is)

no-denial : (reply : Reply) → ((rule : Rule) → reply ≡ Denied rule → ⊥) → first_denial (reply ∷ []) ≡ None
no-denial (Done orders) other = refl
no-denial (Denied rule) other = absurd (other rule refl)

pub one-more-done : (replies : List Reply) (i : ℕ) (reply : Reply) → reply ≡ get_or replies i reply → i < length replies
    → first_denial (take i replies) ≡ None → ((rule : Rule) → reply ≡ Denied rule → ⊥) → first_denial (take (i + 1) replies) ≡ None
one-more-done replies i reply at within none other =
    ap (λ (n : ℕ). first_denial (take n replies)) (add-one i)
    ∙ ap first_denial (take-suc replies i reply within)
    ∙ behind (take i replies) (get_or replies i reply ∷ []) none
    ∙ ap (λ (one : Reply). first_denial (one ∷ [])) (sym at)
    ∙ no-denial reply other
