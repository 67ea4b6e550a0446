-- Acts keep the limits of what comments say.
use Rattle.std.proofs.Common.{ℕ, List, [], ◌∷◌, map}
use Rattle.std.proofs.lemmas.List.Elements.{All-nil, All-cons, All-map, All-weaker}
use Rattle.std.specs.List.{All}
use Rattle.gate_text.specs.Limits.{KeepsLimits}
use Rattle.gate_text.specs.declared.command.Command.TheVariants.{Ping, Approve, ApproveFor, Withdraw, Priority, Try, TryCancel, DelegateAuthor, DelegateTo, DelegateNone, Retry}
use Rattle.gate_text.specs.declared.command.Spoken.{Spoken}
use Rattle.gate_text.specs.declared.command.Spoken.TheVariants.{Known, Unknown}
use Rattle.gate_state.specs.Acts.{ActKeepsLimits, DeedKeepsLimits}
use Rattle.gate_state.specs.declared.act.Act.{Act}
use Rattle.gate_state.specs.declared.act.Act.TheVariants as act
use Rattle.gate_state.specs.declared.act.Deed.TheVariants.{Said}

pub one_keeps : (a : Act) → ActKeepsLimits a → All ActKeepsLimits (a ∷ [])
one_keeps a keeps = All-cons ActKeepsLimits a [] keeps (All-nil ActKeepsLimits)

act_keeps : (person : List ℕ) (spoken : Spoken) → KeepsLimits spoken → DeedKeepsLimits (Said person spoken)
act_keeps person (Known (Priority priority)) keeps = keeps
act_keeps person (Known (ApproveFor names)) keeps = keeps
act_keeps person (Known Ping) keeps = keeps
act_keeps person (Known Approve) keeps = keeps
act_keeps person (Known Withdraw) keeps = keeps
act_keeps person (Known Try) keeps = keeps
act_keeps person (Known TryCancel) keeps = keeps
act_keeps person (Known DelegateAuthor) keeps = keeps
act_keeps person (Known (DelegateTo names)) keeps = tt
act_keeps person (Known DelegateNone) keeps = keeps
act_keeps person (Known Retry) keeps = keeps
act_keeps person Unknown keeps = keeps

pub all_keep : (change : ℕ) (person : List ℕ) (spoken : List Spoken) → All KeepsLimits spoken → All ActKeepsLimits (map (λ said. act.On change (Said person said)) spoken)
all_keep change person spoken keep =
    All-map ActKeepsLimits (λ said. act.On change (Said person said)) spoken (All-weaker KeepsLimits (λ said. ActKeepsLimits (act.On change (Said person said))) (act_keeps person) spoken keep)
