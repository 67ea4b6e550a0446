-- WHAT A GATE JUDGES of an act before it steps: whether a rule denies it, and else what it means.
use Rattle.std.specs.Prelude.{◌≡◌, ⊤, Option, Some, None, Result, Ok}
use Rattle.gate_queue.specs.Vocabulary.{SettingsView, settings_of, Retry, Known, SettingsFault, Look, look, Act, On, Other, Said, Settings, State}
use Rattle.gate_queue.specs.Machine.{denial, meaning}
use Rattle.gate_queue.specs.declared.verdict.Verdict.{Verdict}
use Rattle.gate_queue.specs.declared.verdict.Verdict.TheVariants as verdict

-- what the text of settings says, if the act brings one
abbrev pub brought : Act → Option (Result SettingsView SettingsFault)
brought (Other (Settings text)) = Some (settings_of text)
brought act = None

abbrev pub IsRetry : Act → Type 0
IsRetry (On change (Said person (Known Retry))) = ⊤
IsRetry act = ⊥

-- A JUDGEMENT is the rule that denies the act; or, if none does, the settings that it brings, or what a `retry` repeats; or that the act
-- is done as it stands.
abbrev pub IsJudgement : State → Act → Verdict → Type 0
IsJudgement s act (verdict.Denied rule) = denial s act ≡ Some rule
IsJudgement s act (verdict.Sets settings) = (denial s act ≡ None) × (brought act ≡ Some (Ok settings))
IsJudgement s act (verdict.Repeats repeated) = (denial s act ≡ None) × IsRetry act × (repeated ≡ meaning (look s.desk) act)
IsJudgement s act verdict.Stands = (denial s act ≡ None) × (brought act ≡ None) × (act ≡ meaning (look s.desk) act)

-- For private clauses: what an act is judged to be that no rule denies and that brings no settings
abbrev pub IsMeant : Look → Act → Verdict → Type 0
IsMeant s act (verdict.Repeats repeated) = IsRetry act × (repeated ≡ meaning s act)
IsMeant s act verdict.Stands = act ≡ meaning s act
IsMeant s act other = ⊥
