-- ROWS STAND FOR ONE STATE: those of a state, in any order, are read as that state.
use Rattle.std.specs.Prelude.{◌≡◌, true, Ok, IfSome}
use Rattle.gate_text.specs.Settings.{are_settings}
use Rattle.gate_text.specs.SmallTexts.{commit_of}
use Rattle.gate_rules.specs.View.{DeskView}
use Rattle.gate_state.specs.State.{IsState}
use Rattle.gate_state.specs.declared.state.State.{State}
use Rattle.gate_tables.specs.Contents.{AreSame}
use Rattle.gate_tables.specs.Differences.{HaveKeys}
use Rattle.gate_rows.specs.Decoding.{state_in}
use Rattle.gate_rows.specs.Encoding.{rows_of}
use Rattle.gate_tables.specs.declared.row.Rows.{Rows}

-- what the settings and the base of a gate keep, by their types; so no settings and no base have rows of their own
pub record KeepsLimits (desk : DeskView) : Type 0 where
  pub settings : IfSome desk.settings (λ settings. are_settings settings ≡ true)
  pub base : IfSome desk.base (λ base. commit_of base ≡ Ok base)

abbrev pub LawOfRows : Type 0
LawOfRows = (s : State) (rows : Rows) → IsState s → KeepsLimits s.desk → AreSame (rows_of s) rows → state_in rows ≡ s

-- In the rows of a state no two rows of a table have one key.
abbrev pub LawOfKeys : Type 0
LawOfKeys = (s : State) → IsState s → HaveKeys (rows_of s)
