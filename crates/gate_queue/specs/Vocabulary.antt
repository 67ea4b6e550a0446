-- THE WORDS that the machine and the history are written in, from the crates below and from this one.
-- settings, comments
pub use Rattle.gate_text.specs.Settings.{SettingsView, settings_of, fault_number, same_settings}
pub use Rattle.gate_text.specs.declared.command.Command.{Command}
pub use Rattle.gate_text.specs.declared.command.Command.TheVariants.{Ping, Approve, ApproveFor, Withdraw, Priority, Try, TryCancel, DelegateAuthor, DelegateTo, DelegateNone, Retry}
pub use Rattle.gate_text.specs.declared.command.Spoken.{Spoken as SpokenOf}
pub use Rattle.gate_text.specs.declared.command.Spoken.TheVariants.{Known, Unknown}
pub use Rattle.gate_text.specs.declared.settings.fault.SettingsFault.{SettingsFault}
-- people, changes, the desk, the rules
pub use Rattle.gate_rules.specs.Rules.{Look, Texts, asks, last_command, is_known, is_open, is_landed, is_member, is_blocked, has_too_few_reviews, is_fit, is_open_phase, first_failing}
pub use Rattle.gate_rules.specs.View.{DeskView, empty_desk, with_role, role_on, with_change, with_settings, with_base, with_clock, with_ended, numbers_where, ended_if, without_approval, is_required, is_open_at, is_open_head, with_told, look}
pub use Rattle.gate_rules.specs.declared.change.Change.{Change}
pub use Rattle.gate_rules.specs.declared.change.Phase.{Phase}
pub use Rattle.gate_rules.specs.declared.change.Repeat.{Repeat}
pub use Rattle.gate_rules.specs.declared.role.Role.{Role as RoleOf}
pub use Rattle.gate_rules.specs.declared.role.Role.TheVariants.{Nobody}
pub use Rattle.gate_rules.specs.declared.rule.Rule.{Rule}
pub use Rattle.gate_rules.specs.declared.rule.Rule.TheVariants.{UnknownChange, NotOpen, AlreadyOpen, ChangeLanded, StaleHead, NotMember, OwnChange, BadSettings, ClockBack, NoSuchBatch, SameAsBase}
-- acts, orders, replies
pub use Rattle.gate_state.specs.declared.act.Act.{Act}
pub use Rattle.gate_state.specs.declared.act.Act.TheVariants.{On, Other}
pub use Rattle.gate_state.specs.declared.act.Deed.{Deed}
pub use Rattle.gate_state.specs.declared.act.Deed.TheVariants.{Said, Happened}
pub use Rattle.gate_state.specs.declared.act.ChangeFact.{ChangeFact}
pub use Rattle.gate_state.specs.declared.act.ChangeFact.TheVariants.{Opened, Pushed, Closed, Labeled, Unlabeled, Review}
pub use Rattle.gate_state.specs.declared.act.Fact.{Fact}
pub use Rattle.gate_state.specs.declared.act.Fact.TheVariants.{Role, Settings, Base, Staged, Conflict, Status, Refused, Tick}
pub use Rattle.gate_state.specs.declared.act.StatusState.{StatusState}
pub use Rattle.gate_state.specs.declared.act.StatusState.TheVariants.{Success, Failure, Error, Pending}
pub use Rattle.gate_state.specs.declared.reply.Order.{Order}
pub use Rattle.gate_state.specs.declared.reply.Order.TheVariants.{Stage, Land, Notice}
pub use Rattle.gate_state.specs.declared.reply.Reply.{Reply}
pub use Rattle.gate_state.specs.declared.reply.Reply.TheVariants.{Done, Denied}
pub use Rattle.gate_state.specs.declared.reply.Why.{Why}
-- batches
pub use Rattle.gate_state.specs.declared.batch.Batch.{Batch}
pub use Rattle.gate_state.specs.declared.batch.Branch.{Branch}
pub use Rattle.gate_state.specs.declared.batch.Branch.TheVariants.{Staging, Trying}
pub use Rattle.gate_state.specs.declared.batch.Report.{Report}
pub use Rattle.gate_state.specs.declared.batch.Stage.{Stage as StageOf}
pub use Rattle.gate_state.specs.declared.lane.Lane.{Lane}
pub use Rattle.gate_state.specs.declared.queue.Queue.{Queue}
pub use Rattle.gate_state.specs.declared.reply.Head.{Head}
-- states
pub use Rattle.gate_state.specs.declared.state.State.{State}
pub use Rattle.gate_queue.specs.declared.outcome.Outcome.{Outcome}
