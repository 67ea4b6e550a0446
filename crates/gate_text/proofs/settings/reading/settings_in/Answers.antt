use Rattle.std.proofs.Common.{sym}
use Rattle.toml.specs.View.{view, table_view}
use Rattle.gate_text.proofs.SettingsLimits.{settings_within}
use Rattle.gate_text.proofs.settings.reading.settings_in.Goals as goal

pub invariant_of-result : goal.invariant_of-result
invariant_of-result c =
    rw (c.unwrap_or.ensures, c.unwrap_or-2.ensures, c.unwrap_or-3.ensures, c.unwrap_or-4.ensures, c.from.ensures, c.new.ensures.items, c.from-2.ensures, c.new-2.ensures.items)
    (settings_within (table_view c.args.table.now) (view c.in_ok-value.value.now) c.in_ok-status.status c.in_ok-timeout_sec.timeout_sec c.in_ok-block_labels.block_labels
    c.in_ok-required_approvals.required_approvals c.in_ok-max_batch_size.max_batch_size c.in_ok-pr_status.pr_status
    c.in_ok-status.ensures (sym c.in_ok-timeout_sec.ensures) c.in_ok-block_labels.ensures (sym c.in_ok-required_approvals.ensures) (sym c.in_ok-max_batch_size.ensures) c.in_ok-pr_status.ensures)
