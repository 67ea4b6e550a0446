use Rattle.std.proofs.Common.{◌∙◌, ap}
use Rattle.toml.proofs.Views.{table_get}
use Rattle.toml.specs.Data.{get_member}
use Rattle.toml.specs.View.{table_view}
use Rattle.gate_text.proofs.settings.reading.value_at.Goals as goal

pub returns : goal.returns
returns c =
    table_get c.get.result c.name.result.now c.args.table.now.entries c.get.ensures.value
    ∙ ap (λ key. get_member key (table_view c.args.table.now)) c.name.ensures.value
