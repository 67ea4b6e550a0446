use Rattle.gate_tables.proofs.Creating.{creates, grows}
use Rattle.gate_tables.proofs.Steps.{does_so}
use Rattle.std.proofs.lemmas.Result.{on_ok_weaker}
use Rattle.gate_tables.specs.Creation as creation
use Rattle.gate_tables.specs.Creation.{after_first}
use Rattle.gate_tables.specs.Database as database
use Rattle.sqlite.specs.Held.{state}
use Rattle.gate_tables.proofs.create.create_wanted.Goals as goal

pub returns : goal.returns
returns g c =
    let old = state g.S.Store c.args.tx.now.conn.now in
    let new = state g.S.Store c.run.new.tx.conn.now in
    does_so c.run.ensures (λ _. on_ok_weaker c.run.result (λ ran. record {
      made = λ bare. creates (after_first 8) database.wanted (after_first 9) creation.wanted_text creation.wanted old new bare ran;
      grown = λ has. grows (after_first 8) database.wanted (after_first 9) creation.wanted_text creation.wanted old new has ran;
    }))
