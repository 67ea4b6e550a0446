use Rattle.std.proofs.Common.{rules}
use Rattle.gate_tables.proofs.Creating.{creates}
use Rattle.gate_tables.proofs.Steps.{does_both, does_so}
use Rattle.std.proofs.lemmas.Result.{on_ok_weaker}
use Rattle.gate_tables.specs.Creation as creation
use Rattle.gate_tables.specs.Creation.{after_first}
use Rattle.gate_tables.specs.Database as database
use Rattle.sqlite.specs.Held.{state}
use Rattle.gate_tables.proofs.create.create_last.Goals as goal

pub returns-in_err-run-2 : goal.returns-in_err-run-2
returns-in_err-run-2 g c = does_so (does_both c.in_ok-run.ensures c.in_err-run-2.ensures) (λ _ _. search rules)

pub returns-in_err-run-3 : goal.returns-in_err-run-3
returns-in_err-run-3 g c = does_so (does_both (does_both c.in_ok-run.ensures c.in_ok-run-2.ensures) c.in_err-run-3.ensures) (λ _ _. search rules)

pub returns : goal.returns
returns g c =
    let s0 = state g.S.Store c.args.tx.now.conn.now in
    let s1 = state g.S.Store c.run.new.tx.conn.now in
    let s2 = state g.S.Store c.run-2.new.tx.conn.now in
    let s3 = state g.S.Store c.run-3.new.tx.conn.now in
    let s4 = state g.S.Store c.run-4.new.tx.conn.now in
    does_so (does_both (does_both (does_both c.in_ok-run.ensures c.in_ok-run-2.ensures) c.in_ok-run-3.ensures) c.run-4.ensures) (λ _ all. on_ok_weaker c.run-4.result (λ last bare.
    let i1 = creates (after_first 4) database.batches (after_first 5) creation.batches_text creation.batches s0 s1 bare all.0.0.0 in
    let i2 = creates (after_first 5) database.members (after_first 6) creation.members_text creation.members s1 s2 i1 all.0.0.1 in
    let i3 = creates (after_first 6) database.statuses (after_first 7) creation.statuses_text creation.statuses s2 s3 i2 all.0.1 in
    creates (after_first 7) database.answers (after_first 8) creation.answers_text creation.answers s3 s4 i3 last) all.1)
