-- A connection that was opened over files shows the database that they held.
use Rattle.std.proofs.Common.{Result, Ok, Err, IfOk, ap, subst, sym, ◌∙◌}
use Rattle.gate_sql.specs.Files.{StandIn}
use Rattle.gate_sql.specs.Versions.{OpensAs}
use Rattle.gate_store.specs.Run.{Records}
use Rattle.sqlite.specs.Effect.{Database}
use Rattle.sqlite.specs.Files.{AreFoundIn}
use Rattle.sqlite.specs.Start.{FindsIn}
use Rattle.sqlite.specs.State.{IsLive, Opens, State}
use Rattle.sqlite.specs.Recovery.{Image}

pub stand_in : (files : Image) (s : State) (records : Records) → FindsIn files s → Opens s → IsLive s → OpensAs s.now records → StandIn files records
stand_in files s records finds opens live stands = record {
  found = s.now;
  holds = λ trees held. ap (λ (db : Database). db.trees) opens.clean ∙ finds.holds trees held;
  reads = subst (λ (db : Database). AreFoundIn files db.trees) (sym opens.clean) finds.reads;
  sound = (live opens.is_open).0;
  opens = stands;
}

-- what holds of a value if it came, by three facts on it
pub if-ok : {X E : Type 0} {P Q R S : X → Type 0} (result : Result X E) → IfOk result P → IfOk result Q → IfOk result R → ((x : X) → P x → Q x → R x → S x) → IfOk result S
if-ok (Ok x) first second third all = all x first second third
if-ok (Err e) first second third all = tt
