use Rattle.std.proofs.Common.{◌≡◌, sym, ap, subst, ◌∙◌}
use Rattle.gate_tables.proofs.Versions.{version_again}
use Rattle.gate_tables.specs.Schemas.{IsFound, schema_of_version, version_of}
use Rattle.gate_tables.specs.declared.found.Found.{Found}
use Rattle.sqlite.specs.Held.{state}
use Rattle.gate_sql.proofs.book.open_found.Given.{Over}
use Rattle.gate_sql.proofs.book.open_found.Goals as goal

-- the tables that were found are those of the version
are_of : (g : Over) (c : goal.In-Tables g) → (state g.S.Store c.args.connection).now.schema ≡ schema_of_version c.in-Tables.version
are_of g c = subst (λ (found : Found). IsFound found (state g.S.Store c.args.connection).now.schema) c.in-Tables.is c.requires.found

pub adopt-requires-clause-version : goal.adopt-requires-clause-version
adopt-requires-clause-version g c = sym (ap version_of (are_of g c) ∙ version_again c.in-Tables.version)

pub adopt-requires-clause-tables : goal.adopt-requires-clause-tables
adopt-requires-clause-tables g c = are_of g c ∙ ap schema_of_version (sym (ap version_of (are_of g c) ∙ version_again c.in-Tables.version))
