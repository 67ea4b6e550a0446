use Rattle.std.proofs.Common.{◌≡◌, ◌≢◌, Bool, true, false, IsTrue, refl, sym, ap, ◌∙◌, subst}
use Rattle.gate_tables.proofs.Versions.{version_again}
use Rattle.gate_tables.proofs.found.found_in.Goals as goal
use Rattle.gate_tables.specs.Creation.{after_first}
use Rattle.gate_tables.specs.Effects.{IsUnused}
use Rattle.gate_tables.specs.Plain.{is_plain_schema}
use Rattle.gate_tables.specs.Schemas.{schema_of_version, version_of}
use Rattle.gate_tables.specs.declared.version.Version.{Version}
use Rattle.gate_tables.specs.declared.version.Version.TheVariants.{Version1, Version2}
use Rattle.sqlite.specs.Schema.{Schema}
use Rattle.sqlite.specs.State.{State}
use Rattle.sqlite.specs.Steps.{IsEmpty}
use Rattle.sqlite_trees.specs.View.{doubt}

-- an empty database has none of the tables
unused : (s : State) → IsEmpty s → IsUnused (after_first 0) s
unused s empty = record {
  inside = record { is_open = empty.0.is_open; within = refl; schema_is = empty.2; kept = record { tables = tt; unique = tt } };
  none = tt;
}

-- memory has no faults
clean : doubt true ≡ 0
unfolding doubt
clean = refl

-- the tables of a version have no rule over rows but keys
plain : (version : Version) → IsTrue (is_plain_schema (schema_of_version version))
plain Version1 = refl
plain Version2 = refl

-- what holds is not told to fail
refuted : (told : Bool) (P : Type 0) → (P → IsTrue told) → told ≡ false → P → ⊥
refuted told P holds is p = let yes : told ≡ true = holds p in cc

-- a schema that is told to be no other one is none
apart : (found shown other : Schema) (told : Bool) → shown ≡ other → IsTrue (is_plain_schema other) → (IsTrue (is_plain_schema shown) → found ≡ shown → IsTrue told) → told ≡ false → found ≢ other
apart found shown other told is plain same = refuted told (found ≡ other) (λ e. same (subst (λ s. IsTrue (is_plain_schema s)) (sym is) plain) (e ∙ sym is))

-- one that isn't that of the version which it could be of is that of none
of_none : (found : Schema) (version : Version) → version ≡ version_of found → found ≢ schema_of_version version → (other : Version) → found ≢ schema_of_version other
of_none found version could_be not other is = not (is ∙ ap schema_of_version (sym (could_be ∙ ap version_of is ∙ version_again other)))

pub returns-then-is_same : goal.returns-then-is_same
returns-then-is_same c =
    let made = c.in_ok-make_version.ensures.made clean (unused _ c.in_ok-model.ensures.empty) in
    c.is_same.ensures.same c.if-is_same.true ∙ c.schema.ensures.value ∙ made.inside.schema_is

pub returns : goal.returns
returns c =
    let made = c.in_ok-make_version.ensures.made clean (unused _ c.in_ok-model.ensures.empty) in
    let version = c.of-version.result in (
      refuted _ _ c.is_blank.ensures.1 c.if-is_blank.false,
      of_none _ version c.of-version.ensures (apart _ _ _ _ (c.schema.ensures.value ∙ made.inside.schema_is) (plain version) c.is_same.ensures.told c.if-is_same.false),
    )
