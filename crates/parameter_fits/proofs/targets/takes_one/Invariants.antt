use Rattle.std.proofs.Common.{◌≡◌, drop, map}
use Rattle.std.specs.List.{list_any}
use Rattle.schema_semantics.specs.Names.{Name}
use Rattle.schema_names.specs.Numbers.{HasNumber}
use Rattle.schema_names.specs.Schemas.{the_schema}
use Rattle.conformance.specs.Bases.{Domain, IsDomain}
use Rattle.schema_underlying_types.specs.BaseViews.{name_at}
use Rattle.parameter_fits.specs.steps.Led.{AreNumbered}
use Rattle.parameter_fits.proofs.targets.takes_one.Given as goal

-- what is left decides
abbrev pub invariant-loop-entity : goal.invariant-loop-entity
invariant-loop-entity l = record {
  numbered : AreNumbered (the_schema l.bases.names.now) (drop l.entity-index l.types);
  left : (d : Domain) → IsDomain (the_schema l.bases.names.now) d → (m : Name)
      → HasNumber (the_schema l.bases.names.now) m l.number
      → list_any (d.is_item m) (map (name_at (the_schema l.bases.names.now)) (drop l.entity-index l.types))
      ≡ list_any (d.is_item m) (map (name_at (the_schema l.bases.names.now)) l.types);
}
