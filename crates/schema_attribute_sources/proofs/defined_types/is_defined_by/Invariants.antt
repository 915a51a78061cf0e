use Rattle.std.proofs.Common.{◌<◌, length}
use Rattle.schema_semantics.specs.Names.{Name}
use Rattle.schema_names.specs.Numbers.{HasNumber}
use Rattle.schema_names.specs.Schemas.{the_schema}
use Rattle.schema_attribute_sources.proofs.Following.{Walks}
use Rattle.schema_attribute_sources.proofs.defined_types.is_defined_by.Given as goal

abbrev pub invariant-loop-step : goal.invariant-loop-step
invariant-loop-step l =
    record {
      within : l.at < length l.names.schema.now.declarations.items;
      walks : (m n : Name) → HasNumber (the_schema l.names) m l.fn.number
          → HasNumber (the_schema l.names) n l.other → Walks (the_schema l.names) m n l.at l._step;
    }
