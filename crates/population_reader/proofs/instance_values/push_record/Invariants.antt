use Rattle.std.proofs.Common.{drop}
use Rattle.step_records.specs.Cells.{all_of}
use Rattle.schema_names.specs.Schemas.{the_schema}
use Rattle.population_reader.specs.steps.Making.{values_by, AreReady, found_by, AddsUpTo}
use Rattle.population_reader.proofs.instance_values.push_record.Given as goal

abbrev pub invariant-loop-i : goal.invariant-loop-i
invariant-loop-i l =
    AddsUpTo l.maker l.initial.builder l.builder (λ d. values_by (the_schema l.maker.bases.names.now) d l.slots
    (all_of l.values))
    (λ d. values_by (the_schema l.maker.bases.names.now) d (drop l.i l.slots) (all_of (drop l.i l.values)))
    × AreReady (the_schema l.maker.bases.names.now) (found_by l.maker) (drop l.i l.slots) (all_of (drop l.i l.values))
