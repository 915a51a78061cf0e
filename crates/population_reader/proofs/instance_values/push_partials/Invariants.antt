use Rattle.std.proofs.Common.{drop, map}
use Rattle.step_exchange.specs.Views.{record_in}
use Rattle.conformance.specs.Entities.{parameters}
use Rattle.schema_names.specs.Schemas.{the_schema}
use Rattle.population_reader.specs.steps.Making.{values_by, AreReady, found_by, AddsUpTo}
use Rattle.population_reader.proofs.instance_values.push_partials.Given as goal

abbrev pub invariant-loop-i : goal.invariant-loop-i
invariant-loop-i l =
    AddsUpTo l.maker l.initial.builder l.builder
    (λ d. values_by (the_schema l.maker.bases.names.now) d l.slots (parameters (map record_in l.partials)))
    (λ d. values_by (the_schema l.maker.bases.names.now) d l.left (parameters (map record_in (drop l.i l.partials))))
    × AreReady (the_schema l.maker.bases.names.now) (found_by l.maker) l.left
    (parameters (map record_in (drop l.i l.partials)))
