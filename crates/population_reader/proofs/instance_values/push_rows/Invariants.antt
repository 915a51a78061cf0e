use Rattle.std.proofs.Common.{◌≡◌, [], drop}
use Rattle.step_exchange.specs.Views.{rows_with}
use Rattle.schema_names.specs.Schemas.{the_schema}
use Rattle.population_reader.specs.steps.Making.{rows_by, AreRowsReady, found_by, AddsRowsUpTo}
use Rattle.population_reader.proofs.instance_values.push_rows.Given as goal

abbrev pub invariant-loop-i : goal.invariant-loop-i
invariant-loop-i l =
    AddsRowsUpTo l.maker l.initial.builder l.builder
    (λ d. rows_by (the_schema l.maker.bases.names.now) d l.rows.forms.items (rows_with l.names l.instances)
    l.rows.form_of.items)
    (λ d. rows_by (the_schema l.maker.bases.names.now) d l.rows.forms.items (drop l.i (rows_with l.names l.instances))
    (drop l.i l.rows.form_of.items))
    × AreRowsReady (the_schema l.maker.bases.names.now) (found_by l.maker) l.rows.forms.items
    (drop l.i (rows_with l.names l.instances)) (drop l.i l.rows.form_of.items)
    × (l.builder.pending ≡ [])
