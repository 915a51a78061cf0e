use Rattle.conformance.specs.Choices.{MergeOptions}
use Rattle.conformance.specs.Entities.{Entities, AreEntities}
use Rattle.schema_names.specs.Schemas.{the_schema}
use Rattle.merge_choices.specs.ChosenEntities.{AreChosen}
use Rattle.schema_constraints.specs.RuleViews.{rules_seen}
use Rattle.typed_populations.specs.PopulationViews.{population_seen}
use Rattle.population_pins.proofs.Listing.{SoFar}
use Rattle.population_pins.specs.steps.Rows.{PinsByForm}
use Rattle.population_pins.proofs.rows.pin_by_forms.Given as goal

abbrev pub invariant-loop-row : goal.invariant-loop-row
invariant-loop-row l =
    (en : Entities) (those : MergeOptions) → AreEntities (the_schema l.population.types.now.names) en
    → AreChosen (the_schema l.population.types.now.names) those l.chosen
    → SoFar (PinsByForm (the_schema l.population.types.now.names) en those
    (rules_seen (the_schema l.population.types.now.names) l.rules).uniques) (population_seen l.population) l.row
    l.fn.pinned l.pinned
