-- The instances that the tables of a population represent.
use Rattle.std.specs.Prelude.{ℕ, List}
use Rattle.std.specs.List.{sum_by}
use Rattle.step_values.specs.steps.NodeCounts.{nodes_of}
use Rattle.conformance.specs.Populations.{Slot, Instance}
use Rattle.schema_names.specs.Schemas.{the_schema}
use Rattle.typed_populations.specs.Rows.{instances_seen, section_numbers}
use Rattle.typed_populations.specs.declared.population.Population.{Population}

abbrev pub population_seen : Population → List Instance
population_seen p =
    instances_seen (the_schema p.types.now.names) p.rows.forms.items p.exchange.now.names
    (section_numbers 0 0 p.exchange.now.sections.items) p.rows.form_of.items p.values.rows

-- how many nodes the values of instances have
abbrev pub nodes_seen : List Instance → ℕ
nodes_seen is = sum_by (λ (i : Instance). sum_by (λ (x : Slot). nodes_of x.value) i.slots) is
