-- The instance of a row of a population.
use Rattle.std.specs.Prelude.{◌≡◌, ℕ, Some, slice_get}
use Rattle.schema_names.specs.Schemas.{the_schema}
use Rattle.typed_populations.specs.PopulationTables.{form_among, ArePlaced, HaveEntities}
use Rattle.typed_populations.specs.Rows.{instance_seen}
use Rattle.typed_populations.specs.PopulationViews.{population_seen}
use Rattle.typed_populations.specs.declared.population.Population.{Population}
use Rattle.typed_populations.specs.declared.instances.InstanceRow.{InstanceRow}

-- The instance of the row is x, and its form has entities and attributes of the schema.
pub record IsInstance (p : Population) (row : ℕ) (x : InstanceRow) : Type 0 where
  pub section : ℕ
  pub seen : slice_get (population_seen p) row
      ≡ Some (instance_seen (the_schema p.types.now.names) x.name section (form_among p.rows.forms.items x.form)
      x.values)
  pub placed : ArePlaced (the_schema p.types.now.names) (form_among p.rows.forms.items x.form)
  pub entities : HaveEntities (the_schema p.types.now.names) (form_among p.rows.forms.items x.form)
