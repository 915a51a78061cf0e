-- The key and the name of the instance of a row.
use Rattle.std.specs.Prelude.{◌≡◌, ℕ, List, map, Option, Some, None, slice_get, Vec}
use Rattle.std.proofs.Common.{refl, sym, ◌∙◌, ap}
use Rattle.conformance.specs.Populations.{Instance}
use Rattle.population_rows.specs.declared.form.Form.{Form}
use Rattle.conformance.specs.RuleFindings.{key}
use Rattle.schema_constraints.specs.declared.uniques.UniqueRule.{UniqueRule}
use Rattle.schema_constraints.specs.RuleViews.{unique_seen, IsNumberedUnique}
use Rattle.typed_populations.specs.steps.Instances.{IsInstance}
use Rattle.typed_populations.specs.Rows.{instance_seen}
use Rattle.typed_populations.specs.PopulationViews.{population_seen}
use Rattle.typed_populations.specs.PopulationTables.{form_among}
use Rattle.typed_populations.specs.declared.instances.InstanceRow.{InstanceRow}
use Rattle.typed_populations.specs.declared.population.Population.{Population}
use Rattle.typed_populations.proofs.Found.{kept, schema_seen}
use Rattle.population_uniqueness.specs.steps.Parts.{parts_by}
use Rattle.population_uniqueness.specs.steps.Positions.{numbers_in, positions_by, positions_among}
use Rattle.population_uniqueness.proofs.Placed.{numbered_form, key_is, positions_found}

module _ (p : Population) (row : ℕ) (x : InstanceRow) (is : IsInstance p row x) where
  -- the instance of the row
  pub instance : Instance
  instance =
      instance_seen (schema_seen p) x.name is.section (form_among p.rows.forms.items x.form) x.values

  pub stands : slice_get (population_seen p) row ≡ Some instance
  unfolding instance
  stands = is.seen

  pub name_is : instance.name ≡ x.name
  unfolding instance
  name_is = by (form_among p.rows.forms.items x.form)
    where
      by : (o : Option Form) → (instance_seen (schema_seen p) x.name is.section o x.values).name ≡ x.name
      by None = refl
      by (Some f) = refl

  pub key_by_form : {Z : Type 0} (u : UniqueRule) → IsNumberedUnique (schema_seen p) u
      → (all : List (Option (Vec ℕ Z))) → map numbers_in all ≡ map (positions_by u) p.rows.forms.items
      → key (unique_seen (schema_seen p) u) instance ≡ parts_by x.values (numbers_in (positions_among all x.form))
  unfolding instance
  key_by_form u numbered all e =
      key_is (schema_seen p) (kept p).one u numbered x.name is.section (form_among p.rows.forms.items x.form)
      x.values is.placed (numbered_form (schema_seen p) p.rows.forms.items (kept p).numbered x.form)
      ∙ ap (parts_by x.values) (sym (positions_found u all p.rows.forms.items e x.form))
