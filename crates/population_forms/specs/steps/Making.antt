-- The form of instances, in terms of declaration numbers.
use Rattle.std.specs.Prelude.{◌≡◌, ℕ, ◌&&◌, not, List}
use Rattle.std.specs.List.{AllZip}
use Rattle.graphs.specs.Graphs.{graph_of, has}
use Rattle.conformance.specs.Entities.{how_many}
use Rattle.schema_names.specs.Schemas.{the_schema}
use Rattle.population_forms.specs.declared.knowledge.Knowledge.{Knowledge}
use Rattle.population_rows.specs.declared.form.Form.{Form}
use Rattle.population_forms.specs.steps.Marked.{AreSorted, has_two, is_abstract_at, is_above}
use Rattle.population_forms.specs.steps.Slots.{IsSlotAt}

-- The form counts how often the types violate the schema, given their proper supertypes.
pub record AreCounts (k : Knowledge) (types supertypes : List ℕ) (x : Form) : Type 0 where
  pub abstract_leaves : x.abstract_leaves
      ≡ how_many (λ i. not (has supertypes i) && is_abstract_at (the_schema k.names.now) i) types
  pub missing_supertypes : x.missing_supertypes ≡ how_many (λ i. not (has types i)) supertypes
  pub broken_one_ofs : x.broken_one_ofs ≡ how_many (has_two types) (graph_of k.one_ofs.now)

-- The form is that of instances of the types with these numbers.
pub record IsForm (k : Knowledge) (numbers parameters places : List ℕ) (x : Form) : Type 0 where
  pub types : x.types.items ≡ numbers
  pub supertypes : List ℕ
  pub above : AreSorted (is_above (graph_of k.above.now) numbers) supertypes
  pub broken : AreCounts k numbers supertypes x
  pub counts : x.counts.items ≡ parameters
  pub slots : AllZip (IsSlotAt k.uses.now numbers) places x.slots.items
