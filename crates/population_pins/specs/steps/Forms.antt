-- What the code computes; no promise stands here. What pins the instances of a form, by numbers.
use Rattle.std.specs.Prelude.{◌≡◌, ℕ, ◌&&◌, ◌||◌, not, Bool, cond, List, [], flat_map, filter_map}
use Rattle.std.specs.List.{list_any}
use Rattle.graphs.specs.Graphs.{Graph, graph_of, has}
use Rattle.population_forms.specs.steps.Marked.{is_above}
use Rattle.population_rows.specs.declared.form.Form.{Form}
use Rattle.schema_constraints.specs.declared.uniques.UniqueRule.{UniqueRule}
use Rattle.merge_choices.specs.ChosenEntities.{is_chosen}
use Rattle.merge_choices.specs.declared.choice.Chosen.{Chosen}
use Rattle.typed_populations.specs.ValueOrder.{position_among}
use Rattle.population_pins.specs.declared.forms.FormRules.{FormRules}
use Rattle.population_pins.specs.declared.forms.Sources.{Sources}

-- One of these types that has no subtype among them isn't chosen.
abbrev pub has_unchosen_leaf : Graph → Chosen → List ℕ → Bool
has_unchosen_leaf above c types = list_any (λ i. not (is_chosen c i) && not (is_above above types i)) types

-- One of these types declares a uniqueness rule.
abbrev pub states_rule : List UniqueRule → List ℕ → Bool
states_rule uniques types = list_any (λ (u : UniqueRule). has types u.entity) uniques

-- The positions of the values that a uniqueness rule names.
abbrev pub key_positions : UniqueRule → Form → List ℕ
key_positions u x = cond (has x.types.items u.entity) (filter_map (position_among x.slots.items) u.places.items) []

abbrev pub keys_by : List UniqueRule → Form → List ℕ
keys_by uniques x = flat_map (λ (u : UniqueRule). key_positions u x) uniques

-- `r` are the rules of the form `x`.
pub record IsFormRules (c : Sources) (x : Form) (r : FormRules) : Type 0 where
  pub is_pinned : r.is_pinned
      ≡ (has_unchosen_leaf (graph_of c.above.now) c.chosen.now x.types.items || states_rule c.uniques.now x.types.items)
  pub keys : r.keys.items ≡ keys_by c.uniques.now x
