-- The requirements on the value of an attribute, in terms of declaration numbers.
use Rattle.std.specs.Prelude.{◌≡◌, ℕ, List, map, flat_map}
use Rattle.std.specs.List.{list_all, list_any}
use Rattle.graphs.specs.Graphs.{graph_of, has, next}
use Rattle.schema_redeclarations.specs.Uses.{of_place, uses_at}
use Rattle.schema_redeclarations.specs.declared.uses.AttributeUse.{AttributeUse}
use Rattle.schema_redeclarations.specs.declared.uses.Uses.{Uses}
use Rattle.population_rows.specs.declared.form.SlotForm.{SlotForm}

-- the declarations of the explicit attribute q by these types
abbrev pub uses_by : Uses → List ℕ → ℕ → List AttributeUse
uses_by t types q = flat_map (λ i. of_place q (uses_at t i)) types

-- The tables require x of the value of the explicit attribute q.
pub record IsSlotAt (t : Uses) (types : List ℕ) (q : ℕ) (x : SlotForm) : Type 0 where
  pub place : x.place ≡ q
  pub derived : x.is_derived ≡ list_any (λ i. has (next (graph_of t.derived.items) i) q) types
  pub optional : x.is_optional ≡ list_all (λ (u : AttributeUse). u.is_optional) (uses_by t types q)
  pub data_types : x.data_types.items ≡ map (λ (u : AttributeUse). u.data_type) (uses_by t types q)
