-- The population of an exchange structure: its instances, with their types and the values of their attributes.
use Rattle.std.specs.Prelude.{ℕ, suc, ◌==◌, cond, List, [], ◌∷◌, ◌++◌, map, Option, Some, None}
use Rattle.step_structures.specs.Trees as trees
use Rattle.step_structures.specs.Trees.{Tree, Trees, ExchangeRow, Section, File}
use Rattle.step_values.specs.Leaves as leaves
use Rattle.step_values.specs.Values.{Value, leaf}
use Rattle.express_syntax.specs.Schemas.{Schema, DataType}
use Rattle.schema_semantics.specs.Names.{Name}
use Rattle.schema_semantics.specs.Attributes.{Place, same_place}
use Rattle.conformance.specs.Bases.{Base, integer, Domain, base}
use Rattle.conformance.specs.ParameterFits.{value_as}
use Rattle.conformance.specs.Entities.{Entities, records, parameters, types_of, places_of, is_derived, data_types}

-- The value of an explicit attribute.
pub record Slot : Type 0 where
  pub place : Place
  pub value : Value

-- An instance of a population.
pub record Instance : Type 0 where
  pub name : ℕ
  -- The number of its data section, counted from 0.
  pub section : ℕ
  -- The names of its entity data types, in the order of the schema.
  pub types : List Name
  pub slots : List Slot

module _ (s : Schema) (d : Domain) (en : Entities) where
  -- The first of these data types; INTEGER if there is none.
  abbrev pub first_base : List DataType → Base
  first_base [] = integer
  first_base (k ∷ ks) = base d k

  -- The value of a parameter. It is derived, however it is spelled, if a redeclaration derives the
  -- attribute.
  abbrev pub value_at : List Name → Place → Tree → Value
  value_at types p x =
      cond (is_derived s en types p) (leaf leaves.derived) (value_as s d (first_base (data_types s en types p)) x)

  -- The values of these attributes, from the parameters in order.
  abbrev pub slots_of : List Name → List Place → Trees → List Slot
  slots_of types (p ∷ ps) (trees.one x xs) = record { place = p; value = value_at types p x } ∷ slots_of types ps xs
  slots_of types ps xs = []

  -- The instance that a data section's row describes.
  abbrev pub instance_of : ℕ → ExchangeRow → Instance
  instance_of section r = record {
    name = r.name;
    section = section;
    types = types_of s en r.form;
    slots = slots_of (types_of s en r.form) (places_of s en r.form) (parameters (records r.form));
  }

  abbrev pub instances_from : ℕ → List Section → List Instance
  instances_from k [] = []
  instances_from k (x ∷ xs) = map (instance_of k) x.rows ++ instances_from (suc k) xs

  -- The instances of all data sections, in the order of the file.
  abbrev pub population_of : File → List Instance
  population_of f = instances_from 0 f.sections

-- The first instance with a name, if any.
abbrev pub instance_at : List Instance → ℕ → Option Instance
instance_at [] y = None
instance_at (i ∷ is) y = cond (i.name == y) (Some i) (instance_at is y)

-- The value of an explicit attribute, if any.
abbrev pub slot_at : List Slot → Place → Option Value
slot_at [] p = None
slot_at (x ∷ xs) p = cond (same_place x.place p) (Some x.value) (slot_at xs p)

-- The value of an explicit attribute of the instance, if any.
abbrev pub value_in : Option Instance → Place → Option Value
value_in None p = None
value_in (Some i) p = slot_at i.slots p

-- The value of an explicit attribute of the instance with this name, if any.
abbrev pub value_of : List Instance → ℕ → Place → Option Value
value_of is y p = value_in (instance_at is y) p

-- The types of the instance, if any, otherwise empty.
abbrev pub types_in : Option Instance → List Name
types_in None = []
types_in (Some i) = i.types

abbrev pub types_at : List Instance → ℕ → List Name
types_at is y = types_in (instance_at is y)
