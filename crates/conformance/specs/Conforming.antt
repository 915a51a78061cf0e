-- When a population conforms to a schema, whatever the form of its records and the spelling of its
-- values (ISO 10303-11, 8 and 9; ISO 10303-21, 11).
use Rattle.std.specs.Prelude.{◌≡◌, Bool, true, false, List, map, ◌⊎◌, ◌↔◌}
use Rattle.std.specs.Option.{option_map}
use Rattle.step_values.specs.Leaves.{derived}
use Rattle.step_values.specs.Values.{Value, leaf}
use Rattle.express_syntax.specs.Schemas.{Schema, DataType}
use Rattle.express_syntax.specs.Profile.{Every}
use Rattle.schema_semantics.specs.Names.{Name, Among, DeclaresExplicit}
use Rattle.conformance.specs.Bases.{Domain, base}
use Rattle.conformance.specs.Entities.{Entities, abstract_leaves, missing_supertypes, broken_one_ofs, is_derived, is_optional, data_types}
use Rattle.conformance.specs.Populations.{Slot, Instance, instance_at}
use Rattle.conformance.specs.Fits.{IsLeftOut, Typing, Fits}

module _ (s : Schema) (d : Domain) (typing : Typing) where
  -- The value fits all of these data types.
  abbrev pub FitsAll : List DataType → Value → Type 0
  FitsAll ks v = Every (λ (k : DataType). Fits s d typing (base d k) v) ks

  -- If the attribute is redeclared as derived, the value is derived. Otherwise the value is left
  -- out and the attribute is OPTIONAL, or the value fits each data type with which the attribute is
  -- declared and redeclared.
  abbrev pub ValueFits : Bool → Bool → List DataType → Value → Type 0
  ValueFits true optional ks v = v ≡ leaf derived
  ValueFits false optional ks v = IsLeftOut optional v ⊎ FitsAll ks v

  module _ (en : Entities) where
    abbrev pub SlotFits : List Name → Slot → Type 0
    SlotFits types x =
        ValueFits (is_derived s en types x.place) (is_optional s en types x.place) (data_types s en types x.place)
        x.value

    -- An instance conforms:
    -- - no type without a subtype among its types is ABSTRACT;
    -- - each supertype of its types is one of its types;
    -- - its types include at most one operand of each ONEOF;
    -- - it has a value for each explicit attribute that one of its types declares, and for no
    --   other;
    -- - its values fit.
    pub record Conforms (i : Instance) : Type 0 where
      pub leaves : abstract_leaves s en i.types ≡ 0
      pub supertypes : missing_supertypes s en i.types ≡ 0
      pub one_ofs : broken_one_ofs s en i.types ≡ 0
      pub attributes : (e a : Name)
          → Among (e, a) (map (λ (x : Slot). x.place) i.slots) ↔ (Among e i.types × DeclaresExplicit s e a)
      pub slots : Every (SlotFits i.types) i.slots

-- The types of the instance with a name, if any.
abbrev pub typing_of : List Instance → Typing
typing_of is y = option_map (λ (i : Instance). i.types) (instance_at is y)

-- Each instance of the population conforms.
abbrev pub PopulationConforms : Schema → Domain → Entities → List Instance → Type 0
PopulationConforms s d en is = Every (Conforms s d (typing_of is) en) is
