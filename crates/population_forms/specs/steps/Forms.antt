-- Forms of instances, in terms of declaration numbers.
use Rattle.std.specs.Prelude.{◌≡◌, ℕ, List, [], ◌∷◌, Some, length, map, slice_get}
use Rattle.step_structures.specs.Trees.{Record, Form, internal, external}
use Rattle.express_syntax.specs.Schemas.{Schema}
use Rattle.express_syntax.specs.Profile.{Every}
use Rattle.schema_semantics.specs.Names.{Name, IsEntity}
use Rattle.schema_semantics.specs.Attributes.{Place}
use Rattle.schema_names.specs.Numbers.{HasNumber}
use Rattle.schema_explicit_attributes.specs.Places.{all_places}
use Rattle.schema_underlying_types.specs.BaseViews.{name_at, type_at}
use Rattle.schema_underlying_types.specs.Tables.{NamesKnownType}
use Rattle.conformance.specs.Entities.{Entities, named_entity, own_places_of, types_of, places_of, abstract_leaves, missing_supertypes, broken_one_ofs, is_derived, is_optional, data_types}
use Rattle.population_rows.specs.declared.form.SlotForm.{SlotForm}
use Rattle.population_rows.specs.declared.form.Form.{Form as NumberedForm}

-- each record names the entity with the number at the same position
abbrev pub NameEntities : Schema → List Record → List ℕ → Type 0
NameEntities s [] [] = Unit {0}
NameEntities s (r ∷ rs) (i ∷ is) =
    (IsEntity s (named_entity r) × HasNumber s (named_entity r) i) × NameEntities s rs is
NameEntities s rs is = ⊥

-- how many parameters each record needs
abbrev pub counts_of : Schema → Entities → Form → List ℕ
counts_of s en (internal r) = length (en.places (named_entity r)) ∷ []
counts_of s en (external rs) = map (λ (r : Record). length (own_places_of s (named_entity r))) rs

-- the schema's requirements on the value of the attribute p, in an instance of these types
pub record IsSlotOf (s : Schema) (en : Entities) (types : List Name) (p : Place) (x : SlotForm) : Type 0 where
  pub derived : x.is_derived ≡ is_derived s en types p
  pub optional : x.is_optional ≡ is_optional s en types p
  pub data_types : map (type_at s) x.data_types.items ≡ data_types s en types p
  pub known : Every (λ k. NamesKnownType s (type_at s k)) x.data_types.items

abbrev pub AreSlotsOf : Schema → Entities → List Name → List Place → List SlotForm → Type 0
AreSlotsOf s en types [] [] = Unit {0}
AreSlotsOf s en types (p ∷ ps) (x ∷ xs) =
    ((slice_get (all_places s) x.place ≡ Some p) × IsSlotOf s en types p x) × AreSlotsOf s en types ps xs
AreSlotsOf s en types ps xs = ⊥

-- The form x has what the schema requires of the records of f.
pub record IsFormOf (s : Schema) (en : Entities) (f : Form) (x : NumberedForm) : Type 0 where
  pub types : map (name_at s) x.types.items ≡ types_of s en f
  pub numbered : Every (λ i. HasNumber s (name_at s i) i) x.types.items
  pub abstract_leaves : x.abstract_leaves ≡ abstract_leaves s en (types_of s en f)
  pub missing_supertypes : x.missing_supertypes ≡ missing_supertypes s en (types_of s en f)
  pub broken_one_ofs : x.broken_one_ofs ≡ broken_one_ofs s en (types_of s en f)
  pub counts : x.counts.items ≡ counts_of s en f
  pub slots : AreSlotsOf s en (types_of s en f) (places_of s en f) x.slots.items
