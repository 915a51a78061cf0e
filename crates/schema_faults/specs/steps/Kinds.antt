-- Subtypes and attributes by number, over the rows of all proper supertypes.
use Rattle.std.specs.Prelude.{ℕ, Bool, false, ◌&&◌, List, Option, None, Some}
use Rattle.std.specs.List.{list_any}
use Rattle.graphs.specs.Graphs.{Graph}
use Rattle.express_syntax.specs.Schemas.{Schema}
use Rattle.schema_semantics.specs.Names.{Name}
use Rattle.schema_names.specs.Numbers.{number_of}
use Rattle.schema_explicit_attributes.specs.declared.own_attributes.Meant.TheVariants.{All, Explicit}
use Rattle.schema_explicit_attributes.specs.Supertypes.{is_or_leads}
use Rattle.schema_explicit_attributes.specs.steps.Owned.{has_meant}

-- Whether the entity n is, or is a subtype of, the one with the number j.
abbrev pub is_kind : Schema → Graph → ℕ → Name → Bool
is_kind s above j n = is_or_leads above (number_of s n) j

-- Whether j has an attribute a, and one of the supertypes is j or a subtype of j; false without an
-- entity j.
abbrev pub is_inherited_at : Schema → Graph → List Name → Name → Option ℕ → Bool
is_inherited_at s above supertypes a None = false
is_inherited_at s above supertypes a (Some j) = list_any (is_kind s above j) supertypes && has_meant s above All a j

abbrev pub is_inherited : Schema → Graph → List Name → Name → Name → Bool
is_inherited s above supertypes q a = is_inherited_at s above supertypes a (number_of s q)

-- Whether the entity, if any, has an explicit attribute a.
abbrev pub is_inverted_at : Schema → Graph → Name → Option ℕ → Bool
is_inverted_at s above a None = false
is_inverted_at s above a (Some j) = has_meant s above Explicit a j

abbrev pub is_inverted : Schema → Graph → Name → Name → Bool
is_inverted s above q a = is_inverted_at s above a (number_of s q)
