-- The attributes that a reference takes, by number (ISO 10303-11, 12.7.3 and 12.7.4).
use Rattle.std.specs.Prelude.{List, ◌↔◌, IsTrue}
use Rattle.graphs.specs.Graphs.{graph_of}
use Rattle.graphs.specs.Closures.{IsReversal}
use Rattle.express_syntax.specs.Schemas.{Schema}
use Rattle.schema_semantics.specs.Names.{Name}
use Rattle.schema_semantics.specs.Faults.{IsResolved}
use Rattle.schema_semantics.specs.Shapes.{Atom}
use Rattle.schema_semantics.specs.Attributes.{Derivation}
use Rattle.schema_semantics.specs.Sets.{Set, AttributeReference, MayTake, IsUnclear, OfTaken, MayUse}
use Rattle.schema_names.specs.Schemas.{the_schema}
use Rattle.schema_explicit_attributes.specs.Supertypes.{AreAbove}
use Rattle.schema_data_types.specs.declared.values.Atom.{Atom as Numbered}
use Rattle.schema_data_types.specs.steps.Values.{Holds, AreTables}
use Rattle.schema_attributes.specs.Derivations.{HoldsDerivation}
use Rattle.schema_attributes.specs.steps.Declarations.{AreAttributes}
use Rattle.schema_attribute_references.specs.declared.schema_facts.Known.{Known}
use Rattle.schema_attribute_references.specs.declared.taken_attributes.Taken.{Taken}

-- The schema to which the tables belong.
abbrev pub schema_in : Known → Schema
schema_in k = the_schema k.tables.names.now

-- The tables are those of the schema.
pub record IsKnown (k : Known) : Type 0 where
  pub resolved : IsResolved (schema_in k)
  pub tables : AreTables k.tables
  pub above : AreAbove (schema_in k) (graph_of k.above.now)
  pub below : IsReversal (graph_of k.above.now) (graph_of k.below.now)
  pub attributes : AreAttributes (schema_in k) k.attributes.now

-- The list of atoms represents the set M.
abbrev pub IsSet : Schema → Set → List Numbered → Type 0
IsSet s M xs = (x : Atom) → Holds s xs x ↔ M x

-- t has the attributes that the reference takes.
pub record IsTaken (s : Schema) (q : AttributeReference) (t : Taken) : Type 0 where
  pub some : IsTrue t.is_some ↔ ((p : Name) × MayTake s q p)
  pub unclear : IsTrue t.is_unclear ↔ IsUnclear s q
  pub may : IsSet s (OfTaken s q) t.may.items
  pub uses : (d : Derivation) → HoldsDerivation s t.uses.items d ↔ MayUse s d q
