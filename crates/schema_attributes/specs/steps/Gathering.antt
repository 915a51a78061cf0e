-- The attribute declarations of the entities of a schema, by number
-- (ISO 10303-11, 9.2.1 and 9.2.3.4).
use Rattle.std.specs.Prelude.{◌≡◌, ℕ, ◌+◌, ◌<◌, List, Option, None, Some, flat_map, take, length, slice_get, ◌⊎◌, ◌↔◌}
use Rattle.graphs.specs.Graphs.{Graph, graph_of, next}
use Rattle.step_literals.specs.declared.literal.Word.{Word}
use Rattle.express_syntax.specs.ExpressionViews.{capitals}
use Rattle.express_syntax.specs.Schemas.{Schema, Declaration, type, entity, skipped, Entity, Attribute, own, redeclared, Explicit, Derived, Inverse, DataType}
use Rattle.schema_semantics.specs.Names.{Name, Among, listed}
use Rattle.schema_semantics.specs.Faults.{IsResolved}
use Rattle.schema_semantics.specs.Attributes.{IsRedeclaration, HasFirstShape}
use Rattle.schema_names.specs.Numbers.{HasNumber, AreNumberRowsOf}
use Rattle.schema_names.specs.Schemas.{the_schema}
use Rattle.schema_data_types.specs.NumberedTypes.{whole_types, all_data_types}
use Rattle.schema_data_types.specs.ShapeTables.{AreShapes, IsKnown}
use Rattle.schema_explicit_attributes.specs.SupertypeLines.{HaveLines}
use Rattle.schema_attributes.specs.declared.attributes.Attributes.{Attributes}
use Rattle.schema_attributes.specs.declared.declaration.AttributeDeclaration.{AttributeDeclaration}
use Rattle.schema_attributes.specs.declared.attribute_collection.Class.{Class}
use Rattle.schema_attributes.specs.declared.attribute_collection.Class.TheVariants as classes
use Rattle.schema_attributes.specs.declared.attribute_collection.Sources.{Sources}
use Rattle.schema_attributes.specs.steps.Declarations.{found}
use Rattle.schema_attributes.specs.Derivations.{derivations_in}

abbrev pub rows_in : Sources → Graph
rows_in c = graph_of c.data_types.now.rows.items

-- The sources are those of a resolved schema.
pub record AreSources (c : Sources) : Type 0 where
  pub resolved : IsResolved (the_schema c.names.now)
  pub rows : AreNumberRowsOf whole_types (all_data_types (the_schema c.names.now)) (the_schema c.names.now).declarations
      (rows_in c)
  pub lines : HaveLines (the_schema c.names.now) (graph_of c.lines.now)
  pub each : length c.lines.now ≡ length c.names.now.schema.now.declarations.items
  pub shapes : AreShapes (the_schema c.names.now) c.shapes.now

-- x is a declaration of the name a in the table.
abbrev pub Holds : Attributes → Name → AttributeDeclaration → Type 0
Holds t a x = (w : Word) × (capitals w ≡ a) × Among x (found t w)

-- The table is extended by exactly the declarations for which P holds.
abbrev pub AddsAll : Attributes → (Name → AttributeDeclaration → Type 0) → Attributes → Type 0
AddsAll old P new = (a : Name) (x : AttributeDeclaration) → Holds new a x ↔ (Holds old a x ⊎ P a x)

-- The data type t is known, if attributes of this class require it.
abbrev pub IsKnownAt : Schema → Class → ℕ → Type 0
IsKnownAt s classes.Explicit t = (k : DataType) × (slice_get (all_data_types s) t ≡ Some k) × IsKnown s k
IsKnownAt s classes.Derived t = Unit {0}
IsKnownAt s classes.Inverse t = Unit {0}

-- The first m data types of a row are known.
abbrev pub AreKnownFrom : Schema → ℕ → List ℕ → Type 0
AreKnownFrom s m row = (n t : ℕ) → n < m → slice_get row n ≡ Some t → IsKnownAt s classes.Explicit t

-- A redeclaration of the attribute a of p with the data type t counts.
abbrev pub Allows : Schema → Class → ℕ → Name → Name → Type 0
Allows s classes.Explicit t p a =
    (k : DataType) × (slice_get (all_data_types s) t ≡ Some k) × HasFirstShape s p a k
Allows s classes.Derived t p a = Unit {0}
Allows s classes.Inverse t p a = ⊥

-- The declaration x of the name a is the declaration d of the name n.
abbrev pub SaysIs : Name → AttributeDeclaration → Name → AttributeDeclaration → Type 0
SaysIs n d a x = (n ≡ a) × (d ≡ x)

-- x follows from the declaration d of an attribute of an entity, or of a redeclaration in its
-- place.
abbrev pub Says : Schema → Class → AttributeDeclaration → Attribute → Name → AttributeDeclaration → Type 0
Says s c d (own n) a x = SaysIs n d a x
Says s c d (redeclared q n) a x =
    (p : Name) × (j : ℕ) × HasNumber s p j × IsRedeclaration s (redeclared q n) p a × Allows s c d.data_type p a
    × (record { entity = j; data_type = d.data_type; derivation = d.derivation } ≡ x)

-- x follows by P from an item of the list.
abbrev pub AreNth : {X : Type 0} → (ℕ → X → Name → AttributeDeclaration → Type 0) → List X → Name
    → AttributeDeclaration → Type 0
AreNth {X} P xs a d = (n : ℕ) × (x : X) × (slice_get xs n ≡ Some x) × P n x a d

-- x follows from the declaration of one attribute, if its data type has a number.
abbrev pub SaysOne : Schema → Class → ℕ → Option ℕ → Option ℕ → Attribute → Name → AttributeDeclaration → Type 0
SaysOne s c i t o y a x =
    (k : ℕ) × (t ≡ Some k) × Says s c (record { entity = i; data_type = k; derivation = o }) y a x

-- x follows from one of the attributes that are declared together.
abbrev pub SaysTogether : Schema → ℕ → ℕ → Option ℕ → List Attribute → Name → AttributeDeclaration → Type 0
SaysTogether s i k o =
    AreNth (λ (m : ℕ). Says s classes.Explicit (record { entity = i; data_type = k; derivation = o }))

-- x follows from the n-th explicit declaration of the entity i, whose row of data types is given.
abbrev pub SaysExplicit : Schema → ℕ → List ℕ → ℕ → Explicit → Name → AttributeDeclaration → Type 0
SaysExplicit s i row n e a x =
    (k : ℕ) × (slice_get row n ≡ Some k) × SaysTogether s i k None e.attributes a x

abbrev pub SaysDerived : Schema → ℕ → List ℕ → ℕ → ℕ → ℕ → Derived → Name → AttributeDeclaration → Type 0
SaysDerived s i row first count n e a x =
    SaysOne s classes.Derived i (slice_get row (first + n)) (Some (count + n)) e.attribute a x

abbrev pub SaysInverse : Schema → ℕ → List ℕ → ℕ → ℕ → Inverse → Name → AttributeDeclaration → Type 0
SaysInverse s i row first n e a x =
    SaysOne s classes.Inverse i (slice_get row (first + n)) None e.attribute a x

-- x follows from an attribute of the entity i, where `count` derived attributes precede those of
-- the entity.
abbrev pub SaysClauses : Schema → ℕ → List ℕ → ℕ → List Explicit → List Derived → List Inverse → Name
    → AttributeDeclaration → Type 0
SaysClauses s i row count xs ds is a x =
    (AreNth (SaysExplicit s i row) xs a x ⊎ AreNth (SaysDerived s i row (length xs) count) ds a x)
    ⊎ AreNth (SaysInverse s i row (length xs + length ds)) is a x

abbrev pub SaysEntity : Schema → ℕ → List ℕ → ℕ → Entity → Name → AttributeDeclaration → Type 0
SaysEntity s i row count e = SaysClauses s i row count e.explicits (listed e.derived) (listed e.inverses)

abbrev pub SaysDeclaration : Schema → ℕ → List ℕ → ℕ → Declaration → Name → AttributeDeclaration → Type 0
SaysDeclaration s i row count (type t) a x = ⊥
SaysDeclaration s i row count (entity e) a x = SaysEntity s i row count e a x
SaysDeclaration s i row count (skipped p) a x = ⊥

-- x follows from the declaration i.
abbrev pub SaysAt : Schema → Graph → List Declaration → ℕ → Declaration → Name → AttributeDeclaration → Type 0
SaysAt s rows ds i d = SaysDeclaration s i (next rows i) (length (flat_map derivations_in (take i ds))) d

-- x follows from one of the declarations of the schema.
abbrev pub SaysSchema : Schema → Graph → Name → AttributeDeclaration → Type 0
SaysSchema s rows = AreNth (SaysAt s rows s.declarations) s.declarations
