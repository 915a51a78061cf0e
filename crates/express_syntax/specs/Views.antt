-- The trees that the program's values represent. Case doesn't matter in names.
use Rattle.std.specs.Prelude.{ℕ, Bool, List, [], ◌∷◌, map, Option, None, Some}
use Rattle.step_literals.specs.declared.literal.Word.{Word}
use Rattle.express_syntax.specs.Words as words
use Rattle.express_syntax.specs.ExpressionViews.{capitals, tree_of}
use Rattle.express_syntax.specs.declared.passage.Passage.{Passage}
use Rattle.express_syntax.specs.declared.passage.Run.{Run}
use Rattle.express_syntax.specs.declared.passage.Routine.{Routine}
use Rattle.express_syntax.specs.declared.tree.Body.{Body}
use Rattle.express_syntax.specs.declared.tree.Body.TheVariants as bodies
use Rattle.express_syntax.specs.declared.tree.Rule.{Rule}
use Rattle.express_syntax.specs.declared.tree.Bound.{Bound}
use Rattle.express_syntax.specs.declared.tree.Bound.TheVariants as bounds
use Rattle.express_syntax.specs.declared.tree.Bounds.{Bounds}
use Rattle.express_syntax.specs.declared.tree.Width.{Width}
use Rattle.express_syntax.specs.declared.tree.Width.TheVariants as widths
use Rattle.express_syntax.specs.declared.tree.FixedWidth.{FixedWidth}
use Rattle.express_syntax.specs.declared.tree.DataType.{DataType}
use Rattle.express_syntax.specs.declared.tree.DataType.TheOpen.{DataType-F}
use Rattle.express_syntax.specs.declared.tree.DataType.TheOpen as layer
use Rattle.express_syntax.specs.declared.tree.DataType.TheFolds.{fold-DataType}
use Rattle.express_syntax.specs.declared.tree.Underlying.{Underlying}
use Rattle.express_syntax.specs.declared.tree.Underlying.TheVariants as underlyings
use Rattle.express_syntax.specs.declared.tree.TypeDeclaration.{TypeDeclaration}
use Rattle.express_syntax.specs.declared.tree.Supertype.{Supertype}
use Rattle.express_syntax.specs.declared.tree.Supertype.TheVariants as supertypes
use Rattle.express_syntax.specs.declared.tree.Attribute.{Attribute}
use Rattle.express_syntax.specs.declared.tree.Attribute.TheVariants as attributes
use Rattle.express_syntax.specs.declared.tree.AttributeList.{AttributeList}
use Rattle.express_syntax.specs.declared.tree.AttributeList.TheVariants as lists
use Rattle.express_syntax.specs.declared.tree.Explicit.{Explicit}
use Rattle.express_syntax.specs.declared.tree.Derived.{Derived}
use Rattle.express_syntax.specs.declared.tree.Collection.{Collection}
use Rattle.express_syntax.specs.declared.tree.Collection.TheVariants as collections
use Rattle.express_syntax.specs.declared.tree.Inverse.{Inverse}
use Rattle.express_syntax.specs.declared.tree.Unique.{Unique}
use Rattle.express_syntax.specs.declared.tree.Entity.{Entity}
use Rattle.express_syntax.specs.declared.tree.Skipped.{Skipped}
use Rattle.express_syntax.specs.declared.tree.Skipped.TheVariants as skips
use Rattle.express_syntax.specs.declared.tree.Declaration.{Declaration}
use Rattle.express_syntax.specs.declared.tree.Declaration.TheVariants as declarations
use Rattle.express_syntax.specs.declared.tree.Version.{Version}
use Rattle.express_syntax.specs.declared.tree.Version.TheVariants as versions
use Rattle.express_syntax.specs.Runs as runs
use Rattle.express_syntax.specs.Schemas as trees

-- f of the element, if any
abbrev pub if_some : {A B : Type 0} → (A → B) → Option A → Option B
if_some f None = None
if_some f (Some x) = Some (f x)

abbrev pub run_of : Run → runs.Run
run_of r = r.run.0

abbrev pub routine_of : Routine → runs.Routine
routine_of r = r.routine.0

abbrev pub words_of_passage : Passage → List words.Word
words_of_passage p = p.words.0

abbrev pub names_of : List Word → List (List ℕ)
names_of ws = map capitals ws

abbrev pub body_of : Body → trees.Body
body_of (bodies.Expression x) = trees.parsed (tree_of x)
body_of (bodies.SetAside r) = trees.set_aside (run_of r)

abbrev pub rule_of : Rule → trees.Rule
rule_of r = record { label = if_some capitals r.label; body = body_of r.body }

abbrev pub bound_of : Bound → trees.Bound
bound_of (bounds.Value s d) = trees.value s d.text.now
bound_of bounds.Unlimited = trees.unlimited
bound_of (bounds.Other r) = trees.other_bound (run_of r.value)

abbrev pub bounds_of : Bounds → trees.Bounds
bounds_of b = record { lower = bound_of b.lower; upper = bound_of b.upper }

abbrev pub width_of : Width → trees.Width
width_of (widths.Value d) = trees.width d.text.now
width_of (widths.Other r) = trees.other_width (run_of r)

abbrev pub fixed_of : FixedWidth → trees.Width × Bool
fixed_of f = (width_of f.width, f.is_fixed)

-- one layer of a data type, where the data type of the elements is already its tree
abbrev pub data_type_step : DataType-F trees.DataType → trees.DataType
data_type_step layer.Integer = trees.integer
data_type_step layer.Number = trees.number
data_type_step layer.Boolean = trees.boolean
data_type_step layer.Logical = trees.logical
data_type_step (layer.Real w) = trees.real (if_some (λ b. width_of b.value) w)
data_type_step (layer.String w) = trees.string (if_some (λ b. fixed_of b.value) w)
data_type_step (layer.Binary w) = trees.binary (if_some (λ b. fixed_of b.value) w)
data_type_step (layer.Named w) = trees.named (capitals w)
data_type_step (layer.Array o u b k) = trees.array (bounds_of b.value) o u k.value
data_type_step (layer.List u b k) = trees.list (if_some bounds_of b.value) u k.value
data_type_step (layer.Bag b k) = trees.bag (if_some bounds_of b.value) k.value
data_type_step (layer.Set b k) = trees.set (if_some bounds_of b.value) k.value

abbrev pub data_type_of : DataType → trees.DataType
data_type_of = fold-DataType trees.DataType data_type_step

abbrev pub underlying_of : Underlying → trees.Underlying
underlying_of (underlyings.Enumeration names) = trees.enumeration (names_of names.items)
underlying_of (underlyings.Select names) = trees.select (names_of names.items)
underlying_of (underlyings.DataType k) = trees.data_type (data_type_of k)

abbrev pub rules_of : List Rule → List trees.Rule
rules_of rs = map rule_of rs

abbrev pub type_of : TypeDeclaration → trees.TypeDeclaration
type_of t = record {
  name = capitals t.name;
  underlying = underlying_of t.underlying;
  rules = if_some (λ rs. rules_of rs.items) t.rules;
}

abbrev pub supertype_of : Supertype → trees.Supertype
supertype_of supertypes.Unsaid = trees.unsaid
supertype_of supertypes.Bare = trees.bare
supertype_of (supertypes.OfOne w) = trees.of_one (capitals w)
supertype_of (supertypes.OfOneOf names) = trees.of_one_of (names_of names.items)
supertype_of (supertypes.OfOther r) = trees.of_other (run_of r)

abbrev pub attribute_of : Attribute → trees.Attribute
attribute_of (attributes.Unqualified w) = trees.own (capitals w)
attribute_of (attributes.Redeclared e w) = trees.redeclared (capitals e) (capitals w)

abbrev pub attributes_of : AttributeList → List trees.Attribute
attributes_of (lists.One a) = attribute_of a ∷ []
attributes_of (lists.Several xs) = map attribute_of xs.items

abbrev pub explicit_of : Explicit → trees.Explicit
explicit_of a = record {
  attributes = attributes_of a.attributes;
  optional = a.is_optional;
  data_type = data_type_of a.data_type;
}

abbrev pub derived_of : Derived → trees.Derived
derived_of a = record {
  attribute = attribute_of a.attribute;
  data_type = data_type_of a.data_type;
  body = body_of a.body;
}

abbrev pub collection_of : Collection → trees.Collection
collection_of collections.One = trees.alone
collection_of (collections.Set b) = trees.in_set (if_some bounds_of b)
collection_of (collections.Bag b) = trees.in_bag (if_some bounds_of b)

abbrev pub inverse_of : Inverse → trees.Inverse
inverse_of a = record {
  attribute = attribute_of a.attribute;
  collection = collection_of a.collection;
  entity = capitals a.entity;
  holder = if_some capitals a.holder;
  inverted = capitals a.inverted;
}

abbrev pub unique_of : Unique → trees.Unique
unique_of u = record { label = if_some capitals u.label; attributes = map attribute_of u.attributes.items }

abbrev pub entity_of : Entity → trees.Entity
entity_of e = record {
  name = capitals e.name;
  is_abstract = e.is_abstract;
  supertype = supertype_of e.supertype;
  subtype_of = if_some (λ names. names_of names.items) e.subtype_of;
  explicits = map explicit_of e.explicits.items;
  derived = if_some (λ list. map derived_of list.items) e.derived;
  inverses = if_some (λ list. map inverse_of list.items) e.inverses;
  uniques = if_some (λ us. map unique_of us.items) e.uniques;
  rules = if_some (λ rs. rules_of rs.items) e.rules;
}

abbrev pub skipped_of : Skipped → trees.Skipped
skipped_of (skips.Function w r) = trees.function (capitals w) (routine_of r)
skipped_of (skips.Procedure w r) = trees.procedure (capitals w) (routine_of r)
skipped_of (skips.Rule w p) = trees.rule (capitals w) (words_of_passage p)
skipped_of (skips.Constants p) = trees.constants (words_of_passage p)
skipped_of (skips.SubtypeConstraint w p) = trees.subtype_constraint (capitals w) (words_of_passage p)

abbrev pub declaration_of : Declaration → trees.Declaration
declaration_of (declarations.Type t) = trees.type (type_of t)
declaration_of (declarations.Entity e) = trees.entity (entity_of e)
declaration_of (declarations.Skipped s) = trees.skipped (skipped_of s)

-- the string, by its spelling
abbrev pub version_of : Version → words.Word
version_of (versions.String s) = words.string s.text.now
version_of (versions.Encoded s) = words.encoded s.text.now

-- the schema of a name, a version and declarations
abbrev pub schema_from : Word → Option Version → List Declaration → trees.Schema
schema_from name version declarations = record {
  name = capitals name;
  version = if_some version_of version;
  declarations = map declaration_of declarations;
}
