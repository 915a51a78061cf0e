-- The meanings of the names that begin references (ISO 10303-11, 12.7).
use Rattle.std.specs.Prelude.{List}
use Rattle.express_syntax.specs.Trees.{Qualifiers, attribute, named}
use Rattle.express_syntax.specs.Schemas.{Schema}
use Rattle.schema_semantics.specs.Names.{Name}
use Rattle.schema_semantics.specs.Sets.{Set, QueryVariable, IsVariable, OfVariable, IsItemOf, MayMean, Means, variable, attribute_of_self, item_of_type, item, of_set, WithSubtypes}
use Rattle.schema_semantics.specs.Sets as sets
use Rattle.schema_attribute_references.specs.steps.Taking.{IsSet, IsTaken}
use Rattle.schema_expression_types.specs.declared.scope.Variable.{Variable as Numbered}
use Rattle.schema_expression_types.specs.declared.meanings.Meaning.{Meaning}
use Rattle.schema_expression_types.specs.declared.meanings.Meaning.TheVariants as meanings

-- v has the possible values of the innermost variable n.
abbrev pub IsFound : Schema → List QueryVariable → Name → Numbered → Type 0
IsFound s vs n v = IsVariable vs n × IsSet s (OfVariable vs n) v.may.items

-- The qualifiers begin with an item of the type t.
abbrev pub BeginWithItem : Schema → Name → Qualifiers → Type 0
BeginWithItem s t (attribute i qs) = IsItemOf s t i
BeginWithItem s t qs = ⊥

-- The meaning of the name n before the qualifiers.
abbrev pub IsMeaning : Schema → Set → List QueryVariable → Name → Qualifiers → Meaning → Type 0
IsMeaning s self vs n qs (meanings.Variable may) =
    Means s self vs (named n) qs variable × IsSet s (OfVariable vs n) may.items
IsMeaning s self vs n qs (meanings.Attribute t) =
    Means s self vs (named n) qs attribute_of_self × IsTaken s (of_set (WithSubtypes s self) n) t
IsMeaning s self vs n qs meanings.ItemOfType = Means s self vs (named n) qs item_of_type
IsMeaning s self vs n qs meanings.Item = Means s self vs (named n) qs item
IsMeaning s self vs n qs meanings.Nothing = (m : sets.Meaning) → MayMean s self vs (named n) qs m → ⊥
