-- The tests at the parts of an expression (ISO 10303-11, 12.2 and 15.25).
use Rattle.std.specs.Prelude.{ℕ, ◌⊎◌, Bool, true, false, not, ◌&&◌, ◌||◌, Option, None, Some, slice_get, nat_eq, nat_lt}
use Rattle.express_syntax.specs.declared.expression.Function.{Function}
use Rattle.express_syntax.specs.declared.expression.Function.TheVariants as functions
use Rattle.express_syntax.specs.declared.expression.Relation.{Relation}
use Rattle.express_syntax.specs.declared.expression.Relation.TheVariants as relations
use Rattle.express_syntax.specs.Trees.{Tree, call, parenthesized}
use Rattle.express_syntax.specs.Schemas.{Schema, Declaration, named}
use Rattle.schema_semantics.specs.Names.{Name, IsEntity, IsType, declared_name}
use Rattle.schema_semantics.specs.Shapes.{IsOverSelect}
use Rattle.schema_semantics.specs.Reasons.{HasBareValue, MayBeUnordered, ElementsOf}
use Rattle.schema_semantics.specs.Sets.{Set, May}
use Rattle.schema_attribute_references.specs.steps.Taking.{IsKnown, schema_in}
use Rattle.schema_data_types.specs.Items.{AreItems}
use Rattle.schema_data_types.specs.steps.Values.{Holds}
use Rattle.schema_data_types.specs.declared.values.Sort.{Sort}
use Rattle.schema_data_types.specs.declared.values.Sort.TheVariants as sorts
use Rattle.schema_data_types.specs.declared.values.Atom.{Atom}
use Rattle.schema_data_types.specs.declared.values.Atom.TheVariants as atoms
use Rattle.schema_names.specs.Numbers.{number_of}
use Rattle.schema_expression_types.specs.declared.scope.Scope.{Scope}
use Rattle.schema_expression_types.specs.steps.Scopes.{own_in, variables_in}
use Rattle.schema_expression_analysis.specs.declared.survey.Survey.{Survey}
use Rattle.schema_expression_analysis.specs.declared.context.Context.{Context}

-- The argument of TYPEOF, in parentheses or not.
abbrev pub tested : Tree → Option Tree
tested (call functions.Typeof y) = Some y
tested (parenthesized y) = tested y
tested y = None

abbrev pub is_typeof : Function → Bool
is_typeof functions.Typeof = true
is_typeof f = false

abbrev pub is_in : Relation → Bool
is_in relations.In = true
is_in r = false

-- Adds an aggregate initializer, which may be on the right of IN or not.
abbrev pub with_aggregate : Bool → Survey → Survey
with_aggregate w t = record t { has_loose_aggregate = t.has_loose_aggregate || not w }

-- Adds a function call, which may be on the right of IN or not.
abbrev pub with_call : Bool → Function → Survey → Survey
with_call w f t = record t { has_bad_typeof = t.has_bad_typeof || (not w && is_typeof f) }

-- The set of SELF in a context.
abbrev pub own_of_context : Context → Set
own_of_context c = Holds (schema_in c.known) c.own.now

-- The tables of a context are those of the schema.
pub record IsContext (c : Context) : Type 0 where
  pub known : IsKnown c.known
  pub items : AreItems (schema_in c.known) c.items.now

-- Whether i is the number of a type or an entity.
abbrev pub is_number : ℕ → Option ℕ → Bool
is_number i None = false
is_number i (Some j) = nat_eq j i

abbrev pub is_name_at : Schema → ℕ → Option Name → Bool
is_name_at s i None = false
is_name_at s i (Some n) = is_number i (number_of s n)

abbrev pub is_declared_at : Schema → ℕ → Option Declaration → Bool
is_declared_at s i None = false
is_declared_at s i (Some d) = is_name_at s i (declared_name d)

abbrev pub is_numbered : Schema → ℕ → Bool
is_numbered s i = is_declared_at s i (slice_get s.declarations i)

-- Whether the atom is an instance, or an aggregate of one of the first m data types.
abbrev pub is_deep_atom : Schema → ℕ → Atom → Bool
is_deep_atom s m (atoms.Value t w) = false
is_deep_atom s m (atoms.Aggregate n w) = nat_lt n m
is_deep_atom s m (atoms.Instance i) = is_numbered s i

-- Whether the atom is a value that isn't of a SELECT.
abbrev pub is_bare_atom : ℕ → Atom → Bool
is_bare_atom m (atoms.Value t w) = not w
is_bare_atom m (atoms.Aggregate n w) = not w && nat_lt n m
is_bare_atom m (atoms.Instance i) = false

-- Whether the sort is that of strings, of binaries or of enumeration items.
abbrev pub is_unordered_sort : Sort → Bool
is_unordered_sort sorts.String = true
is_unordered_sort sorts.Binary = true
is_unordered_sort sorts.Item = true
is_unordered_sort t = false

abbrev pub is_unordered_atom : Atom → Bool
is_unordered_atom (atoms.Value t w) = is_unordered_sort t
is_unordered_atom (atoms.Aggregate n w) = false
is_unordered_atom (atoms.Instance i) = false

-- It can be decided if a value of the set is of the type or entity n (ISO 10303-11, 15.25).
abbrev pub TestsType : Schema → Name → Set → Type 0
TestsType s n M =
    IsEntity s n ⊎ (IsType s n × (IsOverSelect s (named n) → ⊥) × (HasBareValue M → ⊥))

abbrev pub EitherUnordered : Set → Set → Type 0
EitherUnordered M N = MayBeUnordered M ⊎ MayBeUnordered N

-- The possible values of a tree in a scope, and of its elements on the right of IN.
abbrev pub may_in : Scope → Tree → Set
may_in t x = May (schema_in t.known) (own_in t) (variables_in t) x

abbrev pub elements_in : Scope → Tree → Set
elements_in t x = ElementsOf (schema_in t.known) (own_in t) (variables_in t) x
