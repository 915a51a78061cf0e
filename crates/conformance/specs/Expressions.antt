-- The value of an expression, by recursion on its tree, over what it may look up in a population
-- and a schema (ISO 10303-11, 12).
use Rattle.std.specs.Prelude.{ℕ, neg_ℤ, Bool, List, [], ◌∷◌, Option, Some, None, bytes_eq, if◌then◌else◌}
use Rattle.step_literals.specs.Decimals.{units}
use Rattle.step_literals.specs.declared.literal.items.Item.{Item}
use Rattle.express_syntax.specs.declared.expression.Logical.{Logical}
use Rattle.express_syntax.specs.declared.expression.Logical.TheVariants.{False, Unknown}
use Rattle.express_syntax.specs.declared.expression.Sign.{Sign}
use Rattle.express_syntax.specs.declared.expression.Sign.TheVariants as signs
use Rattle.express_syntax.specs.declared.expression.Relation.TheVariants as relations
use Rattle.express_syntax.specs.declared.expression.Function.{Function}
use Rattle.express_syntax.specs.declared.expression.Function.TheVariants as functions
use Rattle.express_syntax.specs.declared.expression.Junction.{Junction}
use Rattle.express_syntax.specs.declared.expression.Junction.TheVariants as junctions
use Rattle.express_syntax.specs.Trees.{Tree, literal, signed, reference, parenthesized, aggregate, interval, query, call, nvl, negation, conjunction, disjunction, comparison, Trees, none, one, Alternatives, finish, another, Qualifiers, plain, attribute, group, index, Number, whole, decimal, Literal, number, text, codes_of_text, bits, constant, indeterminate, own, named}
use Rattle.schema_semantics.specs.Names.{Name}
use Rattle.express_logic.specs.Logic.{negated, both, either, exclusive, known}
use Rattle.express_logic.specs.Literals.{simple_characters, encoded_characters, binary_bits}
use Rattle.express_logic.specs.Data.{Datum, is_known}
use Rattle.express_logic.specs.Data as data_of
use Rattle.express_logic.specs.Comparison.{equal, member}
use Rattle.conformance.specs.Operations.{bare, says, size, high_index, low_index, or_else, indexed, queried, compared, limited}

-- What an expression may look up, as functions.
pub record Setting : Type 0 where
  -- The value of an instance's attribute with this name; `None` if the instance has no such
  -- attribute.
  pub attribute : ℕ → Name → Option Datum
  -- The value of an instance's attribute that `\entity.attribute` means.
  pub attribute_of : ℕ → Name → Name → Datum
  -- the string names a type of the instance, as TYPEOF gives it
  pub has_type : ℕ → List Item → Bool
  -- The string names this defined type or one by which it is defined, as TYPEOF gives it.
  pub is_defined_by : Name → List Item → Bool
  -- The name is an item of an enumeration.
  pub is_item : Name → Bool
  -- The second name is an item of the enumeration for which the first name stands.
  pub is_item_of : Name → Name → Bool

abbrev pub spelling : Number → List ℕ
spelling (whole t) = t
spelling (decimal t) = t

-- The value of a literal (7.5).
abbrev pub of_literal : Literal → Datum
of_literal (number n) = data_of.number (units (spelling n))
of_literal (text t) = data_of.text (simple_characters t)
of_literal (codes_of_text t) = data_of.text (encoded_characters t)
of_literal (bits t) = data_of.bits (binary_bits t)
of_literal (constant p) = data_of.logical p
of_literal indeterminate = data_of.indeterminate

abbrev pub of_signed : Sign → Number → Datum
of_signed signs.Plus n = data_of.number (units (spelling n))
of_signed signs.Minus n = data_of.number (neg_ℤ (units (spelling n)))

-- The value of a built-in function (15). TYPEOF has a value only as the right operand of IN, so it
-- is indeterminate here.
abbrev pub of_call : Function → Datum → Datum
of_call functions.Exists d = data_of.logical (known (is_known d))
of_call functions.Sizeof d = size (bare d)
of_call functions.Hiindex d = high_index (bare d)
of_call functions.Loindex d = low_index (bare d)
of_call functions.Typeof d = data_of.indeterminate

abbrev pub of_junction : Junction → Logical → Logical → Logical
of_junction junctions.Or p q = either p q
of_junction junctions.Xor p q = exclusive p q

-- The characters of a string literal, in parentheses or not; `None` for other expressions.
abbrev pub string_of : Tree → Option (List Item)
string_of (literal (text t)) = Some (simple_characters t)
string_of (literal (codes_of_text t)) = Some (encoded_characters t)
string_of (parenthesized x) = string_of x
string_of x = None

-- The value of `string IN TYPEOF(d)` (15.25). It is UNKNOWN if the left operand isn't a string
-- literal.
abbrev pub is_of_type : Setting → Option (List Item) → Datum → Logical
is_of_type S None d = Unknown
is_of_type S (Some n) (data_of.instance x) = known (S.has_type x n)
is_of_type S (Some n) (data_of.typed t d) = known (S.is_defined_by t n)
is_of_type S (Some n) d = False

-- The value of the attribute `a` of `d`; `None` if `d` isn't an instance that has this attribute.
abbrev pub instance_attribute : Setting → Datum → Name → Option Datum
instance_attribute S (data_of.instance x) a = S.attribute x a
instance_attribute S d a = None

-- The value of the attribute `a` of `d`, which may be an instance in a value of a defined type.
abbrev pub attribute_of : Setting → Datum → Name → Option Datum
attribute_of S d a = instance_attribute S (bare d) a

-- The value, if any, otherwise `e`.
abbrev pub or_this : Option Datum → Datum → Datum
or_this None e = e
or_this (Some d) e = d

-- The value of `d.attribute` (12.7.3); indeterminate if `d` isn't an instance that has this
-- attribute.
abbrev pub with_attribute : Setting → Datum → Name → Datum
with_attribute S d a = or_this (attribute_of S d a) data_of.indeterminate

abbrev pub instance_group : Setting → Datum → Name → Name → Datum
instance_group S (data_of.instance x) e a = S.attribute_of x e a
instance_group S d e a = data_of.indeterminate

-- The value of `d\entity.attribute` (12.7.4); indeterminate if `d` isn't an instance.
abbrev pub with_group : Setting → Datum → Name → Name → Datum
with_group S d e a = instance_group S (bare d) e a

-- A variable of a QUERY, with its value. A list of variables begins with the innermost one.
pub record Variable : Type 0 where
  pub name : Name
  pub value : Datum

abbrev pub variable : List Variable → Name → Option Datum
variable [] n = None
variable (v ∷ vs) n = if bytes_eq n v.name then Some v.value else variable vs n

-- The first value, if any, otherwise the second.
abbrev pub first_of_two : Option Datum → Option Datum → Option Datum
first_of_two None p = p
first_of_two (Some d) p = Some d

-- The value of a name: that of the variable, otherwise that of the attribute of SELF, if any.
abbrev pub named_value : Setting → List Variable → Datum → Name → Option Datum
named_value S vs me n = first_of_two (variable vs n) (attribute_of S me n)

-- `f` of the value, if any, otherwise `e`.
abbrev pub with_value : Option Datum → Datum → (Datum → Datum) → Datum
with_value None e f = e
with_value (Some d) e f = f d

-- The value of a name that is neither a variable nor an attribute: an item of an enumeration,
-- otherwise indeterminate.
abbrev pub item_value : Setting → Name → Datum
item_value S n = if S.is_item n then data_of.element n else data_of.indeterminate

abbrev pub bound : Name → Datum → List Variable → List Variable
bound n d vs = record { name = n; value = d } ∷ vs

-- The value of an expression (12). `vs` are the variables of the QUERYs around the expression, and
-- `me` is the value of SELF.
abbrev mutual
  pub means : Setting → List Variable → Datum → Tree → Datum
  means S vs me (literal l) = of_literal l
  means S vs me (signed s n) = of_signed s n
  means S vs me (reference own qs) = selected S vs me qs me
  means S vs me (reference (named n) qs) =
      with_value (named_value S vs me n) (item_behind S vs me n qs) (λ d. selected S vs me qs d)
  means S vs me (parenthesized x) = means S vs me x
  means S vs me (aggregate xs) = data_of.indeterminate
  means S vs me (interval low above x below high) =
      data_of.logical (both (limited above (means S vs me low) (means S vs me x))
      (limited below (means S vs me x) (means S vs me high)))
  means S vs me (query n source condition) =
      queried (λ d. means S (bound n d vs) me condition) (bare (means S vs me source))
  means S vs me (call f x) = of_call f (means S vs me x)
  means S vs me (nvl x y) = or_else (means S vs me x) (means S vs me y)
  means S vs me (negation x) = data_of.logical (negated (says (means S vs me x)))
  means S vs me (conjunction x xs) = data_of.logical (and_all S vs me (says (means S vs me x)) xs)
  means S vs me (disjunction x xs) = data_of.logical (or_all S vs me (says (means S vs me x)) xs)
  means S vs me (comparison x relations.In y) =
      data_of.logical (is_in S vs me (string_of x) (means S vs me x) (means S vs me y) y)
  means S vs me (comparison x r y) = data_of.logical (compared r (means S vs me x) (means S vs me y))

  -- The value that qualifiers select from `d`.
  pub selected : Setting → List Variable → Datum → Qualifiers → Datum → Datum
  selected S vs me plain d = d
  selected S vs me (attribute a qs) d = selected S vs me qs (with_attribute S d a)
  selected S vs me (group e a qs) d = selected S vs me qs (with_group S d e a)
  selected S vs me (index x qs) d = selected S vs me qs (indexed (bare d) (bare (means S vs me x)))

  -- The value of a name that is neither a variable nor an attribute, with its qualifiers: the item
  -- in `type.item`, otherwise the name itself as an item.
  pub item_behind : Setting → List Variable → Datum → Name → Qualifiers → Datum
  item_behind S vs me n plain = item_value S n
  item_behind S vs me n (attribute a qs) =
      if S.is_item_of n a then selected S vs me qs (data_of.element a) else data_of.indeterminate
  item_behind S vs me n qs = data_of.indeterminate

  -- The value of a conjunction with AND, from left to right (12.4).
  pub and_all : Setting → List Variable → Datum → Logical → Trees → Logical
  and_all S vs me p none = p
  and_all S vs me p (one x xs) = and_all S vs me (both p (says (means S vs me x))) xs

  -- The value of a disjunction with OR and XOR, from left to right (12.4).
  pub or_all : Setting → List Variable → Datum → Logical → Alternatives → Logical
  or_all S vs me p finish = p
  or_all S vs me p (another j x xs) = or_all S vs me (of_junction j p (says (means S vs me x))) xs

  -- The value of `x IN y` (12.2.3). `s` holds the characters of `x` if it is a string literal, `d`
  -- is the value of `x`, and `e` is the value of `y` as a whole.
  pub is_in : Setting → List Variable → Datum → Option (List Item) → Datum → Datum → Tree → Logical
  is_in S vs me s d e (parenthesized y) = is_in S vs me s d e y
  is_in S vs me s d e (aggregate ys) = if is_known d then among_each S vs me d ys else Unknown
  is_in S vs me s d e (call functions.Typeof x) = is_of_type S s (means S vs me x)
  is_in S vs me s d e y = member d (bare e)

  -- The OR of the comparisons of `d` with each element.
  pub among_each : Setting → List Variable → Datum → Datum → Trees → Logical
  among_each S vs me d none = False
  among_each S vs me d (one y ys) = either (equal d (means S vs me y)) (among_each S vs me d ys)
