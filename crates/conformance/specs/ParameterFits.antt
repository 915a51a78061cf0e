-- Whether a parameter of a record fits a data type, and which value it has (ISO 10303-21, 11;
-- ISO 10303-11, 8).
use Rattle.std.specs.Prelude.{ℕ, suc, ◌==◌, ◌&&◌, ◌||◌, not, ℤ, pos, ◌+ℤ◌, ◌-ℤ◌, int_lt, Bool, true, false, cond, List, length, map, Option, Some, None, codes, bytes_eq}
use Rattle.std.specs.List.{list_any}
use Rattle.std.specs.Ordering.{int_eq}
use Rattle.step_literals.specs.Bits.{bits_of}
use Rattle.step_literals.specs.Decimals.{units}
use Rattle.step_literals.specs.Tokens.{is_e}
use Rattle.step_literals.specs.Items.{string_items}
use Rattle.step_literals.specs.Words.{upper}
use Rattle.step_lexer.specs.declared.token.Mark.TheVariants.{Dollar, Asterisk}
use Rattle.step_structures.specs.Words as words
use Rattle.step_structures.specs.Words.{Word}
use Rattle.step_structures.specs.Trees as trees
use Rattle.step_structures.specs.Trees.{Tree, Trees}
use Rattle.step_values.specs.Leaves as leaves
use Rattle.step_values.specs.Values as values
use Rattle.step_values.specs.Values.{Value, leaf, reference, typed, sequence, Values, none, more}
use Rattle.step_values.specs.AgreementTests.{same_test}
use Rattle.express_syntax.specs.Schemas.{Schema, Entity, named}
use Rattle.schema_semantics.specs.Names.{Name, entities}
use Rattle.conformance.specs.declared.finding.FindingKind.{FindingKind}
use Rattle.conformance.specs.declared.finding.FindingKind.TheVariants.{WrongKind, MissingValue, MisplacedStar, DanglingReference, WrongEntity, UnknownElement, OutOfBounds, TooWide, NotDistinct, NoSelectItem}
use Rattle.conformance.specs.Bases.{AggregateKind, array, bag, set, Limit, Aggregate, Base, integer, number, boolean, logical, string, binary, enumeration, entity, select, aggregate, Domain, base}

-- The names of a schema's entities, in the order of the text.
abbrev pub entity_names : Schema → List Name
entity_names s = map (λ (e : Entity). e.name) (entities s)

abbrev pub is_listed : Name → List Name → Bool
is_listed n ns = list_any (bytes_eq n) ns

abbrev pub is_entity : Schema → Name → Bool
is_entity s n = is_listed n (entity_names s)

-- What a reference refers to: no instance; an instance with a keyword that isn't an entity; or an
-- instance that has these types.
pub data Target : Type 0 where
  absent : Target
  unknown : Target
  of_types : List Name → Target

-- The first finding, if any, otherwise the second.
abbrev pub first_finding : Option FindingKind → Option FindingKind → Option FindingKind
first_finding None b = b
first_finding (Some f) b = Some f

-- The finding `f`, if the test fails.
abbrev pub needs : Bool → FindingKind → Option FindingKind
needs b f = cond b None (Some f)

-- The number is spelled as an integer: without a decimal point and without an exponent
-- (ISO 10303-21, 6.4.1).
abbrev pub is_integer : List ℕ → Bool
is_integer text = not (list_any (λ b. b == 46 || is_e b) text)

-- `n` characters or bits satisfy the width: `n` is the width if it is FIXED, otherwise at most the
-- width.
abbrev pub has_width : Limit → ℕ → Bool
has_width w n = cond w.fixed (int_eq (pos n) w.most) (not (int_lt w.most (pos n)))

abbrev pub misfit_width : Option Limit → ℕ → Option FindingKind
misfit_width None n = None
misfit_width (Some w) n = needs (has_width w n) TooWide

-- BOOLEAN takes `.T.` and `.F.`, LOGICAL also `.U.` (ISO 10303-21, 11.1)
abbrev pub is_truth : Bool → Name → Bool
is_truth with_unknown word =
    bytes_eq word (codes "T") || (bytes_eq word (codes "F") || (with_unknown && bytes_eq word (codes "U")))

-- `n` is at least the lower bound, if any.
abbrev pub is_least : Option ℤ → ℕ → Bool
is_least None n = true
is_least (Some l) n = not (int_lt (pos n) l)

-- `n` is at most the upper bound, if any.
abbrev pub is_most : Option ℤ → ℕ → Bool
is_most None n = true
is_most (Some u) n = not (int_lt u (pos n))

-- An ARRAY has as many elements as indices. If one of its bounds isn't known, any number is
-- allowed.
abbrev pub fills : Option ℤ → Option ℤ → ℕ → Bool
fills (Some l) (Some u) n = int_eq (pos n) (u -ℤ l +ℤ pos 1)
fills l u n = true

abbrev pub is_array : AggregateKind → Bool
is_array array = true
is_array c = false

-- The elements of a BAG or SET have no order.
abbrev pub has_no_order : AggregateKind → Bool
has_no_order bag = true
has_no_order set = true
has_no_order c = false

-- `n` elements satisfy the bounds (ISO 10303-11, 8.2).
abbrev pub in_bounds : Aggregate → ℕ → Bool
in_bounds a n = cond (is_array a.collection) (fills a.lower a.upper n) (is_least a.lower n && is_most a.upper n)

abbrev pub is_dollar : Tree → Bool
is_dollar (trees.leaf (words.mark Dollar)) = true
is_dollar x = false

abbrev pub is_star_or_dollar : Tree → Bool
is_star_or_dollar (trees.leaf (words.mark Dollar)) = true
is_star_or_dollar (trees.leaf (words.mark Asterisk)) = true
is_star_or_dollar x = false

abbrev pub count : Trees → ℕ
count trees.none = 0
count (trees.one x xs) = suc (count xs)

-- `v` agrees with none of the values. References agree if they name the same instance: `same_test`
-- passes exactly if two values agree (`tests_decide_agreement` of `step_values`).
abbrev pub differs_from : Value → Values → Bool
differs_from v none = true
differs_from v (more w ws) = not (same_test v w) && differs_from v ws

abbrev pub is_set : Value → Bool
is_set (leaf leaves.unset) = false
is_set v = true

abbrev pub set_ones : Values → Values
set_ones none = none
set_ones (more v vs) = cond (is_set v) (more v (set_ones vs)) (set_ones vs)

abbrev pub all_differ : Values → Bool
all_differ none = true
all_differ (more v vs) = differs_from v vs && all_differ vs

-- No two of the values that are set agree. Unset values are passed over.
abbrev pub are_distinct : Values → Bool
are_distinct vs = all_differ (set_ones vs)

-- the value of one token
abbrev pub word_value : Word → Value
word_value (words.mark Asterisk) = leaf leaves.derived
word_value (words.number t) = leaf (leaves.number (units t))
word_value (words.string t) = leaf (leaves.text (string_items t))
word_value (words.binary t) = leaf (leaves.bits (bits_of t))
word_value (words.element t) = leaf (leaves.element (upper t))
word_value (words.name y t) = reference y
word_value w = leaf leaves.unset

-- The value with these elements: without order for a SET or BAG, otherwise in order.
abbrev pub gathered : Base → Values → Value
gathered (aggregate a) vs = cond (has_no_order a.collection) (values.bag vs) (sequence vs)
gathered b vs = sequence vs

-- The finding for a value of a kind that the data type doesn't allow.
abbrev pub other_kind : Base → FindingKind
other_kind (select m) = NoSelectItem
other_kind b = WrongKind

abbrev pub misfit_number : Base → List ℕ → Option FindingKind
misfit_number integer t = needs (is_integer t) WrongKind
misfit_number number t = None
misfit_number b t = Some (other_kind b)

abbrev pub misfit_string : Base → List ℕ → Option FindingKind
misfit_string (string w) t = misfit_width w (length (string_items t))
misfit_string b t = Some (other_kind b)

abbrev pub misfit_binary : Base → List ℕ → Option FindingKind
misfit_binary (binary w) t = misfit_width w (length (bits_of t))
misfit_binary b t = Some (other_kind b)

abbrev pub misfit_element : Base → Name → Option FindingKind
misfit_element boolean n = needs (is_truth false n) UnknownElement
misfit_element logical n = needs (is_truth true n) UnknownElement
misfit_element (enumeration items) n = needs (is_listed n items) UnknownElement
misfit_element b n = Some (other_kind b)

-- The finding of a reference, if any. The instance has to have a type that `takes` allows,
-- otherwise the finding is `f`. An instance with a keyword that isn't an entity isn't judged.
abbrev pub misfit_target : (Name → Bool) → FindingKind → Target → Option FindingKind
misfit_target takes f absent = Some DanglingReference
misfit_target takes f unknown = None
misfit_target takes f (of_types types) = needs (list_any takes types) f

module _ (s : Schema) (d : Domain) where
  abbrev pub misfit_reference : Base → Target → Option FindingKind
  misfit_reference (entity e) t = misfit_target (bytes_eq e) WrongEntity t
  misfit_reference (select m) t = misfit_target (d.is_item m) NoSelectItem t
  misfit_reference b t = Some WrongKind

  -- The data type of the value inside a typed parameter, if any: the defined type that its keyword
  -- names. A typed parameter is allowed only for a SELECT, and its keyword has to be an item of
  -- that SELECT (ISO 10303-21, 11.1).
  abbrev pub inner : Base → Name → Option Base
  inner (select m) n = cond (d.is_item m n && not (is_entity s n)) (Some (base d (named n))) None
  inner b n = None

  abbrev pub base_or_this : Base → Option Base → Base
  base_or_this b None = b
  base_or_this b (Some c) = c

  abbrev pub element : Base → Base
  element (aggregate a) = base d a.element
  element b = b

  -- The value of a parameter, taken as one of this data type.
  abbrev mutual
    pub value_as : Base → Tree → Value
    value_as b (trees.leaf w) = word_value w
    value_as b (trees.typed word x) = typed (upper word) (value_as (base_or_this b (inner b (upper word))) x)
    value_as b (trees.group xs) = gathered b (values_as (element b) xs)

    pub values_as : Base → Trees → Values
    values_as b trees.none = none
    values_as b (trees.one x xs) = more (value_as b x) (values_as b xs)

  module _ (target : ℕ → Target) where
    -- The finding of a parameter that is one token, if any.
    abbrev pub misfit_word : Base → Word → Option FindingKind
    misfit_word b (words.mark Asterisk) = Some MisplacedStar
    misfit_word b (words.mark Dollar) = Some MissingValue
    misfit_word b (words.number t) = misfit_number b t
    misfit_word b (words.string t) = misfit_string b t
    misfit_word b (words.binary t) = misfit_binary b t
    misfit_word b (words.element t) = misfit_element b (upper t)
    misfit_word b (words.name y t) = misfit_reference b (target y)
    misfit_word b w = Some (other_kind b)

    abbrev pub misfit_inner : FindingKind → Option Base → (Base → Option FindingKind) → Option FindingKind
    misfit_inner f None of = Some f
    misfit_inner f (Some c) of = of c

    -- The finding of a list of parameters, if any: that of the number of elements, otherwise that
    -- of the first element that has one, otherwise that of equal elements.
    abbrev pub misfit_group : Base → ℕ → (Aggregate → Option FindingKind) → (Aggregate → Bool) → Option FindingKind
    misfit_group (aggregate a) n each distinct =
        first_finding (needs (in_bounds a n) OutOfBounds) (first_finding (each a) (needs (not a.unique || distinct a) NotDistinct))
    misfit_group b n each distinct = Some (other_kind b)

    -- The finding of a parameter that has to fit a data type, if any. That of the parameter as a
    -- whole comes before those of its elements, except that elements are compared last.
    abbrev mutual
      pub misfit : Base → Tree → Option FindingKind
      misfit b (trees.leaf w) = misfit_word b w
      misfit b (trees.typed word x) = misfit_inner (other_kind b) (inner b (upper word)) (λ c. misfit c x)
      misfit b (trees.group xs) = misfit_group b (count xs) (λ a. misfit_each a.optional (base d a.element) xs)
          (λ a. are_distinct (values_as (base d a.element) xs))

      -- The finding of the first element that has one. `$` is allowed as an element only in an
      -- ARRAY OF OPTIONAL.
      pub misfit_each : Bool → Base → Trees → Option FindingKind
      misfit_each optional b trees.none = None
      misfit_each optional b (trees.one x xs) =
          first_finding (cond (optional && is_dollar x) None (misfit b x)) (misfit_each optional b xs)
