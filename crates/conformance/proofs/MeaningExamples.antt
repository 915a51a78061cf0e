-- Worked answers of the definitions.
use Rattle.std.specs.Prelude.{◌≡◌, ℕ, zero, suc, cond, bytes_eq, ℤ, pos, ◌*ℤ◌, ◌+ℤ◌, true, false, List, [], ◌∷◌, Option, Some, None, codes, int_lt, if◌then◌else◌}
use Rattle.std.specs.Ordering.{int_eq, is_eq}
use Rattle.std.specs.Cmp.{signed_Decides}
use Rattle.std.proofs.Common.{refl, ap, ap₂, sym, ◌∙◌, zero-mul, Greater}
use Rattle.step_literals.specs.Decimals.{units, mantissa, exponent, ten_to, finest}
use Rattle.step_literals.specs.declared.literal.items.Item.TheVariants.{Code}
use Rattle.step_values.specs.Leaves as leaves
use Rattle.step_values.specs.Values as values
use Rattle.step_values.specs.Values.{Value, leaf, reference}
use Rattle.express_syntax.specs.declared.expression.Logical.TheVariants.{False, Unknown, True}
use Rattle.express_syntax.specs.declared.expression.Relation.TheVariants as relations
use Rattle.express_syntax.specs.declared.expression.Function.TheVariants as functions
use Rattle.express_syntax.specs.Trees as trees
use Rattle.express_syntax.specs.Trees.{Tree}
use Rattle.express_syntax.specs.Schemas as schemas
use Rattle.schema_semantics.specs.Names.{Name}
use Rattle.schema_semantics.specs.Attributes.{Derivation}
use Rattle.schema_semantics.proofs.Geo.{geo, name_tree, POINT, DIRECTION, PLACEMENT, SHAPE, SOLID, MARKED, PLAIN_MARK, FINISH, LEN_M, ANGLE_M, AMOUNT, LABEL, VOLUME, LOOK, AXIS, RATIOS, some_ratio, as_many}
use Rattle.conformance.specs.Bases.{base}
use Rattle.conformance.specs.Populations.{Instance}
use Rattle.conformance.specs.RuleFindings.{Breach}
use Rattle.conformance.proofs.RuleSamples.{geo_entities, instance, slot, letter, a_note}
use Rattle.express_logic.specs.Logic.{known, negated, both}
use Rattle.express_logic.specs.Literals.{whole_units}
use Rattle.express_logic.specs.Data as data_of
use Rattle.express_logic.specs.Data.{Datum, Data, list, bag, array, indeterminate, number, logical, aggregate, none, more}
use Rattle.express_logic.specs.Comparison.{equal}
use Rattle.express_logic.proofs.Ordered.{counts_by}
use Rattle.conformance.specs.Attributes.{derived, Formula, Attributes}
use Rattle.conformance.specs.Operations.{says, size, high_index, low_index, indexed, queried, compared}
use Rattle.conformance.specs.Meanings.{meaning}
use Rattle.conformance.specs.DomainRules.{DomainRule, of_entity, of_type}
use Rattle.conformance.specs.DomainFindings.{least, values_of, outcome, rule_findings, unknown}
use Rattle.std.specs.Str.{is_utf8, chars}
use Rattle.conformance.proofs.MeaningSamples.{domain, attributes, rules, a_point, a_direction, a_placement, unset}

-- what an expression means at the instance of this name
abbrev at : List Instance → ℕ → Tree → Datum
at is y x = meaning geo domain geo_entities attributes is (data_of.instance y) x

abbrev findings : List Instance → List Breach
findings is = rule_findings geo domain geo_entities attributes is rules

abbrev unknowns : List Instance → ℕ
unknowns is = unknown geo domain geo_entities attributes is rules

-- a placement without an axis: `axis.dim` is indeterminate
abbrev without_axis : List Instance
without_axis = a_point 1 (0 ∷ []) ∷ a_placement 2 1 unset ∷ []

no_finding : findings without_axis ≡ []
no_finding = refl

one_unknown : unknowns without_axis ≡ 1
one_unknown = refl

no_axis : at without_axis 2 (trees.call functions.Exists (name_tree AXIS)) ≡ logical False
no_axis = refl

-- a placement twice noted
two_notes : unknowns (a_point 1 (0 ∷ []) ∷ a_placement 4 1 unset ∷ a_note 5 (reference 4) ∷ a_note 6 (reference 4) ∷ [])
    ≡ 1
two_notes = refl

notes_of : at (a_point 1 (0 ∷ []) ∷ a_placement 4 1 unset ∷ a_note 5 (reference 4) ∷ []) 4 (name_tree (codes "NOTES"))
    ≡ aggregate bag (more (data_of.instance 5) none)
notes_of = refl

-- Numbers in units.
zero_units : (t : List ℕ) → mantissa t ≡ pos 0 → units t ≡ pos 0
unfolding units
zero_units t e = ap (λ m. m *ℤ ten_to (exponent t +ℤ pos finest)) e ∙ ap pos (zero-mul _)

none_counted : whole_units (pos 0) ≡ pos 0
none_counted = ap pos (zero-mul _)

pub same_count : (n : ℕ) → int_eq (whole_units (pos n)) (whole_units (pos n)) ≡ true
same_count n = (signed_Decides (whole_units (pos n)) (whole_units (pos n))).1 refl

-- A direction of zeros: `SIZEOF(QUERY(r <* ratios | r <> 0.0)) > 0` is FALSE.
abbrev zeros : Data
zeros = more (number (pos 0)) (more (number (pos 0)) none)

abbrev no_direction : List Instance
no_direction =
    instance 1 (DIRECTION ∷ []) (slot (DIRECTION, RATIOS) (values.sequence
    (values.more (leaf (leaves.number (pos 0))) (values.more (leaf (leaves.number (pos 0))) values.none))) ∷ []) ∷ []

abbrev some_are_not : ℤ → ℤ → Datum
some_are_not y z =
    logical (compared relations.Greater (size (queried (λ d. logical (negated (equal d (number y)))) (aggregate list zeros)))
    (number z))

no_ratio : at no_direction 1 some_ratio ≡ logical False
no_ratio =
    ap₂ some_are_not (zero_units (codes "0.0") refl) (zero_units (codes "0") refl)
    ∙ ap (λ u. logical (known (int_lt (pos 0) u))) none_counted

is_broken : outcome geo domain geo_entities attributes no_direction
    (instance 1 (DIRECTION ∷ []) []) (record { holder = of_entity DIRECTION; label = codes "WR1"; condition = some_ratio })
    ≡ False
is_broken = ap (λ d. both (says d) True) no_ratio

-- `axis.dim = SIZEOF(location.coords)` with two ratios and two coordinates, and with three and two
abbrev placed : List ℕ → List Instance
placed ratios = a_point 1 (0 ∷ 0 ∷ []) ∷ a_direction 2 ratios ∷ a_placement 3 1 (reference 2) ∷ []

two_and_two : at (placed (1 ∷ 0 ∷ [])) 3 as_many ≡ logical True
two_and_two = ap (λ b. logical (known b)) (same_count 2)

three_and_two : at (placed (1 ∷ 0 ∷ 0 ∷ [])) 3 as_many ≡ logical False
three_and_two = ap (λ r. logical (known (is_eq r))) (sym (counts_by (pos 3) (pos 2) Greater refl))

-- A rule that is broken is told by its entity and its label.
abbrev axis_rule : DomainRule
axis_rule = record {
  holder = of_entity PLACEMENT;
  label = codes "WR2";
  condition = trees.call functions.Exists (name_tree AXIS);
}

broken_once : rule_findings geo domain geo_entities attributes
    (a_point 1 (0 ∷ []) ∷ a_placement 2 1 unset ∷ a_placement 3 1 (reference 2) ∷ []) (axis_rule ∷ [])
    ≡ record { instance = 2; holder = PLACEMENT; label = codes "WR2" } ∷ []
broken_once = refl

-- A label that a subtype derives, and one that is given.
abbrev marks : List Instance
marks =
    instance 1 (SHAPE ∷ MARKED ∷ PLAIN_MARK ∷ []) (slot (SHAPE, LABEL) (leaf leaves.derived)
    ∷ slot (MARKED, LOOK) (leaf (leaves.element (codes "FINE"))) ∷ [])
    ∷ instance 2 (SHAPE ∷ MARKED ∷ []) (slot (SHAPE, LABEL) (letter 115)
    ∷ slot (MARKED, LOOK) (leaf (leaves.element (codes "ROUGH"))) ∷ []) ∷ []

derived_label : at marks 1 (name_tree LABEL) ≡ data_of.text (Code 112 ∷ [])
unfolding is_utf8 chars
derived_label = refl

given_label : at marks 2 (name_tree LABEL) ≡ data_of.text (Code 115 ∷ [])
given_label = refl

-- `SELF\shape.label`, and one of an entity that it isn't of
of_group : at marks 2 (trees.reference trees.own (trees.group SHAPE LABEL trees.plain)) ≡ data_of.text (Code 115 ∷ [])
of_group = refl

of_no_group : at marks 2 (trees.reference trees.own (trees.group POINT LABEL trees.plain)) ≡ indeterminate
of_no_group = refl

-- `look = fine`, and `look = finish.fine`
by_item : at marks 1 (trees.comparison (name_tree LOOK) relations.Equal (name_tree (codes "FINE"))) ≡ logical True
by_item = refl

by_type_and_item : at marks 2 (trees.comparison (name_tree LOOK) relations.Equal
    (trees.reference (trees.named FINISH) (trees.attribute (codes "FINE") trees.plain))) ≡ logical False
by_type_and_item = refl

-- an attribute that isn't there
not_there : at marks 2 (trees.reference trees.own (trees.attribute VOLUME trees.plain)) ≡ indeterminate
not_there = refl

abbrev string : Name → Tree
string s = trees.literal (trees.text s)

-- `label IN ['a', 's']`
is_member : at marks 2 (trees.comparison (name_tree LABEL) relations.In
    (trees.aggregate (trees.one (string (codes "'a'")) (trees.one (string (codes "'s'")) trees.none)))) ≡ logical True
unfolding is_utf8 chars
is_member = refl

-- `'GEO.SHAPE' IN TYPEOF(SELF)`
abbrev is_of : Name → Tree → Tree
is_of n x = trees.comparison (string n) relations.In (trees.call functions.Typeof x)

of_supertype : at marks 1 (is_of (codes "'GEO.SHAPE'") (trees.reference trees.own trees.plain)) ≡ logical True
unfolding is_utf8 chars
of_supertype = refl

of_other_type : at marks 1 (is_of (codes "'GEO.POINT'") (trees.reference trees.own trees.plain)) ≡ logical False
unfolding is_utf8 chars
of_other_type = refl

abbrev solids : List Instance
solids =
    instance 1 (SHAPE ∷ SOLID ∷ []) (slot (SHAPE, LABEL) (letter 115)
    ∷ slot (SOLID, VOLUME) (values.typed LEN_M (leaf (leaves.number (pos 5)))) ∷ []) ∷ []

of_defined_type : at solids 1 (is_of (codes "'GEO.LEN_M'") (name_tree VOLUME)) ≡ logical True
unfolding is_utf8 chars
of_defined_type = refl

of_other_defined_type : at solids 1 (is_of (codes "'GEO.ANGLE_M'") (name_tree VOLUME)) ≡ logical False
unfolding is_utf8 chars
of_other_defined_type = refl

-- The values of a defined type: inside a typed value, and elements, the unset ones passed over.
abbrev lengths : schemas.DataType → Value → List Datum
lengths k v = values_of geo domain geo_entities attributes LEN_M k (base domain k) v

in_typed_value : lengths (schemas.named AMOUNT) (values.typed LEN_M (leaf (leaves.number (pos 5)))) ≡ number (pos 5) ∷ []
in_typed_value = refl

of_elements : lengths (schemas.list None false (schemas.named LEN_M)) (values.sequence
    (values.more (leaf (leaves.number (pos 5))) (values.more unset (values.more (leaf (leaves.number (pos 6)))
    values.none)))) ≡ number (pos 5) ∷ number (pos 6) ∷ []
of_elements = refl

of_another_type : lengths (schemas.real None) (leaf (leaves.number (pos 5))) ≡ []
of_another_type = refl

-- A rule of a defined type is tried on its values, and counts nothing where there is none.
abbrev no_value : Name → DomainRule
no_value t = record {
  holder = of_type t;
  label = codes "WR1";
  condition = trees.negation (trees.call functions.Exists (trees.reference trees.own trees.plain));
}

broken_by_a_length : rule_findings geo domain geo_entities attributes solids (no_value LEN_M ∷ no_value ANGLE_M ∷ [])
    ≡ record { instance = 1; holder = LEN_M; label = codes "WR1" } ∷ []
broken_by_a_length = refl

no_angle : unknown geo domain geo_entities attributes solids (no_value ANGLE_M ∷ []) ≡ 0
no_angle = refl

-- Of several values the least outcome counts.
least_false : least (Unknown ∷ False ∷ True ∷ []) ≡ False
least_false = refl

least_unknown : least (True ∷ Unknown ∷ []) ≡ Unknown
least_unknown = refl

-- a := b; b := TRUE; where a has this rank and b the rank 0: inside a derived attribute one of no lesser rank is
-- indeterminate
abbrev A : Name
A = codes "A"

abbrev B : Name
B = codes "B"

abbrev formula_by : ℕ → Derivation → Option Formula
formula_by n (e, zero) = Some (record { rank = n; expression = name_tree B })
formula_by n (e, suc k) = Some (record { rank = 0; expression = trees.literal (trees.constant True) })

abbrev ranked : ℕ → Attributes
ranked n = record attributes {
  source = λ types a. cond (bytes_eq a A) (Some (derived (POINT, 0)))
      (cond (bytes_eq a B) (Some (derived (POINT, 1))) None);
  formula = formula_by n;
}

abbrev a_by : ℕ → Datum
a_by n = meaning geo domain geo_entities (ranked n) (a_point 1 [] ∷ []) (data_of.instance 1) (name_tree A)

of_greater_rank : a_by 1 ≡ logical True
of_greater_rank = refl

of_equal_rank : a_by 0 ≡ indeterminate
of_equal_rank = refl

-- Indices of an ARRAY are those that are declared.
abbrev three_to_seven : Datum
three_to_seven = aggregate (array (Some (pos 3)) (Some (pos 7))) none

low_is_declared : low_index three_to_seven ≡ number (whole_units (pos 3))
low_is_declared = refl

high_is_unknown : high_index (aggregate (array (Some (pos 3)) None) zeros) ≡ indeterminate
high_is_unknown = refl

high_of_a_list : high_index (aggregate list zeros) ≡ number (whole_units (pos 2))
high_of_a_list = refl

-- The only element of a SET has index 1; one of several has none.
only_of_one : indexed (aggregate bag (more (logical True) none)) (number (whole_units (pos 1))) ≡ logical True
only_of_one = ap (λ b. if b then logical True else indeterminate) (same_count 1)

none_of_two : indexed (aggregate bag zeros) (number (whole_units (pos 1))) ≡ indeterminate
none_of_two = ap (λ b. if b then indeterminate else indeterminate) (same_count 1)
