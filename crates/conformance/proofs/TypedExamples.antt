-- Worked answers of the definitions, of typed values.
use Rattle.std.specs.Prelude.{◌≡◌, pos, List, [], ◌∷◌, codes, if◌then◌else◌}
use Rattle.std.specs.Str.{is_utf8, chars}
use Rattle.std.proofs.Common.{refl, ap}
use Rattle.step_literals.specs.declared.literal.items.Item.TheVariants.{Code}
use Rattle.step_values.specs.Leaves as leaves
use Rattle.step_values.specs.Values as values
use Rattle.step_values.specs.Values.{leaf}
use Rattle.express_syntax.specs.declared.expression.Logical.TheVariants.{False, True}
use Rattle.express_syntax.specs.declared.expression.Relation.TheVariants as relations
use Rattle.express_syntax.specs.declared.expression.Function.TheVariants as functions
use Rattle.express_syntax.specs.Trees as trees
use Rattle.express_syntax.specs.Trees.{Tree}
use Rattle.schema_semantics.specs.Names.{Name}
use Rattle.schema_semantics.proofs.Geo.{geo, name_tree, SHAPE, SOLID, LEN_M, ANGLE_M, LABEL, VOLUME}
use Rattle.conformance.specs.Bases as bases
use Rattle.conformance.specs.Bases.{Domain}
use Rattle.conformance.specs.Populations.{Instance}
use Rattle.conformance.proofs.RuleSamples.{geo_entities, instance, slot, letter}
use Rattle.express_logic.specs.Literals.{whole_units}
use Rattle.express_logic.specs.Data as data_of
use Rattle.express_logic.specs.Data.{Datum, list, bag, indeterminate, number, logical, typed, aggregate, none, more}
use Rattle.conformance.specs.Expressions.{bound, means}
use Rattle.conformance.specs.Meanings.{setting, derived_value, meaning}
use Rattle.conformance.specs.DomainRules.{DomainRule, of_entity}
use Rattle.conformance.specs.DomainFindings.{outcome}
use Rattle.conformance.proofs.MeaningExamples.{same_count}
use Rattle.conformance.proofs.MeaningSamples.{domain, attributes}

abbrev shapes : List Instance
shapes = instance 1 (SHAPE ∷ []) (slot (SHAPE, LABEL) (letter 115) ∷ []) ∷ []

-- what an expression means where SELF is this value
abbrev of_value : Datum → Tree → Datum
of_value d x = meaning geo domain geo_entities attributes shapes d x

abbrev self : Tree
self = trees.reference trees.own trees.plain

abbrev one_truth : Datum
one_truth = typed LEN_M (aggregate list (more (logical True) none))

-- a value in two typed ones
abbrev two_deep : Datum
two_deep = typed ANGLE_M (typed LEN_M (aggregate list (more (logical True) (more (logical False) none))))

size_of_typed : of_value two_deep (trees.call functions.Sizeof self) ≡ number (whole_units (pos 2))
size_of_typed = refl

high_of_typed : of_value two_deep (trees.call functions.Hiindex self) ≡ number (whole_units (pos 2))
high_of_typed = refl

low_of_typed : of_value two_deep (trees.call functions.Loindex self) ≡ number (whole_units (pos 1))
low_of_typed = refl

-- a typed number has no size, as a number has none
no_size : of_value (typed LEN_M (number (pos 5))) (trees.call functions.Sizeof self) ≡ indeterminate
no_size = refl

-- `SELF[SIZEOF(SELF)]`
abbrev last_one : Tree
last_one = trees.reference trees.own (trees.index (trees.call functions.Sizeof self) trees.plain)

element_of_typed : of_value one_truth last_one ≡ logical True
element_of_typed = ap (λ b. if b then logical True else indeterminate) (same_count 1)

element_exists : of_value one_truth (trees.call functions.Exists last_one) ≡ logical True
element_exists = ap (λ b. of_value (if b then logical True else indeterminate) (trees.call functions.Exists self))
    (same_count 1)

-- an index may be typed too
abbrev I : Name
I = codes "I"

by_typed_index : means (setting geo domain geo_entities attributes shapes (derived_value geo domain geo_entities
    attributes shapes))
    (bound I (typed LEN_M (number (whole_units (pos 1)))) []) one_truth
    (trees.reference trees.own (trees.index (name_tree I) trees.plain)) ≡ logical True
by_typed_index = ap (λ b. if b then logical True else indeterminate) (same_count 1)

-- `QUERY(i <* SELF | i)`: typed elements stay typed
kept_of_typed : of_value (typed LEN_M (aggregate bag (more (typed ANGLE_M (logical True)) (more (logical False) none))))
    (trees.query I self (name_tree I)) ≡ aggregate bag (more (typed ANGLE_M (logical True)) none)
kept_of_typed = refl

not_of_typed : of_value (typed LEN_M (logical False)) (trees.negation self) ≡ logical True
not_of_typed = refl

and_of_typed : of_value (typed LEN_M (logical False)) (trees.conjunction (trees.literal (trees.constant True))
    (trees.one self trees.none)) ≡ logical False
and_of_typed = refl

-- `.label` of a typed instance, and of a typed value that is none
label_of_typed : of_value (typed LEN_M (data_of.instance 1)) (trees.reference trees.own (trees.attribute LABEL trees.plain))
    ≡ data_of.text (Code 115 ∷ [])
label_of_typed = refl

group_of_typed : of_value (typed LEN_M (data_of.instance 1))
    (trees.reference trees.own (trees.group SHAPE LABEL trees.plain)) ≡ data_of.text (Code 115 ∷ [])
group_of_typed = refl

no_label : of_value (typed LEN_M (number (pos 5))) (trees.reference trees.own (trees.attribute LABEL trees.plain))
    ≡ indeterminate
no_label = refl

in_typed : of_value one_truth (trees.comparison (trees.literal (trees.constant True)) relations.In self) ≡ logical True
in_typed = refl

not_in_typed : of_value one_truth (trees.comparison (trees.literal (trees.constant False)) relations.In self)
    ≡ logical False
not_in_typed = refl

-- EXISTS, NVL and TYPEOF take the typed value as it is.
typed_exists : of_value (typed LEN_M (number (pos 5))) (trees.call functions.Exists self) ≡ logical True
typed_exists = refl

typed_stays : of_value (typed LEN_M (logical True)) (trees.nvl self (trees.literal (trees.constant False)))
    ≡ typed LEN_M (logical True)
typed_stays = refl

abbrev is_of : Name → Tree
is_of n = trees.comparison (trees.literal (trees.text n)) relations.In (trees.call functions.Typeof self)

outer_type : of_value two_deep (is_of (codes "'GEO.ANGLE_M'")) ≡ logical True
unfolding is_utf8 chars
outer_type = refl

not_inner_type : of_value two_deep (is_of (codes "'GEO.LEN_M'")) ≡ logical False
unfolding is_utf8 chars
not_inner_type = refl

-- A rule whose value is a typed FALSE is broken.
abbrev of_booleans : Domain
of_booleans = record domain { of_name = λ n. bases.boolean }

abbrev volume_rule : DomainRule
volume_rule = record { holder = of_entity SOLID; label = codes "WR1"; condition = name_tree VOLUME }

abbrev a_solid : Instance
a_solid =
    instance 1 (SHAPE ∷ SOLID ∷ [])
    (slot (SOLID, VOLUME) (values.typed LEN_M (leaf (leaves.element (codes "F")))) ∷ [])

typed_outcome : outcome geo of_booleans geo_entities attributes (a_solid ∷ []) a_solid volume_rule ≡ False
typed_outcome = refl
