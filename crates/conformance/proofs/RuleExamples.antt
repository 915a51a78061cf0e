-- Worked answers of the definitions.
use Rattle.std.specs.Prelude.{◌≡◌, ℕ, ◌==◌, ◌&&◌, ◌||◌, Bool, true, false, List, [], ◌∷◌, filter, Some, None, codes, decimal}
use Rattle.std.proofs.Common.{refl}
use Rattle.step_values.specs.Leaves as leaves
use Rattle.step_values.specs.Values as values
use Rattle.step_values.specs.Values.{leaf, reference, sequence, none, more}
use Rattle.express_syntax.specs.Schemas.{Unique, own, DataType, named}
use Rattle.express_syntax.specs.Schemas as schemas
use Rattle.schema_semantics.specs.Names.{Name}
use Rattle.schema_semantics.proofs.Geo.{geo, LOCATION, LOOP, GROUP, NOTE, NODE, BUNDLE, POINT, PLACEMENT, DIRECTION}
use Rattle.conformance.specs.Entities.{Entities}
use Rattle.conformance.specs.Populations.{Instance}
use Rattle.conformance.specs.Rules.{alone, in_set, in_bag, InverseAttribute, Rules, UniquenessStatement, statements_from}
use Rattle.conformance.specs.Referrers.{inverse_value, inverse_of}
use Rattle.conformance.specs.RuleFindings.{Breach, unique_findings, inverse_findings}
use Rattle.conformance.specs.Choices.{usual, given, chosen_names, unknown_name}
use Rattle.conformance.specs.ParameterFits.{entity_names}
use Rattle.conformance.specs.RuleLaws.{names}
use Rattle.conformance.proofs.Decided.{test}
use Rattle.conformance.proofs.Deciding.{weak_decided, gentle_decided}
use Rattle.conformance.proofs.GeoRules.{ID, MEMBERS, SUBJECT, one_id, the_notes, geo_rules}
use Rattle.conformance.proofs.RuleSamples.{geo_domain, geo_entities, all_of, references, letter, instance, slot, a_point, a_placement, a_note, a_group, a_loop, a_node, a_bundle}

-- Two points, a placement at each, and a note on the second one.
abbrev one_note : List Instance
one_note =
    a_point 1 0 ∷ a_point 2 0 ∷ a_placement 3 1 ∷ a_placement 4 2 ∷ a_note 5 (reference 4) ∷ []

abbrev two_notes : List Instance
two_notes =
    a_point 1 0 ∷ a_point 2 0 ∷ a_placement 4 2 ∷ a_note 5 (reference 4) ∷ a_note 6 (reference 4) ∷ []

abbrev notes_of : List Instance → ℕ → List ℕ
notes_of is y = inverse_of geo_rules.inverses is y (PLACEMENT, codes "NOTES")

one_refers : notes_of one_note 4 ≡ 5 ∷ []
one_refers = refl

none_refers : notes_of one_note 3 ≡ []
none_refers = refl

two_refer : notes_of two_notes 4 ≡ 5 ∷ 6 ∷ []
two_refer = refl

-- no instance, none of the entity, no such attribute
no_such_name : notes_of one_note 9 ≡ []
no_such_name = refl

of_another_entity : notes_of one_note 2 ≡ []
of_another_entity = refl

no_such_attribute : inverse_of geo_rules.inverses one_note 4 (PLACEMENT, codes "LOCATION") ≡ []
no_such_attribute = refl

-- Referrers that name it three times, twice in a SET inside a LIST.
abbrev often : List Instance
often =
    a_placement 4 2 ∷ a_note 5 (sequence (more (reference 4) (more (values.bag (references (4 ∷ 3 ∷ 4 ∷ []))) none)))
    ∷ a_note 6 (reference 3) ∷ a_note 7 (reference 4) ∷ []

once_in_a_set : inverse_value often the_notes 4 ≡ 5 ∷ 7 ∷ []
once_in_a_set = refl

each_time_in_a_bag : inverse_value often (record the_notes { gathering = in_bag None None }) 4
    ≡ 5 ∷ 5 ∷ 5 ∷ 7 ∷ []
each_time_in_a_bag = refl

-- by another entity nothing refers
abbrev by_groups : InverseAttribute
by_groups = record the_notes { referrer = GROUP }

by_another_entity : inverse_value often by_groups 4 ≡ []
by_another_entity = refl

-- [0:1]
abbrev too_many : Breach
too_many = record { instance = 4; holder = PLACEMENT; label = codes "NOTES" }

in_bounds : inverse_findings geo_rules one_note ≡ []
in_bounds = refl

out_of_bounds : inverse_findings geo_rules two_notes ≡ too_many ∷ []
out_of_bounds = refl

-- without SET or BAG there is exactly one
abbrev one_alone : Rules
one_alone = record { uniques = []; inverses = record the_notes { gathering = alone } ∷ [] }

none_and_one : inverse_findings one_alone one_note ≡ record too_many { instance = 3 } ∷ []
none_and_one = refl

two_are_too_many : inverse_findings one_alone two_notes ≡ too_many ∷ []
two_are_too_many = refl

-- a bound that isn't checked limits nothing
abbrev any_number : Rules
any_number = record { uniques = []; inverses = record the_notes { gathering = in_set None None } ∷ [] }

no_bounds : inverse_findings any_number two_notes ≡ []
no_bounds = refl

-- A point, a placement, and groups of these identifiers.
abbrev a : values.Value
a = letter 97

abbrev b : values.Value
b = letter 98

abbrev groups : List Instance
groups = a_point 1 0 ∷ a_placement 2 1 ∷ a_group 3 a (2 ∷ []) ∷ a_group 4 a (2 ∷ []) ∷ []

abbrev twice : ℕ → Breach
twice n = record { instance = n; holder = GROUP; label = codes "UR1" }

second_of_two : unique_findings geo_rules groups ≡ twice 4 ∷ []
second_of_two = refl

each_but_the_first : unique_findings geo_rules (a_group 1 a [] ∷ a_group 2 b [] ∷ a_group 3 a [] ∷ a_group 4 b []
    ∷ a_group 5 a [] ∷ []) ≡ twice 3 ∷ twice 4 ∷ twice 5 ∷ []
each_but_the_first = refl

-- keys with a part that isn't given
exempt : unique_findings geo_rules (a_group 1 (leaf leaves.unset) [] ∷ a_group 2 (leaf leaves.unset) []
    ∷ a_group 3 (leaf leaves.derived) [] ∷ a_group 4 (leaf leaves.derived) [] ∷ []) ≡ []
exempt = refl

-- A key of two parts; the members of a SET have no order.
abbrev by_members : Rules
by_members = record { uniques = record one_id { places = MEMBERS ∷ ID ∷ [] } ∷ []; inverses = [] }

in_any_order : unique_findings by_members (a_group 1 a (7 ∷ 8 ∷ []) ∷ a_group 2 a (7 ∷ 9 ∷ [])
    ∷ a_group 3 b (8 ∷ 7 ∷ []) ∷ a_group 4 a (8 ∷ 7 ∷ []) ∷ a_group 5 (leaf leaves.unset) (8 ∷ 7 ∷ []) ∷ [])
    ≡ twice 4 ∷ []
in_any_order = refl

-- a rule that is set aside finds nothing
abbrev aside : Rules
aside = record { uniques = record one_id { is_checked = false } ∷ []; inverses = [] }

set_aside : unique_findings aside groups ≡ []
set_aside = refl

-- UNIQUE id; ur1 : id; id;
abbrev unlabelled : Unique
unlabelled = record { label = None; attributes = own (codes "ID") ∷ [] }

abbrev written : List Unique
written = unlabelled ∷ record unlabelled { label = Some (codes "UR1") } ∷ unlabelled ∷ []

abbrev labelled : Name → UniquenessStatement
labelled n = record { entity = GROUP; label = n; attributes = own (codes "ID") ∷ [] }

-- `?1`, UR1 and `?3`
labels : statements_from GROUP 1 written
    ≡ labelled (63 ∷ decimal 1) ∷ labelled (codes "UR1") ∷ labelled (63 ∷ decimal 3) ∷ []
labels = refl

-- The names that are pinned.
module _ (en : Entities) (rules : Rules) (chosen : List Name) (is : List Instance) where
  abbrev weak_if : Bool → List ℕ
  weak_if in_sets =
      filter (λ y. test (weak_decided geo geo_domain en rules (record {
        entities = chosen;
        in_sets = in_sets;
        other_names = [];
      }) is y))
      (names is)

  abbrev weak_by : List ℕ
  weak_by = weak_if false

  abbrev gentle_by : (ℕ → ℕ → Bool) → List ℕ
  gentle_by E =
      filter (λ y. test (gentle_decided geo geo_domain en rules (record {
        entities = chosen;
        in_sets = false;
        other_names = [];
      }) is E y))
      (names is)

abbrev weak : List Name → List Instance → List ℕ
weak = weak_by geo_entities geo_rules

abbrev gentle : (ℕ → ℕ → Bool) → List Name → List Instance → List ℕ
gentle E chosen is = gentle_by geo_entities geo_rules chosen is E

-- an inverse attribute that holds an instance pins both sides, and no other placement
a_note_on_a_placement : weak (POINT ∷ PLACEMENT ∷ []) one_note ≡ 4 ∷ 5 ∷ []
a_note_on_a_placement = refl

a_note_on_one : weak (POINT ∷ PLACEMENT ∷ NOTE ∷ []) one_note ≡ 4 ∷ 5 ∷ []
a_note_on_one = refl

nobody : weak (POINT ∷ []) [] ≡ []
nobody = refl

-- NODE is chosen, and so is BUNDLE: the members of sets are pinned
abbrev bundles : List Instance
bundles = a_node 1 1 ∷ a_node 2 2 ∷ a_bundle 3 (1 ∷ 2 ∷ []) ∷ a_bundle 4 (2 ∷ 1 ∷ []) ∷ []

members : weak (NODE ∷ BUNDLE ∷ []) bundles ≡ 1 ∷ 2 ∷ []
members = refl

-- alone in a SET: pinned, unless what stands alone may be merged
abbrev bundles_of_one : List Instance
bundles_of_one = a_node 1 1 ∷ a_node 2 2 ∷ a_bundle 3 (1 ∷ []) ∷ a_bundle 4 (2 ∷ []) ∷ []

sole_members : weak (NODE ∷ BUNDLE ∷ []) bundles_of_one ≡ 1 ∷ 2 ∷ []
sole_members = refl

sole_members_in_sets : weak_if geo_entities geo_rules (NODE ∷ BUNDLE ∷ []) bundles_of_one true ≡ []
sole_members_in_sets = refl

members_in_sets : weak_if geo_entities geo_rules (NODE ∷ BUNDLE ∷ []) bundles true ≡ 1 ∷ 2 ∷ []
members_in_sets = refl

unchosen : weak (BUNDLE ∷ []) bundles ≡ 1 ∷ 2 ∷ []
unchosen = refl

none_chosen : weak [] bundles ≡ 1 ∷ 2 ∷ 3 ∷ 4 ∷ []
none_chosen = refl

-- groups have a UNIQUE rule, also where it is set aside; the placement stands in their sets
in_keys : weak (POINT ∷ PLACEMENT ∷ GROUP ∷ []) groups ≡ 2 ∷ 3 ∷ 4 ∷ []
in_keys = refl

in_keys_set_aside : weak_by geo_entities aside (POINT ∷ PLACEMENT ∷ GROUP ∷ []) groups ≡ 2 ∷ 3 ∷ 4 ∷ []
in_keys_set_aside = refl

-- what stands in a key alone, where the rule is checked and where it is set aside
abbrev by_location : Bool → Rules
by_location checked = record {
  uniques = record one_id { entity = PLACEMENT; is_checked = checked; places = (PLACEMENT, LOCATION) ∷ [] } ∷ [];
  inverses = [];
}

abbrev a_place_and_a_point : List Instance
a_place_and_a_point = a_point 1 0 ∷ a_point 2 0 ∷ a_placement 3 1 ∷ []

value_of_a_key : weak_by geo_entities (by_location true) (POINT ∷ PLACEMENT ∷ []) a_place_and_a_point ≡ 1 ∷ 3 ∷ []
value_of_a_key = refl

value_of_a_key_set_aside : weak_by geo_entities (by_location false) (POINT ∷ PLACEMENT ∷ []) a_place_and_a_point
    ≡ 1 ∷ 3 ∷ []
value_of_a_key_set_aside = refl

-- a SET inside a LIST
in_a_set_in_a_list : weak (POINT ∷ NOTE ∷ []) (a_point 1 0 ∷ a_point 2 0 ∷ a_point 3 0
    ∷ a_note 4 (sequence (more (reference 3) (more (values.bag (references (1 ∷ 2 ∷ []))) none))) ∷ []) ≡ 1 ∷ 2 ∷ []
in_a_set_in_a_list = refl

-- a SET of two inside a SET of one
abbrev a_set_in_a_set : List Instance
a_set_in_a_set =
    a_point 1 0 ∷ a_point 2 0
    ∷ a_note 3 (values.bag (more (values.bag (references (1 ∷ 2 ∷ []))) none)) ∷ []

in_a_set_in_a_set : weak_if geo_entities geo_rules (POINT ∷ NOTE ∷ []) a_set_in_a_set true ≡ 1 ∷ 2 ∷ []
in_a_set_in_a_set = refl

-- notes are inverted of placements alone
a_note_on_a_point : weak (POINT ∷ NOTE ∷ []) (a_point 1 0 ∷ a_note 2 (reference 1) ∷ []) ≡ []
a_note_on_a_point = refl

-- an instance of two types, neither below the other
abbrev of_two_types : List Instance
of_two_types = instance 1 (DIRECTION ∷ POINT ∷ []) [] ∷ []

one_is_unchosen : weak (POINT ∷ []) of_two_types ≡ 1 ∷ []
one_is_unchosen = refl

both_are_chosen : weak (POINT ∷ DIRECTION ∷ []) of_two_types ≡ []
both_are_chosen = refl

-- a loop of corners, two of them equal
abbrev a_corner_twice : List Instance
a_corner_twice = a_point 1 0 ∷ a_point 2 0 ∷ a_point 3 1 ∷ a_loop 4 (1 ∷ 2 ∷ 3 ∷ []) ∷ []

corners : weak (POINT ∷ []) a_corner_twice ≡ 4 ∷ []
corners = refl

-- #1 and #2 are of one class
abbrev alike_at : ℕ → ℕ → ℕ → ℕ → Bool
alike_at m n y z = (y == z) || (((y == m) && (z == n)) || ((y == n) && (z == m)))

beside_and_unchosen : gentle (alike_at 1 2) (POINT ∷ []) a_corner_twice ≡ 1 ∷ 2 ∷ 4 ∷ []
beside_and_unchosen = refl

beside_their_like : gentle (alike_at 1 2) (POINT ∷ LOOP ∷ []) a_corner_twice ≡ 1 ∷ 2 ∷ []
beside_their_like = refl

-- two loops of equal corners: no two of one loop are alike
abbrev two_loops : List Instance
two_loops =
    a_point 1 0 ∷ a_point 2 1 ∷ a_point 3 0 ∷ a_point 4 1 ∷ a_loop 5 (1 ∷ 2 ∷ []) ∷ a_loop 6 (3 ∷ 4 ∷ []) ∷ []

abbrev pairs : ℕ → ℕ → Bool
pairs y z = alike_at 1 3 y z || alike_at 2 4 y z

free_corners : gentle pairs (POINT ∷ LOOP ∷ []) two_loops ≡ []
free_corners = refl

-- what stands within an element of a LIST OF UNIQUE, not as the element itself
abbrev lists : List Instance
lists =
    a_point 1 0 ∷ a_point 2 0 ∷ a_point 3 0
    ∷ instance 4 (NOTE ∷ []) (slot SUBJECT (sequence (more (sequence (references (1 ∷ 2 ∷ []))) none)) ∷ []) ∷ []

abbrev list_of : Bool → DataType → DataType
list_of = schemas.list None

within_elements : weak_by (all_of (list_of true (list_of false (named POINT)))) geo_rules (POINT ∷ NOTE ∷ []) lists
    ≡ 1 ∷ 2 ∷ []
within_elements = refl

elements_themselves : weak_by (all_of (list_of false (list_of true (named POINT)))) geo_rules (POINT ∷ NOTE ∷ []) lists
    ≡ []
elements_themselves = refl

elements_of_one_class : gentle_by (all_of (list_of false (list_of true (named POINT)))) geo_rules (POINT ∷ NOTE ∷ [])
    lists (alike_at 1 2) ≡ 1 ∷ 2 ∷ []
elements_of_one_class = refl

-- The chosen names.
chosen_usually : chosen_names geo usual ≡ DIRECTION ∷ []
chosen_usually = refl

chosen_by_name : chosen_names geo (given (codes "point" ∷ codes "Loop" ∷ [])) ≡ POINT ∷ LOOP ∷ []
chosen_by_name = refl

chosen_by_preset : chosen_names geo (given (codes "point" ∷ codes "@Points" ∷ [])) ≡ POINT ∷ DIRECTION ∷ []
chosen_by_preset = refl

all_chosen : chosen_names geo (given (codes "@all" ∷ [])) ≡ entity_names geo
all_chosen = refl

all_known : unknown_name geo (given (codes "point" ∷ codes "@styles" ∷ codes "Loop" ∷ [])) ≡ None
all_known = refl

first_unknown : unknown_name geo (given (codes "point" ∷ codes "circle" ∷ codes "x" ∷ [])) ≡ Some (codes "CIRCLE")
first_unknown = refl

unknown_preset : unknown_name geo (given (codes "@lines" ∷ [])) ≡ Some (codes "@LINES")
unknown_preset = refl
