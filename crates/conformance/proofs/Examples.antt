-- Worked answers of the definitions.
use Prim.Native.String.{String}
use Rattle.std.proofs.Common.{◌≡◌, refl}
use Rattle.std.specs.Prelude.{ℕ, suc, List, [], ◌∷◌, ◌++◌, Some, None, codes}
use Rattle.step_literals.specs.Bits.{digit_bits}
use Rattle.step_literals.specs.Decimals.{units}
use Rattle.step_literals.specs.Items.{string_items}
use Rattle.step_structures.specs.Trees.{Tree, ExchangeRow}
use Rattle.step_values.specs.Leaves as leaves
use Rattle.step_values.specs.Values as values
use Rattle.step_values.specs.Values.{leaf, reference, none, more}
use Rattle.express_syntax.specs.Schemas.{Schema}
use Rattle.schema_semantics.proofs.Geo.{geo}
use Rattle.conformance.specs.declared.finding.FindingKind.{FindingKind}
use Rattle.conformance.specs.declared.finding.FindingKind.TheVariants.{UnknownEntity, AbstractInstance, MissingSupertype, OneOfBroken, ParameterCount, WrongKind, MissingValue, MisplacedStar, DanglingReference, WrongEntity, UnknownElement, OutOfBounds, TooWide, NotDistinct, NoSelectItem, SchemaName}
use Rattle.conformance.specs.declared.finding.Spot.TheVariants.{Place, Nothing}
use Rattle.conformance.specs.declared.finding.Finding.{Finding}
use Rattle.conformance.specs.Findings.{findings}
use Rattle.conformance.specs.Populations.{Instance, population_of}
use Rattle.conformance.proofs.SmallSchemas.{domain_of, entities_of}
use Rattle.conformance.proofs.Samples.{num, text, bits, item, to, dollar, star, group, typed, part, row, parts, file_of, mixed, mixed_back}

abbrev named : String → List ExchangeRow → List Finding
named schema rows = findings geo (domain_of geo 4) (entities_of geo 4) [] (file_of schema rows)

abbrev in_geo : List ExchangeRow → List Finding
in_geo = named "GEO"

abbrev in_mixed : Schema → List ExchangeRow → List Finding
in_mixed s rows = findings s (domain_of s 6) (entities_of s 4) [] (file_of "MIXED" rows)

abbrev found : FindingKind → ℕ → ℕ → Finding
found kind n place = record { kind = kind; instance = n; spot = Place place }

-- instances of an entity with one attribute, from #2 on
abbrev each_from : ℕ → String → List Tree → List ExchangeRow
each_from n w [] = []
each_from n w (x ∷ xs) = row n w (x ∷ []) ∷ each_from (suc n) w xs

-- #1=A(1.5,$); then such instances
abbrev of_one_attribute : String → List Tree → List Finding
of_one_attribute w xs = in_mixed mixed (row 1 "A" (num "1.5" ∷ dollar ∷ []) ∷ each_from 2 w xs)

keywords : in_geo (row 1 "CIRCLE" []
    ∷ row 2 "finish" [] ∷ parts 3 (part "X" [] ∷ part "SHAPE" [] ∷ part "Y" [] ∷ []) ∷ [])
    ≡ found UnknownEntity 1 0 ∷ found UnknownEntity 2 0 ∷ found UnknownEntity 3 0 ∷ found UnknownEntity 3 0 ∷ []
unfolding string_items
keywords = refl

types : in_geo (row 1 "ITEM" []
    ∷ parts 2 (part "SOLID" (typed "LEN_M" (num "1.") ∷ []) ∷ [])
    ∷ parts 3 (part "GROUP" (text "a" ∷ group [] ∷ []) ∷ part "ITEM" [] ∷ part "LOOP" (group [] ∷ []) ∷ [])
    ∷ parts 4 (part "ITEM" [] ∷ part "SOLID" [] ∷ []) ∷ [])
    ≡ found AbstractInstance 1 0 ∷ found MissingSupertype 2 0 ∷ found OneOfBroken 3 0
    ∷ found AbstractInstance 4 0 ∷ found MissingSupertype 4 0 ∷ []
unfolding string_items
types = refl

numbers_of_parameters : in_geo (row 1 "POINT" []
    ∷ parts 2 (part "SHAPE" [] ∷ part "MARKED" [] ∷ part "SOLID" (dollar ∷ []) ∷ []) ∷ [])
    ≡ found ParameterCount 1 0 ∷ found ParameterCount 2 0 ∷ found ParameterCount 2 0 ∷ []
unfolding string_items
numbers_of_parameters = refl

kinds : in_geo (row 1 "POINT" (group (text "a" ∷ []) ∷ [])
    ∷ row 2 "POINT" (group (num "1" ∷ text "a" ∷ star ∷ []) ∷ [])
    ∷ row 3 "SHAPE" (typed "LEN_M" (num "1.") ∷ [])
    ∷ row 4 "SHAPE" (to 9 ∷ []) ∷ row 5 "POINT" (num "1." ∷ []) ∷ [])
    ≡ found WrongKind 1 1 ∷ found WrongKind 2 1 ∷ found WrongKind 3 1 ∷ found WrongKind 4 1
    ∷ found WrongKind 5 1 ∷ []
unfolding string_items
kinds = refl

unset : in_geo (row 1 "PLACEMENT" (dollar ∷ dollar ∷ [])
    ∷ row 2 "POINT" (group (dollar ∷ []) ∷ [])
    ∷ row 3 "SOLID" (text "s" ∷ dollar ∷ [])
    ∷ row 4 "SOLID" (text "s" ∷ typed "LEN_M" dollar ∷ []) ∷ [])
    ≡ found MissingValue 1 1 ∷ found MissingValue 2 1 ∷ found MissingValue 3 2 ∷ found MissingValue 4 2 ∷ []
unfolding string_items
unset = refl

stars : in_geo (row 1 "SHAPE" (star ∷ [])
    ∷ row 2 "POINT" (group (star ∷ []) ∷ [])
    ∷ row 3 "SOLID" (text "s" ∷ star ∷ [])
    ∷ row 4 "SOLID" (text "s" ∷ typed "LEN_M" star ∷ [])
    ∷ row 5 "PLACEMENT" (star ∷ star ∷ []) ∷ [])
    ≡ found MisplacedStar 1 1 ∷ found MisplacedStar 2 1 ∷ found MisplacedStar 3 2 ∷ found MisplacedStar 4 2
    ∷ found MisplacedStar 5 1 ∷ found MisplacedStar 5 2 ∷ []
unfolding string_items
stars = refl

derived_labels : in_geo (row 1 "PLAIN_MARK" (star ∷ item "FINE" ∷ [])
    ∷ row 2 "PLAIN_MARK" (dollar ∷ item "fine" ∷ [])
    ∷ row 3 "PLAIN_MARK" (text "p" ∷ item "FINE" ∷ []) ∷ [])
    ≡ found MisplacedStar 3 1 ∷ []
unfolding string_items
derived_labels = refl

references : in_geo (row 1 "NODE" (to 99 ∷ [])
    ∷ row 2 "POINT" (group (num "0." ∷ []) ∷ [])
    ∷ row 3 "NODE" (to 2 ∷ []) ∷ row 4 "SOLID" (text "s" ∷ to 2 ∷ [])
    ∷ row 5 "SOLID" (text "s" ∷ to 99 ∷ [])
    ∷ row 6 "ITEM" [] ∷ row 7 "NODE" (to 6 ∷ [])
    ∷ row 8 "CIRCLE" [] ∷ row 9 "NODE" (to 8 ∷ [])
    ∷ row 10 "NODE" (to 10 ∷ []) ∷ [])
    ≡ found DanglingReference 1 1 ∷ found WrongEntity 3 1 ∷ found NoSelectItem 4 2
    ∷ found DanglingReference 5 2 ∷ found AbstractInstance 6 0 ∷ found WrongEntity 7 1
    ∷ found UnknownEntity 8 0 ∷ []
unfolding string_items
references = refl

parts_in_any_order : in_geo (parts 1 (part "MARKED" (item "rough" ∷ []) ∷ part "SHAPE" (text "s" ∷ [])
    ∷ part "SOLID" (typed "len_m" (num "1.") ∷ []) ∷ [])
    ∷ parts 2 (part "SHAPE" (text "s" ∷ []) ∷ part "SOLID" (typed "LEN_M" (num "1") ∷ [])
    ∷ part "MARKED" (item "X" ∷ []) ∷ [])
    ∷ parts 3 (part "MARKED" (item "X" ∷ []) ∷ part "SHAPE" (text "s" ∷ []) ∷ []) ∷ [])
    ≡ found UnknownElement 2 3 ∷ found UnknownElement 3 1 ∷ []
unfolding string_items
parts_in_any_order = refl

sizes : in_geo (row 1 "GROUP" (text "a" ∷ group [] ∷ [])
    ∷ row 2 "SHAPE" (text "12345678" ∷ [])
    ∷ row 3 "SHAPE" (text "123456789" ∷ [])
    ∷ row 4 "POINT" (group (num "1" ∷ num "2" ∷ num "3" ∷ []) ∷ [])
    ∷ row 5 "POINT" (group (num "1" ∷ num "2" ∷ num "3" ∷ text "a" ∷ []) ∷ []) ∷ [])
    ≡ found OutOfBounds 1 2 ∷ found TooWide 3 1 ∷ found OutOfBounds 5 1 ∷ []
unfolding string_items
sizes = refl

twice_in_a_set : in_geo (row 1 "NODE" (to 1 ∷ [])
    ∷ row 2 "NODE" (to 2 ∷ []) ∷ row 3 "BUNDLE" (group (to 1 ∷ to 2 ∷ []) ∷ [])
    ∷ row 4 "BUNDLE" (group (to 1 ∷ to 2 ∷ to 1 ∷ []) ∷ []) ∷ [])
    ≡ found NotDistinct 4 1 ∷ []
unfolding string_items
twice_in_a_set = refl

no_items : in_geo (row 1 "SOLID" (text "s" ∷ num "5." ∷ [])
    ∷ row 2 "SOLID" (text "s" ∷ group [] ∷ [])
    ∷ row 3 "SOLID" (text "s" ∷ item "FINE" ∷ [])
    ∷ row 4 "SOLID" (text "s" ∷ typed "FINISH" (item "FINE") ∷ [])
    ∷ row 5 "SOLID" (text "s" ∷ typed "AMOUNT" (num "1.") ∷ [])
    ∷ row 6 "SOLID" (text "s" ∷ typed "POINT" (num "1.") ∷ [])
    ∷ row 7 "SOLID" (text "s" ∷ typed "LEN_M" (typed "LEN_M" (num "1.")) ∷ []) ∷ [])
    ≡ found NoSelectItem 1 2 ∷ found NoSelectItem 2 2 ∷ found NoSelectItem 3 2 ∷ found NoSelectItem 4 2
    ∷ found NoSelectItem 5 2 ∷ found NoSelectItem 6 2 ∷ found WrongKind 7 2 ∷ []
unfolding string_items
no_items = refl

names_of_schemas : named "geo {1 0}" [] ++ named "GEA" [] ++ named " GEO" []
    ≡ record { kind = SchemaName; instance = 0; spot = Nothing }
    ∷ record { kind = SchemaName; instance = 0; spot = Nothing } ∷ []
unfolding string_items
names_of_schemas = refl

-- files that may also call the schema MAP or ATLAS
abbrev known_as : String → List Finding
known_as schema = findings geo (domain_of geo 4) (entities_of geo 4) (codes "map" ∷ codes "ATLAS" ∷ []) (file_of schema [])

other_names_of_schemas : known_as "GEO" ++ known_as "Map" ++ known_as "atlas {1 0}" ++ known_as "MAPS" ++ known_as "AT"
    ≡ record { kind = SchemaName; instance = 0; spot = Nothing }
    ∷ record { kind = SchemaName; instance = 0; spot = Nothing } ∷ []
unfolding string_items
other_names_of_schemas = refl

-- each data section may use another of these names
other_names_in_sections : findings geo (domain_of geo 4) (entities_of geo 4) (codes "MAP" ∷ [])
    (record (file_of "GEO" []) {
      sections = record { heading = Some (codes "'a'", codes "'map'"); rows = [] }
          ∷ record { heading = Some (codes "'b'", codes "'geo'"); rows = [] } ∷ [];
    }) ≡ []
unfolding string_items
other_names_in_sections = refl

items_at_any_depth : of_one_attribute "ANY" (typed "len" (num "1")
    ∷ typed "WHOLE" (num "1") ∷ to 1
    ∷ typed "LINK" (to 1) ∷ typed "CODE" (text "abc")
    ∷ typed "MASK" (bits "2FF") ∷ typed "TABLE" (group (dollar ∷ item "t" ∷ [])) ∷ [])
    ≡ []
unfolding string_items digit_bits
items_at_any_depth = refl

no_items_at_any_depth : of_one_attribute "ANY" (typed "ALIAS" (num "1")
    ∷ typed "INNER" (to 1) ∷ typed "A" (to 1)
    ∷ to 5 ∷ typed "WHOLE" (num "1.")
    ∷ typed "LINK" (to 2) ∷ typed "LINK" (to 99)
    ∷ typed "CODE" (text "ab") ∷ typed "MASK" (bits "0FF") ∷ [])
    ≡ found NoSelectItem 2 1 ∷ found NoSelectItem 3 1 ∷ found NoSelectItem 4 1 ∷ found NoSelectItem 5 1
    ∷ found WrongKind 6 1 ∷ found WrongEntity 7 1 ∷ found DanglingReference 8 1 ∷ found TooWide 9 1
    ∷ found TooWide 10 1 ∷ []
unfolding string_items digit_bits
no_items_at_any_depth = refl

-- an instance as a value of a defined type is no item without its name
named_instances : of_one_attribute "LINKED" (to 1 ∷ typed "LINK" (to 1) ∷ [])
    ≡ found NoSelectItem 2 1 ∷ []
unfolding string_items
named_instances = refl

plain_instances : of_one_attribute "DIRECT" (to 1 ∷ to 2 ∷ typed "LINK" (to 1) ∷ [])
    ≡ found WrongEntity 3 1 ∷ found WrongKind 4 1 ∷ []
unfolding string_items
plain_instances = refl

arrays_of_optional : of_one_attribute "TABLED" (group (dollar ∷ dollar ∷ [])
    ∷ group (dollar ∷ []) ∷ group (item "T" ∷ item "F" ∷ [])
    ∷ group (item "T" ∷ item "t" ∷ [])
    ∷ group (item "T" ∷ star ∷ []) ∷ group (item "U" ∷ dollar ∷ []) ∷ [])
    ≡ found OutOfBounds 3 1 ∷ found NotDistinct 5 1 ∷ found MisplacedStar 6 1 ∷ found UnknownElement 7 1 ∷ []
unfolding string_items
arrays_of_optional = refl

-- a bound or width beyond 64 bits limits nothing
open_arrays : of_one_attribute "OPEN_ARRAY" (group (item "U" ∷ [])
    ∷ group [] ∷ group (item "U" ∷ dollar ∷ []) ∷ [])
    ≡ found MissingValue 4 1 ∷ []
unfolding string_items
open_arrays = refl

open_lists : of_one_attribute "OPEN_LIST" (group (item "T" ∷ item "T" ∷ item "U" ∷ [])
    ∷ group (item "T" ∷ []) ∷ [])
    ≡ found OutOfBounds 3 1 ∷ []
unfolding string_items
open_lists = refl

open_texts : of_one_attribute "OPEN_TEXT" (text "abc" ∷ [])
    ≡ []
unfolding string_items
open_texts = refl

sets_alike : of_one_attribute "SETS" (group (group (to 1 ∷ to 3 ∷ []) ∷ group (to 3 ∷ to 1 ∷ []) ∷ [])
    ∷ group (group (to 1 ∷ []) ∷ group [] ∷ []) ∷ [])
    ≡ found WrongEntity 2 1 ∷ []
unfolding string_items
sets_alike = refl

sets_of_the_same : in_mixed mixed (row 1 "A" (num "1.5" ∷ dollar ∷ [])
    ∷ row 2 "A" (num "1" ∷ to 1 ∷ [])
    ∷ row 3 "SETS" (group (group (to 1 ∷ to 2 ∷ []) ∷ group (to 2 ∷ to 1 ∷ []) ∷ []) ∷ [])
    ∷ row 4 "SETS" (group (group (to 1 ∷ to 1 ∷ []) ∷ dollar ∷ []) ∷ [])
    ∷ row 5 "SETS" (group (group (to 1 ∷ []) ∷ group (to 2 ∷ []) ∷ group [] ∷ []) ∷ []) ∷ [])
    ≡ found NotDistinct 3 1 ∷ found NotDistinct 4 1 ∷ []
unfolding string_items
sets_of_the_same = refl

redeclared : in_mixed mixed (row 1 "A" (num "1.5" ∷ dollar ∷ [])
    ∷ row 2 "B" (num "1.5" ∷ to 1 ∷ [])
    ∷ row 3 "B" (num "1" ∷ dollar ∷ [])
    ∷ parts 4 (part "B" [] ∷ part "A" (num "1" ∷ dollar ∷ []) ∷ [])
    ∷ row 5 "B" (num "1" ∷ typed "LINK" (to 1) ∷ [])
    ∷ row 6 "B" (num "1" ∷ to 7 ∷ [])
    ∷ row 7 "DIRECT" (to 6 ∷ []) ∷ [])
    ≡ found WrongKind 2 1 ∷ found MissingValue 3 2 ∷ found MissingValue 4 2 ∷ found WrongKind 5 2
    ∷ found NoSelectItem 6 2 ∷ []
unfolding string_items
redeclared = refl

redeclared_before : in_mixed mixed_back (row 1 "A" (num "1.5" ∷ dollar ∷ [])
    ∷ row 6 "B" (num "1" ∷ to 7 ∷ [])
    ∷ row 7 "DIRECT" (to 6 ∷ []) ∷ [])
    ≡ found WrongEntity 6 2 ∷ []
unfolding string_items
redeclared_before = refl

parts_without_values : in_mixed mixed (parts 1 (part "C" [] ∷ part "A" (num "1" ∷ dollar ∷ []) ∷ [])
    ∷ row 2 "DIRECT" (to 1 ∷ []) ∷ [])
    ≡ []
unfolding string_items
parts_without_values = refl

operands_of_two : in_mixed mixed (row 1 "D" (num "1" ∷ dollar ∷ [])
    ∷ parts 2 (part "D" [] ∷ part "C" [] ∷ part "B" [] ∷ part "A" (num "1" ∷ dollar ∷ []) ∷ []) ∷ [])
    ≡ found OneOfBroken 1 0 ∷ found OneOfBroken 1 0 ∷ found OneOfBroken 2 0 ∷ found OneOfBroken 2 0 ∷ []
unfolding string_items
operands_of_two = refl

-- a section may name its schema, any of them
sections_of_schemas : findings geo (domain_of geo 4) (entities_of geo 4) [] (record (file_of "GEO" []) {
  sections = record { heading = Some (codes "'a'", codes "'geo'"); rows = [] }
      ∷ record { heading = Some (codes "'b'", codes "'GEA'"); rows = [] }
      ∷ record { heading = None; rows = row 1 "ITEM" [] ∷ [] } ∷ [];
}) ≡ record { kind = SchemaName; instance = 0; spot = Nothing } ∷ found AbstractInstance 1 0 ∷ []
unfolding string_items
sections_of_schemas = refl

abbrev in_population : List ExchangeRow → List Instance
in_population rows = population_of geo (domain_of geo 4) (entities_of geo 4) (file_of "GEO" rows)

a_label_that_is_derived : in_population (row 1 "PLAIN_MARK" (dollar ∷ item "fine" ∷ []) ∷ []) ≡ record {
  name = 1;
  section = 0;
  types = codes "SHAPE" ∷ codes "MARKED" ∷ codes "PLAIN_MARK" ∷ [];
  slots = record { place = (codes "SHAPE", codes "LABEL"); value = leaf leaves.derived }
      ∷ record { place = (codes "MARKED", codes "LOOK"); value = leaf (leaves.element (codes "FINE")) } ∷ [];
} ∷ []
a_label_that_is_derived = refl

sets_and_unset_values : in_population (row 1 "GROUP" (dollar ∷ group (to 2 ∷ to 3 ∷ []) ∷ []) ∷ []) ≡ record {
  name = 1;
  section = 0;
  types = codes "ITEM" ∷ codes "GROUP" ∷ [];
  slots = record { place = (codes "GROUP", codes "ID"); value = leaf leaves.unset }
      ∷ record {
        place = (codes "GROUP", codes "MEMBERS");
        value = values.bag (more (reference 2) (more (reference 3) none));
      } ∷ [];
} ∷ []
sets_and_unset_values = refl

values_of_parts : in_population (parts 1 (part "SOLID" (typed "len_m" (num "1.") ∷ []) ∷ part "SHAPE" (dollar
    ∷ []) ∷ []) ∷ [])
    ≡ record {
      name = 1;
      section = 0;
      types = codes "SHAPE" ∷ codes "SOLID" ∷ [];
      slots = record {
        place = (codes "SOLID", codes "VOLUME");
        value = values.typed (codes "LEN_M") (leaf (leaves.number (units (codes "1."))));
      } ∷ record { place = (codes "SHAPE", codes "LABEL"); value = leaf leaves.unset } ∷ [];
    } ∷ []
values_of_parts = refl
