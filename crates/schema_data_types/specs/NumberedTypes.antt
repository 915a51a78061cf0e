-- The data types of a schema, numbered in the order of the text (ISO 10303-11, 8).
use Rattle.std.specs.Prelude.{List, [], ◌∷◌, ◌++◌, map, flat_map}
use Rattle.express_syntax.specs.Schemas.{Schema, Declaration, type, entity, skipped, Entity, Explicit, Derived, Inverse, Underlying, data_type, DataType, integer, number, boolean, logical, real, string, binary, named, array, list, bag, set}
use Rattle.schema_semantics.specs.Names.{listed}
use Rattle.schema_semantics.specs.Attributes.{collected}
use Rattle.schema_names.specs.Numbers.{number_of}
use Rattle.schema_data_types.specs.declared.forms.Form.{Form}
use Rattle.schema_data_types.specs.declared.forms.Form.TheVariants as forms

-- A data type, then those of its elements.
abbrev pub within : DataType → List DataType
within (array b o u k) = array b o u k ∷ within k
within (list b u k) = list b u k ∷ within k
within (bag b k) = bag b k ∷ within k
within (set b k) = set b k ∷ within k
within k = k ∷ []

abbrev pub whole_underlying : Underlying → List DataType
whole_underlying (data_type k) = k ∷ []
whole_underlying u = []

abbrev pub explicit_types : List Explicit → List DataType
explicit_types xs = map (λ (x : Explicit). x.data_type) xs

abbrev pub derived_types : List Derived → List DataType
derived_types ds = map (λ (d : Derived). d.data_type) ds

abbrev pub inverse_types : List Inverse → List DataType
inverse_types is = map (λ (i : Inverse). collected i.collection i.entity) is

abbrev pub attribute_types : Entity → List DataType
attribute_types e = explicit_types e.explicits ++ derived_types (listed e.derived) ++ inverse_types (listed e.inverses)

-- The data types of a declaration, without those of elements. For a defined type, the data type
-- after its `=`. For an entity, one for each declaration of explicit, derived and inverse
-- attributes, including redeclared ones.
abbrev pub whole_types : Declaration → List DataType
whole_types (type t) = whole_underlying t.underlying
whole_types (entity e) = attribute_types e
whole_types (skipped p) = []

-- All data types of a schema, each followed by those of its elements.
abbrev pub all_data_types : Schema → List DataType
all_data_types s = flat_map (λ (d : Declaration). flat_map within (whole_types d)) s.declarations

-- The outermost level of a data type.
abbrev pub form_in : Schema → DataType → Form
form_in s integer = forms.Number
form_in s number = forms.Number
form_in s (real w) = forms.Number
form_in s boolean = forms.Logical
form_in s logical = forms.Logical
form_in s (string w) = forms.String
form_in s (binary w) = forms.Binary
form_in s (named n) = forms.Named (number_of s n)
form_in s (array b o u k) = forms.Array
form_in s (list b u k) = forms.List
form_in s (bag b k) = forms.Collection
form_in s (set b k) = forms.Collection
