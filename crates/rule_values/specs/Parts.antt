-- What typed values and aggregates of the program hold.
use Rattle.std.specs.Prelude.{ℕ, Bool, cond, List, [], ◌∷◌, Option, Some, None}
use Rattle.step_literals.specs.declared.literal.Word.{Word}
use Rattle.step_values.specs.Views.{word_of}
use Rattle.schema_semantics.specs.Names.{Name}
use Rattle.express_logic.specs.Data as data_of
use Rattle.express_logic.specs.Data.{Shape, list, bag, Datum, indeterminate, Data, none, more}
use Rattle.express_logic.specs.Holdings.{Holding, element_at}
use Rattle.conformance.specs.Meanings.{instance_data}
use Rattle.conformance.specs.Operations.{kept_shape}
use Rattle.rule_values.specs.declared.element.Element.{Element}
use Rattle.rule_values.specs.declared.element.Element.TheVariants as elements
use Rattle.rule_values.specs.declared.part.Content.{Content}
use Rattle.rule_values.specs.declared.part.Content.TheVariants as contents
use Rattle.rule_values.specs.declared.part.Extent.{Extent}
use Rattle.rule_values.specs.declared.part.Extent.TheVariants as extents
use Rattle.rule_values.specs.declared.part.Kept.{Kept}
use Rattle.rule_values.specs.declared.part.Part.{Part}
use Rattle.schema_underlying_types.specs.declared.base.Base.{Base}
use Rattle.rule_values.specs.TableValues.{named_base, element_base, coded_shape, coded_datum, coded_each}

abbrev pub or_indeterminate : Option Datum → Datum
or_indeterminate None = indeterminate
or_indeterminate (Some d) = d

-- the elements at these indices, in order
abbrev pub picked : List ℕ → Data → Data
picked [] ds = none
picked (i ∷ is) ds = more (or_indeterminate (element_at i ds)) (picked is ds)

-- the datum of an element of an aggregate
unfoldable pub element_datum : Element → Datum
element_datum elements.Nothing = indeterminate
element_datum (elements.Instance y) = data_of.instance y
element_datum (elements.Value t b v) = coded_datum t.now b.now v

abbrev pub content_name : Content → Name
content_name (contents.Typed t w v) = word_of w
content_name c = []

abbrev pub content_inner : Content → Datum
content_inner (contents.Typed t w v) = coded_datum t.now (named_base t.now (word_of w)) v
content_inner c = indeterminate

abbrev pub content_elements : Content → Data
content_elements (contents.Typed t w v) = none
content_elements (contents.Values p t b vs) = coded_each t.now (element_base t.now b.now) vs
content_elements (contents.Instances ys) = instance_data ys.now

-- the shape of the values of an aggregate of this type, whose order matters if p
abbrev pub values_shape : Bool → Base → Shape
values_shape p b = cond p (coded_shape b) bag

abbrev pub content_shape : Content → Shape
content_shape (contents.Typed t w v) = list
content_shape (contents.Values p t b vs) = values_shape p b.now
content_shape (contents.Instances ys) = bag

abbrev pub kept_elements : Kept → Data
kept_elements k = picked k.indices.value.items (content_elements k.content)

-- the whole value
abbrev pub content_in : Extent → Content
content_in (extents.Whole c) = c
content_in (extents.Kept k) = k.value.content

abbrev pub elements_in : Extent → Data
elements_in (extents.Whole c) = content_elements c
elements_in (extents.Kept k) = kept_elements k.value

abbrev pub shape_in : Extent → Shape
shape_in (extents.Whole c) = content_shape c
shape_in (extents.Kept k) = kept_shape (content_shape k.value.content)

-- all elements, including those that a QUERY didn't keep
unfoldable pub whole_elements : Part → Data
whole_elements p = content_elements (content_in p.extent)

unfoldable pub holding : Part → Holding
holding p = record {
  name = content_name (content_in p.extent);
  inner = content_inner (content_in p.extent);
  shape = shape_in p.extent;
  elements = elements_in p.extent;
}

-- the name that a word spells; empty if there is no word
abbrev pub capitals_of : Option Word → Name
capitals_of None = []
capitals_of (Some w) = word_of w

-- what a QUERY keeps of an aggregate (ISO 10303-11, 12.6.7)
abbrev pub kept_of : Holding → Data → Holding
kept_of h ds = record { name = h.name; inner = h.inner; shape = kept_shape h.shape; elements = ds }
