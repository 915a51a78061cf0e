-- When the data sections of two exchange structures have the same headings (ISO 10303-21, 11.1).
use Rattle.std.specs.Prelude.{◌≡◌, ℕ, List, Option, Some, None, map}
use Rattle.step_literals.specs.Items.{string_items}
use Rattle.step_literals.specs.declared.literal.items.Item.{Item}
use Rattle.step_structures.specs.Trees.{File, Section}

-- the characters of the name of a section and of the name of its schema, if it has them
abbrev pub Heading : Type 0
Heading = Option (List Item × List Item)

abbrev pub heading_items : Option (List ℕ × List ℕ) → Heading
heading_items None = None
heading_items (Some h) = Some (string_items h.0, string_items h.1)

-- the headings of all sections, in order, whether or not the sections have instances
abbrev pub headings : File → List Heading
headings f = map (λ (x : Section). heading_items x.heading) f.sections

abbrev pub SameHeadings : File → File → Type 0
SameHeadings f g = headings f ≡ headings g
