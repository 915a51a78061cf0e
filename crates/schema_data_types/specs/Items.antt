-- Enumeration items by name (ISO 10303-11, 8.4.1).
use Rattle.std.specs.Prelude.{Bool, ◌↔◌, IsTrue, is_some}
use Rattle.indexmap.specs.IndexMap.{get}
use Rattle.step_literals.specs.declared.literal.Word.{Word}
use Rattle.express_syntax.specs.ExpressionViews.{capitals}
use Rattle.express_syntax.specs.Schemas.{Schema}
use Rattle.schema_semantics.specs.Names.{Name}
use Rattle.schema_semantics.specs.Sets.{IsItemOf}
use Rattle.schema_names.specs.Words.{same_word}
use Rattle.schema_data_types.specs.declared.items.Items.{Items}

-- Whether the table has an item with this name.
abbrev pub has_item : Items → Word → Bool
has_item t w = is_some (get same_word t.items w)

-- The table has the items of all enumerations of the schema.
abbrev pub AreItems : Schema → Items → Type 0
AreItems s t = (w : Word) → IsTrue (has_item t w) ↔ ((n : Name) × IsItemOf s n (capitals w))
