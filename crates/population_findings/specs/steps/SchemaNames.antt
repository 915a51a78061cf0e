-- The schema names in an exchange structure.
use Rattle.std.specs.Prelude.{◌≡◌, ℕ, ◌==◌, ◌&&◌, not, Bool, List, [], ◌∷◌, Option, None, Some, length, map, bytes_eq}
use Rattle.std.specs.List.{list_all, take_while}
use Rattle.std.specs.Char.{to_ascii_uppercase}
use Rattle.step_literals.specs.Words.{upper}
use Rattle.step_literals.specs.declared.literal.items.Item.{Item}
use Rattle.step_literals.specs.declared.literal.Text.{Text}
use Rattle.step_structures.specs.Trees.{Tree, Record, File}
use Rattle.step_structures.specs.Trees as trees
use Rattle.step_exchange.specs.declared.section.Section.{Section}
use Rattle.step_exchange.specs.Sections.{heading_of}
use Rattle.schema_semantics.specs.Names.{Name}
use Rattle.express_syntax.specs.declared.tree.SchemaTree.{SchemaTree}
use Rattle.express_syntax.specs.SchemaViews.{schema_of}
use Rattle.conformance.specs.OtherNames.{other_names}
use Rattle.conformance.specs.Findings.{code_of, ends_name, or_zero, schema_text, heading_names, file_names}

-- the character belongs to a name and is the letter b, in either case
abbrev pub is_next : Item → ℕ → Bool
is_next x b = not (ends_name (code_of x)) && to_ascii_uppercase (or_zero (code_of x)) == to_ascii_uppercase b

-- the characters up to the one that ends the name spell this name, in any case
abbrev pub names_so : List ℕ → List Item → Bool
names_so name xs = bytes_eq (upper (map or_zero (take_while (λ c. not (ends_name c)) (map code_of xs)))) (upper name)

abbrev pub IsAlone : List Tree → Option Tree → Type 0
IsAlone xs None = length xs ≡ 1 → ⊥
IsAlone xs (Some x) = xs ≡ x ∷ []

-- the string with the schema's name, if any
abbrev pub IsSchemaText : List Record → Option Text → Type 0
IsSchemaText rs None = schema_text rs ≡ []
IsSchemaText rs (Some t) = schema_text rs ≡ t.text.now

abbrev pub headings_name : List Name → List Section → Bool
headings_name names ss = list_all (λ (x : Section). heading_names names (heading_of x.heading)) ss

-- the names by which a file may call the schema
abbrev pub names_in_files : SchemaTree → List Name
names_in_files x = file_names (schema_of x) (other_names x)
