-- The byte offsets of the declarations of a schema, and of the passages of those that are skipped.
use Rattle.std.specs.Prelude.{◌≡◌, ℕ, List, [], ◌∷◌}
use Rattle.express_syntax.specs.Words.{Word}
use Rattle.express_syntax.specs.declared.tree.Declaration.{Declaration}
use Rattle.express_syntax.specs.declared.tree.Declaration.TheVariants as declarations
use Rattle.express_syntax.specs.declared.tree.SchemaTree.{SchemaTree}
use Rattle.express_syntax.specs.WrittenSchemas.{words_of_declaration, words_of_opening}
use Rattle.express_syntax.specs.Passages.{StandsBehind}
use Rattle.express_syntax.specs.Views.{declaration_of}
use Rattle.express_syntax.specs.SchemaViews.{schema_of}
use Rattle.express_syntax.specs.Sources.{IsSkippedAt}

-- the passage of a skipped declaration follows this offset, which is after the declaration's first
-- word
abbrev pub IsDeclarationAt : List ℕ → ℕ → Declaration → Type 0
IsDeclarationAt text place (declarations.Skipped s) = IsSkippedAt text place s
IsDeclarationAt text place _ = Unit {0}

-- Declarations follow one another between two offsets, and the passage of each that is skipped
-- follows its first word.
abbrev pub AreDeclarationsAt : List ℕ → ℕ → List Declaration → ℕ → Type 0
AreDeclarationsAt text from [] to = from ≡ to
AreDeclarationsAt text from (d ∷ ds) to =
    (w : Word) × (behind : ℕ) × StandsBehind text from (w ∷ []) behind × IsDeclarationAt text behind d × (next : ℕ)
    × StandsBehind text from (words_of_declaration (declaration_of d)) next × AreDeclarationsAt text next ds to

-- the declarations of a schema that begins after this offset follow its opening
abbrev pub IsSchemaAt : List ℕ → ℕ → SchemaTree → Type 0
IsSchemaAt text place x = (from : ℕ) × (to : ℕ) × StandsBehind text place (words_of_opening (schema_of x)) from
    × AreDeclarationsAt text from x.declarations.items to
