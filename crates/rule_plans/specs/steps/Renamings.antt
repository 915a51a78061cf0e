-- Which defined types are defined by which, as a forest.
use Rattle.std.specs.Prelude.{◌≡◌, ℕ, ◌<◌, List, [], ◌∷◌, Option, None, Some, length, ◌↔◌, IsTrue}
use Rattle.graphs.specs.Graphs.{Graph, next}
use Rattle.express_syntax.specs.Schemas.{Schema, named}
use Rattle.schema_semantics.specs.Names.{IsOrLeads, Renames}
use Rattle.schema_names.specs.Numbers.{HasNumber}
use Rattle.schema_underlying_types.specs.BaseViews.{name_at}
use Rattle.schema_attribute_sources.specs.steps.Defined.{renamed_at}
use Rattle.graphs.specs.declared.forest.Forest.{Forest}
use Rattle.graphs.specs.steps.Telling.{is_under}

abbrev pub as_row : Option ℕ → List ℕ
as_row None = []
as_row (Some j) = j ∷ []

-- Each declaration has an edge to the one by which it is defined, if any.
pub record AreRenamings (s : Schema) (g : Graph) : Type 0 where
  pub many : length g ≡ length s.declarations
  pub each : (i : ℕ) → i < length s.declarations → next g i ≡ as_row (renamed_at s i)

-- the type i is the type t, or is defined by it
abbrev pub IsDefinedBy : Schema → ℕ → ℕ → Type 0
IsDefinedBy s i t = IsOrLeads (Renames s) (named (name_at s i)) (named (name_at s t))

-- The forest has a path from one type to another if and only if the one is the other or is defined by it.
abbrev pub TellsTypes : Schema → Forest → Type 0
TellsTypes s f =
    (i t : ℕ) → HasNumber s (name_at s i) i → HasNumber s (name_at s t) t
    → IsTrue (is_under f i t) ↔ IsDefinedBy s i t
