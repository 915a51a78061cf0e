-- The table of the instances of a file.
use Rattle.std.specs.Prelude.{◌≡◌, ℕ, true, List, [], ◌∷◌, Option, None, Some, map, slice_get}
use Rattle.graphs.specs.Graphs.{Graph, graph_of}
use Rattle.express_syntax.specs.Schemas.{Schema}
use Rattle.express_syntax.specs.Profile.{Every}
use Rattle.step_structures.specs.Trees as trees
use Rattle.step_structures.specs.Trees.{ExchangeRow, rows_of}
use Rattle.step_exchange.specs.Exchanges.{structure}
use Rattle.step_exchange.specs.declared.structure.Exchange.{Exchange}
use Rattle.schema_names.specs.Numbers.{HasNumber}
use Rattle.schema_underlying_types.specs.BaseViews.{name_at}
use Rattle.conformance.specs.Entities.{Entities, records}
use Rattle.population_rows.specs.Index.{place_of, found}
use Rattle.population_rows.specs.declared.form.Form.{Form}
use Rattle.population_forms.specs.steps.Forms.{IsFormOf}
use Rattle.population_findings.specs.steps.Keywords.{are_entities}
use Rattle.population_rows.specs.declared.rows.Rows.{Rows}

-- the instances of a file, in order
abbrev pub rows_in : Exchange → List ExchangeRow
rows_in x = rows_of (structure x).sections

-- all keywords of an instance are entities
abbrev pub HasTypes : Schema → trees.Form → Type 0
HasTypes s f = are_entities s (records f) ≡ true

-- n is the number of the form of an instance, or None if one of its keywords isn't an entity
abbrev pub HasFormAmong : Schema → Entities → List Form → trees.Form → Option ℕ → Type 0
HasFormAmong s en all f None = HasTypes s f → ⊥
HasFormAmong s en all f (Some n) = HasTypes s f × (x : Form) × (slice_get all n ≡ Some x) × IsFormOf s en f x

module _ (s : Schema) (en : Entities) (t : Rows) where
  abbrev pub HasForm : ExchangeRow → Option ℕ → Type 0
  HasForm r n = HasFormAmong s en t.forms.items r.form n

  abbrev pub HaveForms : List ExchangeRow → List (Option ℕ) → Type 0
  HaveForms [] [] = Unit {0}
  HaveForms (r ∷ rs) (f ∷ fs) = HasForm r f × HaveForms rs fs
  HaveForms rs fs = ⊥

-- each number is that of the declaration with the name at it
abbrev pub AreNumbered : Schema → Graph → Type 0
AreNumbered s rows = Every (λ row. Every (λ i. HasNumber s (name_at s i) i) row) rows

-- The table describes these instances, row by row.
pub record AreRowsOf (s : Schema) (en : Entities) (rs : List ExchangeRow) (t : Rows) : Type 0 where
  pub index : (y : ℕ) → found t.index y ≡ place_of (map (λ (r : ExchangeRow). r.name) rs) y
  pub forms : HaveForms s en t rs t.form_of.items
  pub types : map (λ (x : Form). x.types.items) t.forms.items ≡ graph_of t.types.items
  pub numbered : AreNumbered s (graph_of t.types.items)
