-- What references lead to, by the rows of a file.
use Rattle.std.specs.Prelude.{◌≡◌, ℕ, zero, suc, ◌==◌, Bool, true, false, cond, List, [], ◌∷◌, map, Option, None, Some, slice_get}
use Rattle.std.specs.Option.{option_map}
use Rattle.std.proofs.Common.{refl, sym, ap, ◌∙◌}
use Rattle.graphs.specs.Graphs.{Graph, graph_of}
use Rattle.express_syntax.specs.Schemas.{Schema}
use Rattle.step_structures.specs.Trees.{ExchangeRow}
use Rattle.step_structures.specs.Trees as trees
use Rattle.population_rows.specs.Index.{place_of, found}
use Rattle.schema_underlying_types.specs.BaseViews.{name_at, or_empty}
use Rattle.conformance.specs.Bases.{Domain}
use Rattle.conformance.specs.Entities.{Entities, records, types_of}
use Rattle.conformance.specs.ParameterFits.{Target, absent, unknown, of_types}
use Rattle.conformance.specs.Findings.{target_form, target_in}
use Rattle.population_rows.specs.declared.form.Form.{Form}
use Rattle.parameter_fits.specs.declared.targets.Targets.{Targets}
use Rattle.parameter_fits.specs.steps.Targets.{of_form, of_row, of_found, target_of}
use Rattle.population_findings.specs.steps.Keywords.{are_entities}
use Rattle.population_findings.specs.steps.Rows.{HasFormAmong, HaveForms}
use Rattle.population_rows.specs.declared.rows.Rows.{Rows}

mapped-at : (xs : List Form) (n : ℕ) (x : Form) → slice_get xs n ≡ Some x
    → slice_get (map (λ (y : Form). y.types.items) xs) n ≡ Some x.types.items
mapped-at [] n x e = absurd (cc)
mapped-at (y ∷ xs) zero x e = let same : y ≡ x = cc in ap (λ (z : Form). Some z.types.items) same
mapped-at (y ∷ xs) (suc n) x e = mapped-at xs n x e

module _ (s : Schema) (d : Domain) (en : Entities) (t : Rows) (targets : Targets)
    (types : map (λ (x : Form). x.types.items) t.forms.items ≡ graph_of targets.types.now) where
  form-target : (f : trees.Form) (o : Option ℕ) → HasFormAmong s en t.forms.items f o
      → of_form s targets o ≡ target_form s d en f
  form-target f None h = by (are_entities s (records f)) h
    where
      by : (b : Bool) → (b ≡ true → ⊥) → unknown ≡ cond b (of_types (types_of s en f)) unknown
      by true h = absurd (h refl)
      by false h = refl
  form-target f (Some n) (entities, x, at, is) =
      ap (λ o. of_types (map (name_at s) (or_empty o)))
      (ap (λ (g : Graph). slice_get g n) (sym types) ∙ mapped-at t.forms.items n x at)
      ∙ ap of_types is.types
      ∙ ap (λ b. cond b (of_types (types_of s en f)) unknown) (sym entities)

  -- by the place of a name
  row-target : List (Option ℕ) → Option ℕ → Target
  row-target os None = absent
  row-target os (Some r) = of_row s targets (slice_get os r)

  behind-first : (o : Option ℕ) (os : List (Option ℕ)) (p : Option ℕ)
      → row-target (o ∷ os) (option_map suc p) ≡ row-target os p
  unfolding row-target
  behind-first o os None = refl
  behind-first o os (Some r) = refl

  by-place : (rs : List ExchangeRow) (os : List (Option ℕ)) → HaveForms s en t rs os → (y : ℕ)
      → row-target os (place_of (map (λ (r : ExchangeRow). r.name) rs) y) ≡ target_in s d en rs y
  unfolding row-target
  by-place [] [] h y = refl
  by-place [] (o ∷ os) h y = absurd h
  by-place (r ∷ rs) [] h y = absurd h
  by-place (r ∷ rs) (o ∷ os) h y = by (r.name == y) (by-place rs os h.1 y)
    where
      by : (b : Bool) → row-target os (place_of (map (λ (q : ExchangeRow). q.name) rs) y) ≡ target_in s d en rs y
          → row-target (o ∷ os) (cond b (Some 0) (option_map suc (place_of (map (λ (q : ExchangeRow). q.name) rs) y)))
          ≡ cond b (target_form s d en r.form) (target_in s d en rs y)
      by true more = form-target r.form o h.0
      by false more = behind-first o os (place_of (map (λ (q : ExchangeRow). q.name) rs) y) ∙ more

  is-found : (p : Option ℕ) → of_found s targets p ≡ row-target targets.forms.now p
  unfolding row-target
  is-found None = refl
  is-found (Some r) = refl

  pub target-is : (rs : List ExchangeRow) → HaveForms s en t rs t.form_of.items
      → ((y : ℕ) → found targets.index.now y ≡ place_of (map (λ (r : ExchangeRow). r.name) rs) y)
      → targets.forms.now ≡ t.form_of.items → target_of s targets ≡ target_in s d en rs
  target-is rs h index forms =
      λ i y. (ap (of_found s targets) (index y) ∙ is-found (place_of (map (λ (r : ExchangeRow). r.name) rs) y)
      ∙ ap (λ os. row-target os (place_of (map (λ (r : ExchangeRow). r.name) rs) y)) forms
      ∙ by-place rs t.form_of.items h y) i
