-- Where the values of sources stand.
use Rattle.std.specs.Prelude.{◌≡◌, ℕ, List, Option, None, Some}
use Rattle.std.proofs.Common.{refl, ap, ◌∙◌}
use Rattle.population_rows.specs.declared.form.SlotForm.{SlotForm}
use Rattle.population_rows.specs.declared.index.RowIndex.{RowIndex}
use Rattle.population_rows.specs.Index.{found}
use Rattle.population_rows.specs.steps.Positions.{ArePositions}
use Rattle.schema_attribute_sources.specs.declared.source.Source.{Source}
use Rattle.schema_attribute_sources.specs.declared.source.Source.TheVariants.{Explicit, Derived, Inverse, Unclear}
use Rattle.typed_populations.specs.ValueOrder.{position_among}
use Rattle.rule_sources.specs.declared.sources.FormSource.TheVariants as at
use Rattle.rule_sources.specs.Sources.{source_in, explicit_at, form_source}

-- it is the source that it was
pub source-kept : (slots : List SlotForm) (x : Source) → source_in (form_source slots x) ≡ x
source-kept slots (Explicit place) = by (position_among slots place)
  where
    by : (o : Option ℕ) → source_in (explicit_at place o) ≡ Explicit place
    by None = refl
    by (Some position) = refl
source-kept slots (Derived d) = refl
source-kept slots (Inverse i) = refl
source-kept slots Unclear = refl

-- a source that is no explicit attribute
pub other-kept : (slots : List SlotForm) (x : Source) → ((place : ℕ) → x ≡ Explicit place → ⊥)
    → at.Other x ≡ form_source slots x
other-kept slots (Explicit place) none = absurd (none place refl)
other-kept slots (Derived d) none = refl
other-kept slots (Inverse i) none = refl
other-kept slots Unclear none = refl

-- an index tells the position
pub position-told : (slots : List SlotForm) (t : RowIndex) (place : ℕ) (o : Option ℕ) → ArePositions slots t
    → o ≡ found t place → explicit_at place o ≡ form_source slots (Explicit place)
position-told slots t place o are e = ap (explicit_at place) (e ∙ are place)

-- the explicit attribute of a place stands at its position
pub position-kept : (slots : List SlotForm) (place position : ℕ)
    → at.Explicit place position ≡ form_source slots (Explicit place) → position_among slots place ≡ Some position
position-kept slots place position e = by (position_among slots place) e
  where
    by : (o : Option ℕ) → at.Explicit place position ≡ explicit_at place o → o ≡ Some position
    by None h = absurd (cc)
    by (Some i) h = cc
