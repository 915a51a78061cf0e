-- The instances of a file are laid out.
use Rattle.std.specs.Prelude.{◌≡◌, ℕ, suc, List, [], ◌∷◌, ◌++◌, map}
use Rattle.std.specs.List.{filter}
use Rattle.step_structures.specs.Trees.{Form, internal, external, ExchangeRow, Section, rows_of}
use Rattle.express_syntax.specs.Schemas.{Schema}
use Rattle.express_syntax.specs.Profile.{Every}
use Rattle.schema_semantics.proofs.Lists.{every-at, every-of}
use Rattle.conformance.specs.Bases.{Domain}
use Rattle.conformance.specs.ParameterFits.{entity_names, is_listed}
use Rattle.conformance.specs.Entities.{Entities, named_entity, types_of}
use Rattle.conformance.specs.Populations.{Instance, instance_of, instances_from, population_of}
use Rattle.conformance.specs.RecordSpellings.{IsRowSpelt}
use Rattle.conformance.specs.Conforming.{Conforms, typing_of}
use Rattle.conformance.specs.PopulationLaws.{NoFindingsExactlyWhereItConforms}
use Rattle.conformance.specs.MeaningImages.{HasPlacesOnce}
use Rattle.conformance.specs.MeaningLaws.{HasDistinctEntities}
use Rattle.conformance.proofs.Once.{files_have_places_once}
use Rattle.merge_theorems.specs.Layout.{IsLaidOut, HasKeywordsOnce}
use Rattle.merge_theorems.specs.ImageLaws.{FilesAreLaidOut}
use Rattle.merge_theorems.proofs.Listing.{filter_itself}

module _ (s : Schema) (d : Domain) (en : Entities) where
  -- the types are those entities of the schema that are among them
  abbrev HasTypes : Instance → Type 0
  HasTypes i = i.types ≡ filter (λ e. is_listed e i.types) (entity_names s)

  form_types : (f : Form) → types_of s en f ≡ filter (λ e. is_listed e (types_of s en f)) (entity_names s)
  form_types (internal r) = filter_itself (en.is_kind_of (named_entity r)) (entity_names s)
  form_types (external rs) = filter_itself (λ e. is_listed e (map named_entity rs)) (entity_names s)

  row_types : (k : ℕ) (rs : List ExchangeRow) (more : List Instance) → Every HasTypes more
      → Every HasTypes (map (instance_of s d en k) rs ++ more)
  row_types k [] more m = m
  row_types k (r ∷ rs) more m = (form_types r.form, row_types k rs more m)

  section_types : (k : ℕ) (xs : List Section) → Every HasTypes (instances_from s d en k xs)
  section_types k [] = tt
  section_types k (x ∷ xs) = row_types k x.rows (instances_from s d en (suc k) xs) (section_types (suc k) xs)

  whole : (rs : List ExchangeRow) → Every (IsRowSpelt s d en) rs → Every HasKeywordsOnce rs → Every (HasDistinctEntities s en) rs
  whole [] h k = tt
  whole (r ∷ rs) h k = ((h.0.keywords, k.0), whole rs h.1 k.1)

-- by the law of files without findings
pub files_are_laid_out : NoFindingsExactlyWhereItConforms → FilesAreLaidOut
files_are_laid_out law s d en are others f none keywords =
    let is = population_of s d en f in
    let conforms = (law s d en are others f).0 none in
    let once = files_have_places_once s d en are.resolved are.entities f
    (whole s d en (rows_of f.sections) conforms.1 keywords) in
    every-of (IsLaidOut s) is (λ i m. record {
      types = every-at (HasTypes s d en) i is (section_types s d en 0 f.sections) m;
      attributes = (every-at (Conforms s d (typing_of is) en) i is conforms.2 m).attributes;
      once = every-at HasPlacesOnce i is once m;
    })
