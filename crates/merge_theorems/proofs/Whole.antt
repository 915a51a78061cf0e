-- A file that is merged under gentle pins conforms, and is a least image.
use Rattle.std.specs.Prelude.{◌≡◌, ◌≤◌, ℕ, suc, Bool, List, [], ◌∷◌, length, map}
use Rattle.std.proofs.Common.{refl, sym, subst, ◌∙◌, inl, arith, length-append}
use Rattle.std.proofs.lemmas.List.{length-map}
use Rattle.step_structures.specs.Trees.{File, Section, rows_of}
use Rattle.value_equality.specs.Rows.{Row, names, IsPopulation, BagsArePinned}
use Rattle.value_equality.specs.ValueEquality.{IsCongruence}
use Rattle.value_equality.specs.Images.{IsImage, head_of, quotient}
use Rattle.value_equality.proofs.Quotients.{quotients_are_images}
use Rattle.value_equality.proofs.Counting.{no_image_has_fewer}
use Rattle.conformance.specs.Choices.{MergeOptions}
use Rattle.conformance.specs.PlainRows.{AreRowsOf}
use Rattle.express_syntax.specs.Schemas.{Schema}
use Rattle.express_syntax.specs.Profile.{Every}
use Rattle.conformance.specs.Populations.{Instance, instance_of, instances_from, population_of}
use Rattle.conformance.specs.PopulationLaws.{AreOf, ImagesConform, NoFindingsExactlyWhereItConforms}
use Rattle.conformance.proofs.Rowed.{bags_of_rows_are_pinned}
use Rattle.merge_theorems.specs.Layout.{IsLaidOut}
use Rattle.merge_theorems.specs.Images.{MapsRows}
use Rattle.merge_theorems.proofs.Keywords.{keywords_stand_once}
use Rattle.merge_theorems.proofs.Filed.{files_are_laid_out}
use Rattle.merge_theorems.proofs.Conforming.{images_of_rows_conform}
use Rattle.conformance.specs.SchemaMeanings.{Said, instances, FileConforms}
use Rattle.merge_theorems.specs.FilePins.{ArePins}
use Rattle.merge_theorems.specs.MergedPopulations.{merged_rows}
use Rattle.merge_theorems.specs.MergedFileLaws.{MergedPopulationsAreLed, AreRowsOfFile, merged_by, MergedFilesConform, MergedFilesAreLeast}
use Rattle.merge_theorems.proofs.Instances.{population_merged}
use Rattle.merge_theorems.proofs.RowsLed.{rows_led, laid_out}
use Rattle.merge_theorems.proofs.Written.{all_spelt, schema_named}

pub merged_populations_are_led : MergedPopulationsAreLed
merged_populations_are_led s d en h f =
    let is = population_of s d en f in
    let same = population_merged h s d en f in
    (same, λ P are. subst (λ js. AreRowsOf s js (merged_rows h P)) (sym same) (rows_led h s is P are))

module _ (s : Schema) (said : Said s) (chosen : MergeOptions) (f : File) (P : List Row) (pinned : ℕ → Bool)
    (file : AreRowsOfFile s said chosen.other_names f P) (pins : ArePins s said chosen (instances s said f) P pinned) where
  abbrev is : List Instance
  is = instances s said f

  pub are_of : AreOf s said.domain said.entities
  are_of = record { resolved = said.resolved; domain = said.is_domain; entities = said.are_entities }

  pub bags : BagsArePinned P pinned
  bags =
      bags_of_rows_are_pinned s said.domain said.entities said.rules chosen is P pinned file.rows
      (λ y w. (pins.are_gentle y).1 (inl w))

  module _ (law : NoFindingsExactlyWhereItConforms) where
    pub laid : Every (IsLaidOut s) is
    laid = files_are_laid_out law s said.domain said.entities are_of chosen.other_names f file.conforms.nothing
        (keywords_stand_once f file.fits)

    module _ (F : ℕ → ℕ → Bool) (congruence : IsCongruence P pinned F) where
      abbrev h : ℕ → ℕ
      h = head_of (names P) F

      abbrev g : File
      g = merged_by P F f

      pub image : IsImage P (quotient P F) h pinned × IsPopulation (quotient P F)
      image = quotients_are_images P pinned F file.population congruence

      pub led : AreRowsOf s (instances s said g) (quotient P F)
      led = (merged_populations_are_led s said.domain said.entities h f).1 P file.rows

      laid_again : Every (IsLaidOut s) (instances s said g)
      laid_again = subst (Every (IsLaidOut s)) (sym (population_merged h s said.domain said.entities f))
          (laid_out h s is laid)

      pub maps : MapsRows s is (instances s said g) P (quotient P F) h pinned
      maps = record {
        laid_out = laid;
        image_laid_out = laid_again;
        rows = file.rows;
        image_rows = led;
        population = file.population;
        image_population = image.1;
        image = image.0;
      }

      pub conforms : ImagesConform → FileConforms s said chosen.other_names g
      conforms images =
          let whole = (law s said.domain said.entities are_of chosen.other_names f).0 file.conforms.nothing in
          let all = images_of_rows_conform images s said.domain said.entities said.rules chosen said.attributes
          said.are_attributes said.conditions is (instances s said g) P (quotient P F) h pins.weak pinned pins.classes
          maps (λ y. (pins.are_weak y).0) pins.are_classes (λ y. (pins.are_gentle y).1) whole.2 file.conforms.unique
          file.conforms.bounded file.conforms.holds in
          record {
            nothing = (law s said.domain said.entities are_of chosen.other_names g).1 (
              schema_named h s chosen.other_names f ∙ whole.0,
              all_spelt h s said.domain said.entities f.sections whole.1,
              all.0,
            );
            holds = all.3;
            unique = all.1;
            bounded = all.2;
          }

pub merged_files_conform : ImagesConform → NoFindingsExactlyWhereItConforms → MergedFilesConform
merged_files_conform images law s said chosen f P pinned F file pins congruence = (
  conforms s said chosen f P pinned file pins law F congruence images,
  led s said chosen f P pinned file pins law F congruence,
  (image s said chosen f P pinned file pins law F congruence).0,
  (image s said chosen f P pinned file pins law F congruence).1,
)

-- as many instances as rows
module _ (s : Schema) where
  as_many : (is : List Instance) (P : List Row) → AreRowsOf s is P → length is ≡ length P
  as_many [] [] are = refl
  as_many [] (r ∷ P) are = absurd are
  as_many (i ∷ is) [] are = absurd are
  as_many (i ∷ is) (r ∷ P) are = let rest = as_many is P are.1 in omega (arith, rest)

many_instances : (s : Schema) (said : Said s) (k : ℕ) (xs : List Section)
    → length (instances_from s said.domain said.entities k xs) ≡ length (rows_of xs)
many_instances s said k [] = refl
many_instances s said k (x ∷ xs) =
    let rest = many_instances s said (suc k) xs in
    let own = length-map x.rows (instance_of s said.domain said.entities k) in
    omega (
      arith,
      rest,
      own,
      length-append (map (instance_of s said.domain said.entities k) x.rows)
          (instances_from s said.domain said.entities (suc k) xs),
      length-append x.rows (rows_of xs),
    )

pub merged_files_are_least : MergedFilesAreLeast
merged_files_are_least s said chosen f P pinned F file pins equality =
    let pinned_bags = bags s said chosen f P pinned file pins in
    let g = merged_by P F f in
    let many : length (rows_of g.sections) ≡ length (quotient P F) =
    sym (many_instances s said 0 g.sections)
    ∙ as_many s (instances s said g) (quotient P F)
    ((merged_populations_are_led s said.domain said.entities (head_of (names P) F) f).1 P file.rows) in (
      pinned_bags,
      many,
      λ Q k image. subst (λ n. n ≤ length Q) (sym many)
          (no_image_has_fewer P Q pinned F k file.population pinned_bags equality image),
    )
