-- What a merge writes is accepted.
use Rattle.std.specs.Prelude.{◌≡◌, ◌==◌, ℕ, Bool, true, List, [], ◌∷◌, map, length}
use Rattle.std.proofs.Common.{refl, sym, ap, subst, ◌∙◌, eq-eqb}
use Rattle.std.proofs.lemmas.List.{length-map}
use Rattle.step_structures.specs.Trees as trees
use Rattle.step_structures.specs.Trees.{File, Section, rows_of}
use Rattle.step_structures.specs.Normal.{normal_sections}
use Rattle.step_structures.proofs.Once.{reads_once}
use Rattle.step_structures.specs.MergedTexts.{merged_sections}
use Rattle.step_values.proofs.Agreement.{agree_each_refl}
use Rattle.step_values.proofs.References.{each_weaker_of}
use Rattle.value_equality.specs.Rows.{Row, names, IsName, IsPopulation, SamePopulation}
use Rattle.value_equality.specs.ValueEquality.{IsValueEquality}
use Rattle.value_equality.specs.Images.{head_of, quotient}
use Rattle.value_equality.specs.Tables.{shares, IsValid}
use Rattle.value_equality.proofs.Congruences.{value_equality_is_congruence}
use Rattle.value_equality.proofs.Heads.{same_bool}
use Rattle.value_equality.proofs.Quotients.{quotients_are_images}
use Rattle.value_equality.proofs.Rounds.{tables_decide, standard_is_valid}
use Rattle.express_syntax.specs.Schemas.{Schema}
use Rattle.conformance.specs.Choices.{MergeOptions}
use Rattle.conformance.specs.PlainRows.{AreRowsOf}
use Rattle.conformance.specs.SchemaMeanings.{Said, instances}
use Rattle.conformance.proofs.Rowed.{same_names}
use Rattle.conformance.proofs.FileNames.{names_from}
use Rattle.merge_theorems.specs.Headline.{IsMergeInput, IsMergeOf, IsLeast, IsCheckedOutput, ChecksProve}
use Rattle.step_headings.specs.Headings.{heading_items, SameHeadings}
use Rattle.shrinking.specs.declared.summary.Summary.{Summary}
use Rattle.shrinking.specs.Shrinking.{IsDone}
use Rattle.verifying.specs.Verifying.{IsAccepted, Proves}
use Rattle.shrink_verify_laws.specs.Laws.{proof_of}

-- value equality is one test
one_equality : (P : List Row) (pinned : ℕ → Bool) (E F : ℕ → ℕ → Bool) → IsValueEquality P pinned E
    → IsValueEquality P pinned F → E ≡ F
one_equality P pinned E F h k =
    λ i x z. same_bool (E x z) (F x z) (λ e. (k x z).1 ((h x z).0 e)) (λ e. (h x z).1 ((k x z).0 e)) i

same_itself : (P : List Row) → IsPopulation P → SamePopulation P P
same_itself P population = record {
  there = λ x p e. (
    p,
    e,
    record {
      same_kind = refl;
      values_agree = agree_each_refl (◌==◌) p.values
          (each_weaker_of (IsName P) (λ y. (y == y) ≡ true) (λ y n. eq-eqb y y refl) p.values
          (population.closed x p e));
    },
  );
  back = λ x n. n;
}

-- the headings of a merged structure stay
headings_stay : (h : ℕ → ℕ) (xs : List Section) → map (λ (x : Section). heading_items x.heading) xs
    ≡ map (λ (x : Section). heading_items x.heading) (normal_sections (merged_sections h xs))
headings_stay h [] = refl
headings_stay h (x ∷ xs) = ap (λ l. heading_items x.heading ∷ l) (headings_stay h xs)

-- a file has as many instances as rows
as_many : (s : Schema) (said : Said s) (f : File) (rows : List Row) → AreRowsOf s (instances s said f) rows
    → length (rows_of f.sections) ≡ length rows
as_many s said f rows are =
    sym (length-map (rows_of f.sections) (λ (r : trees.ExchangeRow). r.name))
    ∙ ap length (sym (same_names s (instances s said f) rows are
    ∙ names_from s said.domain said.entities 0 f.sections))
    ∙ length-map rows (λ (r : Row). r.name)

module _ (s : Schema) (chosen : MergeOptions) (bytes output certificate : List ℕ) (m : Summary)
    (done : IsDone s chosen bytes output certificate m) where
  module _ (said : Said s) where
    abbrev merge : IsMergeOf s said chosen bytes output
    merge = done.merged.merge said

    abbrev least : IsLeast s said chosen bytes output merge
    least = done.merged.least said

    abbrev input : IsMergeInput s said chosen bytes
    input = merge.input

    abbrev E : ℕ → ℕ → Bool
    E = merge.equal

    first_valid : IsValid input.rows input.pins.weak done.first
    first_valid = standard_is_valid input.rows input.pins.weak done.first (done.certified.first_is said)

    second_valid : IsValid input.rows input.pinned done.second
    second_valid = standard_is_valid input.rows input.pinned done.second (done.certified.second_is said)

    classes_are : input.pins.classes ≡ shares done.first done.first.rounds
    classes_are = one_equality input.rows input.pins.weak input.pins.classes (shares done.first done.first.rounds)
        input.pins.are_classes
        (tables_decide input.rows input.pins.weak done.first input.population first_valid)

    equal_is : E ≡ shares done.second done.second.rounds
    equal_is = one_equality input.rows input.pinned E (shares done.second done.second.rounds) merge.equality
        (tables_decide input.rows input.pinned done.second input.population second_valid)

    merged_population : IsPopulation (quotient input.rows E)
    merged_population = (quotients_are_images input.rows input.pinned E input.population
        (value_equality_is_congruence input.rows input.pinned E input.population merge.equality)).1

    checked : IsCheckedOutput s said chosen bytes output
    checked = record {
      input = input;
      header_bytes = input.header_bytes;
      file = least.file;
      reads = least.reads;
      nothing = least.conforms.nothing;
      rows = quotient input.rows E;
      are_rows = least.rows;
      population = merged_population;
      first = done.first;
      second = done.second;
      first_valid = first_valid;
      gentle = classes_are;
      second_valid = second_valid;
      same = subst (λ F. SamePopulation (quotient input.rows E) (quotient input.rows F)) equal_is
          (same_itself (quotient input.rows E) merged_population);
    }

    accepted : ChecksProve → IsAccepted s said chosen bytes output done.first done.second (proof_of m)
    unfolding checked
    accepted law =
        let told = done.reported in
        let one = reads_once bytes told.has_file.header_bytes input.header_bytes told.file input.file
        told.has_file.reads input.reads in
        record {
          checked = checked;
          first_is = refl;
          second_is = refl;
          headings = subst (SameHeadings input.file) (sym least.is_merged)
              (headings_stay (head_of (names input.rows) E) input.file.sections);
          proved = law s said chosen bytes output checked;
          instances = told.report.instances ∙ ap (λ (f : File). length (rows_of f.sections)) one.1
              ∙ as_many s said input.file input.rows input.are_rows;
          kept = told.kept said ∙ as_many s said least.file (quotient input.rows E) least.rows;
          rounds = told.rounds;
        }

  pub proves : ChecksProve → Proves s chosen bytes output certificate (proof_of m)
  proves law = record {
    first = done.first;
    second = done.second;
    certificate_is = done.certified.certificate_is;
    some = done.merged.some_said;
    accepted = λ said. accepted said law;
  }
