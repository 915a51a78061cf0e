-- What the tables of a file, of which nothing is found, come to.
use Rattle.std.specs.Prelude.{◌≡◌, ◌≤◌, ◌<◌, ◌^◌, ℕ, Bool, List, [], ◌∷◌, length, map, All}
use Rattle.std.specs.List.{AllByRecursion}
use Rattle.std.proofs.Common.{refl, sym, ap, subst, ◌∙◌, arith}
use Rattle.std.proofs.lemmas.List.{length-map}
use Rattle.std.proofs.lemmas.List.Elements.{All-nil, All-cons}
use Rattle.step_structures.specs.Trees as trees
use Rattle.step_structures.specs.Trees.{File, rows_of}
use Rattle.step_structures.specs.Texts.{ReadsAs}
use Rattle.step_exchange.specs.Exchanges.{structure}
use Rattle.step_exchange.specs.declared.structure.Exchange.{Exchange}
use Rattle.step_exchange.proofs.Named.{names-are, few}
use Rattle.value_equality.specs.Rows.{Row, names}
use Rattle.value_equality.specs.Images.{head_of}
use Rattle.value_equality.specs.Tables.{Table, shares}
use Rattle.value_equality.specs.Standard.{IsStandard}
use Rattle.value_equality.proofs.Rounds.{standard_is_valid, tables_decide}
use Rattle.value_equality.proofs.Few.{rounds_are_few}
use Rattle.express_syntax.specs.Schemas.{Schema}
use Rattle.schema_semantics.specs.Names.{Name}
use Rattle.conformance.specs.Choices.{MergeOptions}
use Rattle.conformance.specs.declared.finding.Finding.{Finding}
use Rattle.conformance.specs.SchemaMeanings.{Said}
use Rattle.schema_constraints.specs.declared.finding.RuleFinding.{RuleFinding}
use Rattle.file_findings.specs.Findings.{AreFindings, ConformsWhereNothingIsFound}
use Rattle.step_structures.specs.MergedTexts.{merged_text}
use Rattle.step_structures.proofs.Bounded.{names_within}
use Rattle.merge_theorems.specs.Headline.{IsMergeInput, IsMergeOf, MergesAreLeast}
use Rattle.merge_theorems.proofs.Headed.{file_names, of_file}
use Rattle.merge_theorems.proofs.Whole.{merged_files_are_least}
use Rattle.merge_tables.specs.steps.Merges.{AreTablesOf}
use Rattle.merge_output.specs.steps.Rewriting.{smaller_text}
use Rattle.certificate_text.specs.Texts.{certificate_text, IsHeld}
use Rattle.checking.specs.Reporting.{IsReport}
use Rattle.shrinking.specs.Shrinking.{IsClean, IsMergedFile, IsCertified, IsDone}
use Rattle.shrinking.specs.declared.summary.Summary.{Summary}
use Rattle.shrinking.proofs.Counted.{classes_counted, classes_few}

-- the names of members, within limits
members_within : (ms : List (ℕ × ℕ)) → AllByRecursion (λ n. n < 2 ^ 64) (map (λ m. m.0) ms) → All (λ m. m.0 < 2 ^ 64) ms
members_within [] h = All-nil (λ (m : ℕ × ℕ). m.0 < 2 ^ 64)
members_within (m ∷ ms) h = All-cons (λ (m : ℕ × ℕ). m.0 < 2 ^ 64) m ms h.0 (members_within ms h.1)

-- as many instances as names
pub as_many : (x : Exchange) (n : ℕ) → n ≡ length x.names → n ≡ length (rows_of (structure x).sections)
as_many x n e =
    e ∙ ap length (sym (names-are x)) ∙ length-map (rows_of (structure x).sections) (λ (r : trees.ExchangeRow). r.name)

pub same_findings : (s : Schema) (others : List Name) (f : File) (fs : List Finding) (gs : List RuleFinding) (n unknown : ℕ) → fs ≡ []
    → gs ≡ [] → n ≡ unknown → AreFindings s others f [] [] unknown
    → AreFindings s others f fs gs n
same_findings s others f fs gs n unknown none no_rules same found =
    subst (λ l. AreFindings s others f l gs n) (sym none)
    (subst (λ l. AreFindings s others f [] l n) (sym no_rules)
    (subst (λ k. AreFindings s others f [] [] k) (sym same) found))

-- a file of which nothing is found, and its tables
pub record IsTabled (s : Schema) (chosen : MergeOptions) (bytes : List ℕ) (x : Exchange) (unknown : ℕ) (first second : Table)
    : Type 0 where
  pub reads : ReadsAs bytes x.header_bytes.now (structure x)
  pub found : AreFindings s chosen.other_names (structure x) [] [] unknown
  pub tables : (said : Said s) → AreTablesOf s said chosen (structure x) first second

module _ (s : Schema) (chosen : MergeOptions) (bytes : List ℕ) (x : Exchange) (unknown : ℕ) (first second : Table)
    (conforming : ConformsWhereNothingIsFound) (least : MergesAreLeast)
    (tabled : IsTabled s chosen bytes x unknown first second) where
  input : (said : Said s) → IsMergeInput s said chosen bytes
  input said =
      let t = tabled.tables said in
      record {
        header_bytes = x.header_bytes.now;
        file = structure x;
        reads = tabled.reads;
        conforms = (conforming s said chosen.other_names (structure x) [] [] unknown tabled.found).0 (refl, refl);
        rows = t.rows;
        are_rows = t.are_rows;
        population = t.population;
        pinned = t.pinned;
        pins = t.pins;
      }

  merge : (said : Said s) → IsMergeOf s said chosen bytes (smaller_text x second)
  unfolding input
  merge said =
      let t = tabled.tables said in
      record {
        input = input said;
        equal = shares second second.rounds;
        equality = tables_decide t.rows t.pinned second t.population
            (standard_is_valid t.rows t.pinned second t.second_is);
        output_is = ap (λ ys. merged_text (head_of ys (shares second second.rounds)) x.header_bytes.now
            (structure x).sections) t.second_is.members;
      }

  merged : IsMergedFile s chosen bytes (smaller_text x second)
  merged = record {
    some_said = tabled.found.0;
    merge = merge;
    least = λ said. least s said chosen bytes (smaller_text x second) (merge said);
  }

  -- as many rows as names
  rows_many : (said : Said s) → length (tabled.tables said).rows ≡ length (rows_of (structure x).sections)
  unfolding input
  rows_many said =
      let t = tabled.tables said in
      sym (length-map t.rows (λ (r : Row). r.name)) ∙ ap length (file_names s said chosen bytes (input said))
      ∙ length-map (rows_of (structure x).sections) (λ (r : trees.ExchangeRow). r.name)

  rows_few : (said : Said s) → length (tabled.tables said).rows < 2 ^ 32
  rows_few said =
      let short : length x.names < 2 ^ 32 = few x in
      let all : length x.names ≡ length (rows_of (structure x).sections) = as_many x (length x.names) refl in
      omega (arith, short, all, rows_many said)

  held : (said : Said s) (pinned : ℕ → Bool) (t : Table) → IsStandard (tabled.tables said).rows pinned t → IsHeld t
  unfolding input
  held said pinned t standard =
      let rows = (tabled.tables said).rows in
      let population = (tabled.tables said).population in
      let short : length rows < 2 ^ 32 = rows_few said in
      let rounds : t.rounds ≤ length rows = rounds_are_few rows pinned t population standard in
      let classes : length t.classes ≤ length rows = classes_few rows pinned t population standard in
      record {
        well_formed = standard.well_formed;
        few_rounds = omega (arith, short, rounds);
        few_classes = omega (arith, short, classes);
        names = members_within t.members (subst (AllByRecursion (λ n. n < 2 ^ 64))
            (sym (standard.members ∙ file_names s said chosen bytes (input said)))
            (names_within bytes x.header_bytes.now (structure x) tabled.reads));
      }

  certified : IsCertified s chosen bytes (smaller_text x second) merged first second (certificate_text first second)
  unfolding input merge merged
  certified =
      let said : Said s = tabled.found.0 in
      let t = tabled.tables said in
      record {
        first_is = λ said. (tabled.tables said).first_is;
        second_is = λ said. (tabled.tables said).second_is;
        certificate_is = record {
          first_held = held said t.pins.weak first t.first_is;
          second_held = held said t.pinned second t.second_is;
          text_is = refl;
        };
      }

  kept_rows : (said : Said s) → length second.classes ≡ length (rows_of (merged.least said).file.sections)
  unfolding input merge merged
  kept_rows said =
      let t = tabled.tables said in
      let small = merged_files_are_least s said chosen (structure x) t.rows t.pinned (shares second second.rounds)
      (of_file s said chosen bytes (input said)) t.pins (merge said).equality in
      sym (classes_counted t.rows t.pinned second t.population t.second_is) ∙ sym small.1
      ∙ sym (ap (λ (f : File). length (rows_of f.sections)) (merged.least said).is_merged)

  -- all of what is done
  pub done : length bytes ≤ 2 ^ 40 → (m : Summary)
      → IsReport s chosen.other_names (structure x) m.report → IsClean m.report
      → m.kept ≡ length second.classes → m.rounds ≡ second.rounds
      → IsDone s chosen bytes (smaller_text x second) (certificate_text first second) m
  unfolding input merge merged
  done within m report clean kept rounds =
      let said : Said s = tabled.found.0 in
      let t = tabled.tables said in
      let many = rows_many said in
      let ones = rounds_are_few t.rows t.pins.weak first t.population t.first_is in
      let twos = rounds_are_few t.rows t.pinned second t.population t.second_is in
      record {
        merged = merged;
        first = first;
        second = second;
        certified = certified;
        reported = record {
          file = structure x;
          has_file = record {
            within = within;
            header_bytes = x.header_bytes.now;
            reads = tabled.reads;
          };
          report = report;
          clean = clean;
          kept = λ other. kept ∙ kept_rows other;
          rounds = rounds;
          first_few = omega (arith, ones, many, report.instances);
          second_few = omega (arith, twos, many, report.instances);
        };
      }
