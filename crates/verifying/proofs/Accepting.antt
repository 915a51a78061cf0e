-- Where both tables hold and the output is the image that they give, that is proved of it.
use Rattle.std.specs.Prelude.{◌≡◌, ℕ, List, length}
use Rattle.std.proofs.Common.{refl}
use Rattle.step_structures.specs.Trees.{File}
use Rattle.value_equality.specs.Rows.{Row}
use Rattle.value_equality.specs.Tables.{shares}
use Rattle.value_equality.proofs.Rounds.{tables_decide}
use Rattle.express_syntax.specs.Schemas.{Schema}
use Rattle.conformance.specs.Choices.{MergeOptions}
use Rattle.conformance.specs.SchemaMeanings.{Said}
use Rattle.merge_theorems.specs.Headline.{IsCheckedOutput, ChecksProve}
use Rattle.verifying.specs.declared.proof.Proof.{Proof}
use Rattle.verifying.specs.Verifying.{IsConformingInput, IsOutput, AreRows, BothHold, IsMergedOutput, Proves}

module _ (s : Schema) (chosen : MergeOptions) (input output certificate : List ℕ) (f g : File)
    (reads : IsConformingInput s chosen.other_names input f) (out : IsOutput s chosen.other_names output g) (b : BothHold s chosen f certificate) (image : List Row) (are : AreRows s g image)
    (merged : IsMergedOutput s chosen f certificate b g image) where
  checked : (said : Said s) → IsCheckedOutput s said chosen input output
  checked said =
      let j = b.held.judged in
      record {
        input = record {
          header_bytes = reads.header_bytes;
          file = f;
          reads = reads.reads;
          conforms = reads.conforms said;
          rows = j.rows;
          are_rows = j.are_rows.are said;
          population = j.are_rows.population;
          pinned = b.held.gentle;
          pins = record {
            weak = j.weak;
            are_weak = j.are_weak said;
            classes = shares j.first j.first.rounds;
            are_classes = tables_decide j.rows j.weak j.first j.are_rows.population b.held.valid;
            are_gentle = b.held.are_gentle said;
          };
        };
        header_bytes = out.header_bytes;
        file = g;
        reads = out.reads;
        nothing = out.nothing said;
        rows = image;
        are_rows = are.are said;
        population = are.population;
        first = j.first;
        second = j.second;
        first_valid = b.held.valid;
        gentle = refl;
        second_valid = b.valid;
        same = merged.0;
      }

  pub proves : ChecksProve → (p : Proof) → p.instances ≡ length b.held.judged.rows → p.kept ≡ length image
      → p.rounds ≡ b.held.judged.second.rounds → Proves s chosen input output certificate p
  unfolding checked
  proves law p instances kept rounds = record {
    first = b.held.judged.first;
    second = b.held.judged.second;
    certificate_is = b.held.judged.certificate_is;
    some = reads.some;
    accepted = λ said. record {
      checked = checked said;
      first_is = refl;
      second_is = refl;
      headings = merged.1;
      proved = law s said chosen input output (checked said);
      instances = instances;
      kept = kept;
      rounds = rounds;
    };
  }
