-- What is answered of an output, where the tables of its certificate hold.
use Rattle.std.specs.Prelude.{◌≡◌, ℕ, List, length, Ok, Err}
use Rattle.std.proofs.Common.{refl, sym, ap, subst, ◌∙◌}
use Rattle.step_structures.specs.Trees.{File}
use Rattle.value_equality.specs.Images.{quotient}
use Rattle.value_equality.specs.Rows.{Row, IsPopulation, SamePopulation}
use Rattle.value_equality.specs.Tables.{Table, shares}
use Rattle.value_equality.specs.TableViews.{table_of}
use Rattle.express_syntax.specs.Schemas.{Schema}
use Rattle.conformance.specs.Choices.{MergeOptions}
use Rattle.conformance.specs.PlainRows.{AreRowsOf}
use Rattle.conformance.specs.Populations.{Instance}
use Rattle.conformance.specs.SchemaMeanings.{Said, instances}
use Rattle.step_headings.specs.Headings.{SameHeadings}
use Rattle.reports.specs.declared.refusal.Refusal.TheVariants.{NotTheImage}
use Rattle.verifying.specs.declared.fault.TablesFault.{TablesFault}
use Rattle.verifying.specs.declared.fault.TablesFault.TheVariants.{Refused, Memory}
use Rattle.verifying.specs.declared.proof.Proof.{Proof}
use Rattle.verifying.specs.declared.tables.Judged.{Judged}
use Rattle.verifying.specs.Verifying.{AreRows, BothHold, IsMergedOutput}
use Rattle.verifying.specs.steps.ComputedPassing.{IsAnswer, IsJudgement}

-- what was found of the tables is told
pub held_back : (s : Schema) (chosen : MergeOptions) (f g : File) (certificate : List ℕ) (e : TablesFault)
    → IsJudgement s chosen f certificate (Err e) → IsAnswer s chosen f certificate g (Err e)
held_back s chosen f g certificate (Refused refusal) h = h g
held_back s chosen f g certificate Memory h = tt

module _ (s : Schema) (chosen : MergeOptions) (f g : File) (certificate : List ℕ) (j : Judged)
    (judged : IsJudgement s chosen f certificate (Ok j)) (js : List Instance)
    (same : (said : Said s) → js ≡ instances s said g) (image : List Row) (are : AreRowsOf s js image)
    (population : IsPopulation image) where
  abbrev Merged : List Row → Table → Type 0
  Merged rows t = SamePopulation image (quotient rows (shares t t.rounds)) × SameHeadings f g

  are_rows : AreRows s g image
  are_rows = record { are = λ said. subst (λ l. AreRowsOf s l image) (same said) are; population = population }

  pub no_image : (Merged j.rows (table_of j.table) → ⊥) → IsAnswer s chosen f certificate g (Err (Refused NotTheImage))
  no_image other = (
    judged.0,
    image,
    are_rows,
    λ m. other (subst (λ rows. Merged rows (table_of j.table)) judged.1
        (subst (Merged judged.0.held.judged.rows) judged.2 m)),
  )

  pub comes : Merged j.rows (table_of j.table) → (p : Proof) → p.instances ≡ length j.rows → p.kept ≡ length image
      → p.rounds ≡ j.table.rounds → IsAnswer s chosen f certificate g (Ok p)
  comes merged p instances kept rounds = record {
    both = judged.0;
    image = image;
    are_rows = are_rows;
    merged = subst (Merged judged.0.held.judged.rows) (sym judged.2)
        (subst (λ rows. Merged rows (table_of j.table)) (sym judged.1) merged);
    instances = instances ∙ ap length (sym judged.1);
    kept = kept;
    rounds = rounds ∙ ap (λ (t : Table). t.rounds) (sym judged.2);
  }
