-- What is answered to an exchange structure, by its findings or its tables.
use Rattle.std.specs.Prelude.{◌≡◌, ◌≤◌, ◌^◌, ℕ, List, length, Option, Err}
use Rattle.std.proofs.Common.{refl, sym, ◌∙◌, subst}
use Rattle.step_structures.specs.Texts.{ReadsAs}
use Rattle.step_exchange.specs.Exchanges.{structure}
use Rattle.step_exchange.specs.declared.structure.Exchange.{Exchange}
use Rattle.value_equality.specs.TableViews.{table_of}
use Rattle.value_equality.specs.declared.table.Table.{Table}
use Rattle.express_syntax.specs.Schemas.{Schema}
use Rattle.file_findings.specs.Findings.{AreFindings}
use Rattle.file_findings.specs.declared.findings.Found.{Found}
use Rattle.merge_tables.specs.steps.Merges.{Merges, last_of}
use Rattle.merge_tables.specs.declared.file_merge.Merging.{Merging}
use Rattle.merge_tables.specs.declared.file_merge.Merging.TheVariants.{Faulty, Clean}
use Rattle.reports.specs.declared.report.Report.{Report}
use Rattle.reports.specs.declared.fault.Fault.TheVariants.{Findings}
use Rattle.checking.specs.Reporting.{IsReport}
use Rattle.shrinking.specs.steps.ComputedAnswers.{FileShrinks}
use Rattle.shrinking.proofs.Answering.{idle, unwritten}
use Rattle.shrinking.proofs.Merging.{IsTabled}
use Rattle.conformance.specs.Choices.{MergeOptions}

-- something is found
pub faulty : (s : Schema) (chosen : MergeOptions) (bytes : List ℕ) (x : Exchange) (out cert : Option (List ℕ)) (m : Merging)
    (found : Found) (r : Report) → m ≡ Faulty found → Merges s chosen (structure x) m → length bytes ≤ 2 ^ 40
    → ReadsAs bytes x.header_bytes.now (structure x)
    → (AreFindings s chosen.other_names (structure x) found.findings.items found.rules.findings.items found.rules.unknown
    → IsReport s chosen.other_names (structure x) r) → r.findings ≡ found.findings → r.rule_findings ≡ found.rules.findings
    → FileShrinks s chosen bytes (unwritten out) (unwritten cert) (Err (Findings r))
faulty s chosen bytes x out cert m found r is merges within reads report same same_rules =
    let found_all = subst (Merges s chosen (structure x)) is merges in
    let items : r.findings.items ≡ found.findings.items = λ i. (same i).items in
    let rules : r.rule_findings.items ≡ found.rules.findings.items = λ i. (same_rules i).items in
    idle s chosen bytes out cert (Err (Findings r)) (
      (
        structure x,
        record { within = within; header_bytes = x.header_bytes.now; reads = reads },
        report found_all.0,
        λ clean. found_all.1 (sym items ∙ clean.0, sym rules ∙ clean.1),
      ),
      (refl, refl),
    )

-- nothing is
pub is_tabled : (s : Schema) (chosen : MergeOptions) (bytes : List ℕ) (x : Exchange) (m : Merging) (unknown : ℕ)
    (first : Table) (second : Option Table) (last : Table) → m ≡ Clean unknown first second
    → last ≡ last_of first second → Merges s chosen (structure x) m → ReadsAs bytes x.header_bytes.now (structure x)
    → IsTabled s chosen bytes x unknown (table_of first) (table_of last)
is_tabled s chosen bytes x m unknown first second last is last_is merges reads =
    let all = subst (Merges s chosen (structure x)) is merges in
    subst (λ (t : Table). IsTabled s chosen bytes x unknown (table_of first) (table_of t)) (sym last_is)
    (record { reads = reads; found = all.0; tables = all.1 })
