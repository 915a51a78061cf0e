-- The report on a file that is checked against a schema.
use Rattle.std.specs.Prelude.{◌≡◌, List, length}
use Rattle.express_syntax.specs.Schemas.{Schema}
use Rattle.step_structures.specs.Trees.{File, rows_of}
use Rattle.schema_semantics.specs.Names.{Name}
use Rattle.schema_semantics.specs.Parts.{AreUnchecked}
use Rattle.schema_unchecked_declarations.specs.UncheckedLists.{unchecked_in}
use Rattle.file_findings.specs.Findings.{AreFindings}
use Rattle.reports.specs.Lines.{report_text}
use Rattle.reports.specs.declared.report.Report.{Report}

-- The report has the parts of the schema that aren't checked, the findings of the file, which may call the schema
-- by these other names, and the number of its instances. It also has the number of pairs of an instance and a domain
-- rule that are UNKNOWN.
pub record IsReport (s : Schema) (others : List Name) (f : File) (r : Report) : Type 0 where
  pub unchecked : ∥ AreUnchecked s (unchecked_in r.unchecked.items) ∥₁
  pub findings : AreFindings s others f r.findings.items r.rule_findings.items r.unknown
  pub instances : r.instances ≡ length (rows_of f.sections)

-- Any two reports on one file by one schema have the same lines.
abbrev pub ReportsAreOne : Type 0
ReportsAreOne = (s : Schema) (others : List Name) (f : File) (r q : Report) → IsReport s others f r → IsReport s others f q
    → report_text r ≡ report_text q
