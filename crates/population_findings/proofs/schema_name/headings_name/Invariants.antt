use Rattle.std.proofs.Common.{◌≡◌, drop}
use Rattle.population_findings.specs.steps.SchemaNames.{headings_name, names_in_files}
use Rattle.population_findings.proofs.schema_name.headings_name.Given as goal

abbrev pub invariant-loop-section : goal.invariant-loop-section
invariant-loop-section l =
    headings_name (names_in_files l.schema) (drop l.section-index l.sections)
    ≡ headings_name (names_in_files l.schema) l.sections
