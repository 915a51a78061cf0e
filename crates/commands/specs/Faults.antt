-- How a run ends if a file isn't checked, merged or verified.
use Rattle.std.specs.Prelude.{◌++◌, ℕ, List, [], ◌∷◌, length, flat_map, codes, decimal}
use Rattle.conformance.specs.declared.finding.Finding.{Finding}
use Rattle.schema_constraints.specs.declared.finding.RuleFinding.{RuleFinding}
use Rattle.files.specs.Lines.{line_of, role_text}
use Rattle.files.specs.declared.fault.Role.{Role}
use Rattle.files.specs.declared.fault.FileFault.TheVariants as files
use Rattle.reports.specs.Lines.{finding_line, report_text, rule_finding_line, unchecked_line}
use Rattle.reports.specs.MergeLines.{role_line, strict_line}
use Rattle.reports.specs.SchemaLines.{schema_line}
use Rattle.reports.specs.declared.refusal.Refusal.{Refusal}
use Rattle.reports.specs.declared.refusal.Refusal.TheVariants.{BadText, GroundlessSplit, NotTheImage, OldVersion, Unstable, WrongNames}
use Rattle.reports.specs.declared.fault.Fault.{Fault}
use Rattle.reports.specs.declared.fault.Fault.TheVariants.{Certificate, Device, Findings, Memory, Refused, Schema, Text, Unchecked}
use Rattle.commands.specs.Endings.{Ending, on_both, on_error, on_output}
use Rattle.commands.specs.Statuses.{schema_status}

-- why a certificate is refused
abbrev pub refusal_text : Refusal → List ℕ
refusal_text OldVersion = codes "C6 OldVersion"
refusal_text (BadText line) = codes "C1 BadText at line " ++ decimal line
refusal_text WrongNames = codes "C2 WrongNames"
refusal_text GroundlessSplit = codes "C3 GroundlessSplit"
refusal_text Unstable = codes "C4 Unstable"
refusal_text NotTheImage = codes "C5 NotTheImage"

abbrev pub refusal_line : Refusal → List ℕ
refusal_line refusal = codes "certificate: " ++ refusal_text refusal ++ 10 ∷ []

-- the findings of a file that is verified, each line after the file's role
abbrev pub refused_lines : Role → List Finding → List RuleFinding → List ℕ
refused_lines role findings rules =
    flat_map (λ f. role_line (role_text role) (finding_line f)) findings
    ++ flat_map (λ f. role_line (role_text role) (rule_finding_line f)) rules

-- The line of each fault and its status. The report on a file that is merged goes to the output. So do the
-- unchecked parts of a schema that a strict choice refuses, with a line on the error output. Everything else goes
-- to the error output alone.
abbrev pub fault_ending : Fault → Ending
fault_ending (Schema fault) = on_error (schema_line fault) (schema_status fault)
fault_ending (Text role kind place) = on_error (line_of (files.Text role kind place)) 2
fault_ending (Unchecked parts) =
    on_both (flat_map unchecked_line parts.items) (strict_line (length parts.items)) 1
fault_ending (Findings report) = on_output (report_text report) 1
fault_ending (Refused role findings rules) = on_error (refused_lines role findings.items rules.items) 1
fault_ending (Certificate refusal) = on_error (refusal_line refusal) 6
fault_ending (Device role written) = on_error (line_of (files.Device role written)) 4
fault_ending Memory = on_error (line_of files.Memory) 5
