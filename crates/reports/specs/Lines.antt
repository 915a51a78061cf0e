-- The lines of a report.
use Rattle.std.specs.Prelude.{ℕ, ◌+◌, List, [], ◌∷◌, ◌++◌, length, flat_map, codes, decimal}
use Rattle.std.specs.String.{string_bytes}
use Rattle.schema_semantics.specs.declared.unchecked.PartKind.{PartKind}
use Rattle.schema_semantics.specs.declared.unchecked.PartKind.TheVariants as parts
use Rattle.schema_semantics.specs.declared.unchecked.Reason.{Reason}
use Rattle.schema_semantics.specs.declared.unchecked.Reason.TheVariants as reasons
use Rattle.schema_unchecked_declarations.specs.declared.list.Unchecked.{Unchecked}
use Rattle.schema_unchecked_declarations.specs.UncheckedLists.{label_name}
use Rattle.conformance.specs.declared.finding.FindingKind.{FindingKind}
use Rattle.conformance.specs.declared.finding.FindingKind.TheVariants as findings
use Rattle.conformance.specs.declared.finding.Finding.{Finding}
use Rattle.conformance.specs.declared.finding.Spot.{Spot}
use Rattle.conformance.specs.declared.finding.Spot.TheVariants.{Place, Nothing}
use Rattle.schema_constraints.specs.declared.finding.RuleFindingKind.{RuleFindingKind}
use Rattle.schema_constraints.specs.declared.finding.RuleFindingKind.TheVariants as breaches
use Rattle.schema_constraints.specs.declared.finding.RuleFinding.{RuleFinding}
use Rattle.reports.specs.declared.report.Report.{Report}

abbrev pub part_text : PartKind → List ℕ
part_text parts.Function = codes "FUNCTION"
part_text parts.Procedure = codes "PROCEDURE"
part_text parts.Rule = codes "RULE"
part_text parts.Constant = codes "CONSTANT"
part_text parts.SubtypeConstraint = codes "SUBTYPE_CONSTRAINT"
part_text parts.Where = codes "WHERE"
part_text parts.Derive = codes "DERIVE"
part_text parts.Inverse = codes "INVERSE"
part_text parts.Unique = codes "UNIQUE"
part_text parts.Bound = codes "BOUND"
part_text parts.Width = codes "WIDTH"
part_text parts.Supertype = codes "SUPERTYPE"
part_text parts.Redeclared = codes "REDECLARED"

abbrev pub reason_text : Reason → List ℕ
reason_text reasons.Skipped = codes "Skipped"
reason_text reasons.Profile = codes "Profile"
reason_text reasons.Name = codes "Name"
reason_text reasons.Typeof = codes "Typeof"
reason_text reasons.Kind = codes "Kind"
reason_text reasons.Leads = codes "Leads"

abbrev pub finding_text : FindingKind → List ℕ
finding_text findings.UnknownEntity = codes "F1 UnknownEntity"
finding_text findings.AbstractInstance = codes "F2 AbstractInstance"
finding_text findings.MissingSupertype = codes "F3 MissingSupertype"
finding_text findings.OneOfBroken = codes "F4 OneOfBroken"
finding_text findings.ParameterCount = codes "F5 ParameterCount"
finding_text findings.WrongKind = codes "F6 WrongKind"
finding_text findings.MissingValue = codes "F7 MissingValue"
finding_text findings.MisplacedStar = codes "F8 MisplacedStar"
finding_text findings.DanglingReference = codes "F9 DanglingReference"
finding_text findings.WrongEntity = codes "F10 WrongEntity"
finding_text findings.UnknownElement = codes "F11 UnknownElement"
finding_text findings.OutOfBounds = codes "F12 OutOfBounds"
finding_text findings.TooWide = codes "F13 TooWide"
finding_text findings.NotDistinct = codes "F14 NotDistinct"
finding_text findings.NoSelectItem = codes "F15 NoSelectItem"
finding_text findings.SchemaName = codes "F19 SchemaName"

abbrev pub rule_finding_text : RuleFindingKind → List ℕ
rule_finding_text breaches.WhereFalse = codes "F16 WhereFalse"
rule_finding_text breaches.UniqueBroken = codes "F17 UniqueBroken"
rule_finding_text breaches.InverseBound = codes "F18 InverseBound"

abbrev pub unchecked_line : Unchecked → List ℕ
unchecked_line u =
    codes "unchecked " ++ part_text u.kind ++ codes " " ++ string_bytes u.name ++ codes " " ++ reason_text u.reason
    ++ 10 ∷ []

-- the instance and the number of its parameter (0 for the whole instance), for a finding at an instance
abbrev pub spot_text : ℕ → Spot → List ℕ
spot_text name (Place n) = codes " #" ++ decimal name ++ codes " " ++ decimal n
spot_text name Nothing = []

abbrev pub finding_line : Finding → List ℕ
finding_line f = finding_text f.kind ++ spot_text f.instance f.spot ++ 10 ∷ []

-- the instance, and the label of the rule that it breaks
abbrev pub rule_finding_line : RuleFinding → List ℕ
rule_finding_line f =
    rule_finding_text f.kind ++ codes " #" ++ decimal f.instance ++ codes " " ++ label_name f.rule ++ 10 ∷ []

abbrev pub count_line : List ℕ → ℕ → List ℕ
count_line word n = word ++ decimal n ++ 10 ∷ []

-- the lines of all unchecked parts, of all findings, of all rules that are broken, and the counts
abbrev pub report_text : Report → List ℕ
report_text r =
    flat_map unchecked_line r.unchecked.items ++ flat_map finding_line r.findings.items
    ++ flat_map rule_finding_line r.rule_findings.items
    ++ count_line (codes "instances ") r.instances ++ count_line (codes "unknown ") r.unknown
    ++ count_line (codes "findings ") (length r.findings.items + length r.rule_findings.items)
