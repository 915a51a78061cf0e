-- Laws of what `shrink` returns and writes.
use Rattle.std.specs.Prelude.{◌≡◌, ◌<◌, ◌^◌, ℕ, Bool, List, length, flat_map, Some, Result, Ok, Err}
use Rattle.step_structures.specs.declared.fault.FaultKind.{FaultKind}
use Rattle.step_structures.specs.Trees.{File}
use Rattle.express_syntax.specs.Schemas.{Schema}
use Rattle.conformance.specs.Choices.{Choice, MergeOptions}
use Rattle.files.specs.declared.fault.Role.TheVariants as roles
use Rattle.reports.specs.Lines.{unchecked_line, report_text}
use Rattle.reports.specs.declared.report.Report.{Report}
use Rattle.reports.specs.SameFaults.{SameFault}
use Rattle.reports.specs.declared.fault.Fault.{Fault}
use Rattle.reports.specs.declared.fault.Fault.TheVariants as faults
use Rattle.checking.specs.Checks.{HasFile, HasFileFault}
use Rattle.checking.specs.Laws.{IsOfTexts}
use Rattle.checking.specs.Reporting.{IsReport}
use Rattle.shrinking.specs.declared.summary.Summary.{Summary}
use Rattle.shrinking.specs.Shrinking.{IsClean, IsMergedFile, ShrinkAnswers, Shrinks, written_anew}

-- An output has no findings. Its text has no fault, except that it may be larger than 2^40 bytes.
abbrev pub OwnOutputsPass : Type 0
OwnOutputsPass = (s : Schema) (chosen : MergeOptions) (bytes output : List ℕ) → IsMergedFile s chosen bytes output
    → ((kind : FaultKind) (place : ℕ) → HasFileFault kind place output → 2 ^ 40 < length output)
    × ((f : File) (r : Report) → HasFile f output → IsReport s chosen.other_names f r → IsClean r)

-- Merging an output again writes the same output, or fails: memory runs out, a device fails or the output is too
-- large.
abbrev pub Stays : List ℕ → List ℕ → Result Summary Fault → Type 0
Stays output again (Ok m) = again ≡ output
Stays output again (Err (faults.Text roles.File kind place)) = 2 ^ 40 < length output
Stays output again (Err (faults.Device role written)) = Unit {0}
Stays output again (Err faults.Memory) = Unit {0}
Stays output again (Err f) = ⊥

abbrev pub SecondShrinksStay : Type 0
SecondShrinksStay =
    (c : Choice) (strict : Bool) (text bytes output certificate again recertified : List ℕ) (m : Summary)
    (result : Result Summary Fault) → ShrinkAnswers c strict text bytes output certificate (Ok m)
    → ShrinkAnswers c strict text output again recertified result → Stays output again result

-- Merging an output again writes the same output, for sources that reveal their texts and sinks that were empty.
abbrev pub SecondFilesStay : Type 0
SecondFilesStay =
    (c : Choice) (strict : Bool) (schema file output certificate again recertified : List ℕ) (m : Summary)
    (result : Result Summary Fault)
    → Shrinks c strict (Some schema) (Some file) (written_anew output) (written_anew certificate) (Ok m)
    → Shrinks c strict (Some schema) (Some output) (written_anew again) (written_anew recertified) result
    → Stays output again result

-- Two results say the same. Either both are merges, with equal lines of the reports and equal numbers of instances
-- and rounds, or both are the same fault. For a schema with unchecked parts, both list equally many parts with
-- equal lines.
abbrev pub SummariesSayTheSame : Result Summary Fault → Result Summary Fault → Type 0
SummariesSayTheSame (Ok m) (Ok n) = (report_text m.report ≡ report_text n.report) × (m.kept ≡ n.kept) × (m.rounds ≡ n.rounds)
SummariesSayTheSame (Err (faults.Schema f)) (Err (faults.Schema g)) = SameFault f g
SummariesSayTheSame (Err (faults.Unchecked us)) (Err (faults.Unchecked vs)) =
    (flat_map unchecked_line us.items ≡ flat_map unchecked_line vs.items) × (length us.items ≡ length vs.items)
SummariesSayTheSame (Err (faults.Text role kind place)) (Err (faults.Text other fault elsewhere)) =
    (role ≡ other) × (kind ≡ fault) × (place ≡ elsewhere)
SummariesSayTheSame (Err (faults.Findings r)) (Err (faults.Findings q)) = report_text r ≡ report_text q
SummariesSayTheSame r q = ⊥

-- Any two runs on the same texts and choice return the same. They also write the same output and certificate. The
-- exception is a device's fault and out of memory.
abbrev pub ShrinkAnswersAreOne : Type 0
ShrinkAnswersAreOne =
    (c : Choice) (strict : Bool) (text bytes output certificate again recertified : List ℕ)
    (r q : Result Summary Fault) → ShrinkAnswers c strict text bytes output certificate r
    → ShrinkAnswers c strict text bytes again recertified q → IsOfTexts r → IsOfTexts q
    → SummariesSayTheSame r q × (again ≡ output) × (recertified ≡ certificate)

-- Any two runs on the same texts and choice return and write the same, if the sources reveal their texts and the
-- sinks were empty. The exception is a device's fault and out of memory.
abbrev pub FilesAreOne : Type 0
FilesAreOne =
    (c : Choice) (strict : Bool) (schema file output certificate again recertified : List ℕ)
    (r q : Result Summary Fault)
    → Shrinks c strict (Some schema) (Some file) (written_anew output) (written_anew certificate) r
    → Shrinks c strict (Some schema) (Some file) (written_anew again) (written_anew recertified) q
    → IsOfTexts r → IsOfTexts q → SummariesSayTheSame r q × (again ≡ output) × (recertified ≡ certificate)
