-- The lines of a merge, and of an output that is proved.
use Rattle.std.specs.Prelude.{ℕ, List, [], ◌∷◌, ◌++◌, codes, decimal}
use Rattle.reports.specs.Lines.{count_line, report_text}
use Rattle.reports.specs.declared.report.Report.{Report}

-- the report on a file that is merged, the number of instances of the smaller file, and the last round
abbrev pub merge_text : Report → ℕ → ℕ → List ℕ
merge_text r kept rounds = report_text r ++ count_line (codes "kept ") kept ++ count_line (codes "rounds ") rounds

-- a strict choice refuses a schema of which `count` parts aren't checked
abbrev pub strict_line : ℕ → List ℕ
strict_line count = codes "strict: " ++ decimal count ++ codes " unchecked" ++ 10 ∷ []

-- a certificate proves an output: the instances of the file, those of the output, and the last round
abbrev pub proof_text : ℕ → ℕ → ℕ → List ℕ
proof_text instances kept rounds =
    count_line (codes "instances ") instances ++ count_line (codes "kept ") kept ++ count_line (codes "rounds ") rounds
    ++ codes "certificate holds" ++ 10 ∷ []

-- the role of a file, as the prefix of a line about it
abbrev pub role_prefix : List ℕ → List ℕ
role_prefix role = role ++ codes ": "

abbrev pub role_line : List ℕ → List ℕ → List ℕ
role_line role line = role_prefix role ++ line
