-- What `verify` returns for the output and the certificate that a merge wrote.
use Rattle.std.specs.Prelude.{◌≡◌, ◌⊎◌, Bool, List, Some, Result, Ok, Err, ℕ}
use Rattle.conformance.specs.Choices.{Choice}
use Rattle.reports.specs.declared.fault.Fault.{Fault}
use Rattle.reports.specs.declared.fault.Fault.TheVariants.{Memory}
use Rattle.shrinking.specs.declared.summary.Summary.{Summary}
use Rattle.shrinking.specs.Shrinking.{ShrinkAnswers, Shrinks, written_anew}
use Rattle.verifying.specs.declared.proof.Proof.{Proof}
use Rattle.verifying.specs.Verifying.{Verifies}

-- the numbers that a merge reports: the instances of the file, those of the output, and the rounds of the second
-- table
abbrev pub proof_of : Summary → Proof
proof_of m = record { instances = m.report.instances; kept = m.kept; rounds = m.rounds }

-- For these texts `verify` returns that the output is proved, with these numbers. The only other possible result is
-- out of memory.
abbrev pub IsProved : (schema file output certificate : List ℕ) → Choice → Proof → Type 0
IsProved schema file output certificate c p =
    Verifies schema file output certificate c (Ok p)
    × ((r : Result Proof Fault) → Verifies schema file output certificate c r
    → (r ≡ Ok p) ⊎ (r ≡ Err Memory))

-- If a merge succeeds, what it wrote is proved, by the same schema, file and choice.
abbrev pub OwnOutputsAreProved : Type 0
OwnOutputsAreProved = (c : Choice) (strict : Bool) (schema file output certificate : List ℕ) (m : Summary)
    → ShrinkAnswers c strict schema file output certificate (Ok m) → IsProved schema file output certificate c (proof_of m)

-- If a merge succeeds, what it wrote is proved, for sources that reveal their texts and sinks that were empty.
abbrev pub OwnFilesAreProved : Type 0
OwnFilesAreProved = (c : Choice) (strict : Bool) (schema file output certificate : List ℕ) (m : Summary)
    → Shrinks c strict (Some schema) (Some file) (written_anew output) (written_anew certificate) (Ok m)
    → IsProved schema file output certificate c (proof_of m)
