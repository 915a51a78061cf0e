-- The outcome of a run that verifies an output.
use Rattle.std.specs.Prelude.{Result, Ok, Err}
use Rattle.conformance.specs.Choices.{Choice}
use Rattle.files.specs.Stores.{Stored}
use Rattle.reports.specs.MergeLines.{proof_text}
use Rattle.reports.specs.declared.fault.Fault.{Fault}
use Rattle.verifying.specs.Sources.{VerifiesAll}
use Rattle.verifying.specs.declared.proof.Proof.{Proof}
use Rattle.commands.specs.Endings.{Ending, EndsAs, Exit, on_output}
use Rattle.commands.specs.Faults.{fault_ending}

-- how a verification ends: with the numbers of the proof, or with the fault
abbrev pub verify_ending : Result Proof Fault → Ending
verify_ending (Ok proof) = on_output (proof_text proof.instances proof.kept proof.rounds) 0
verify_ending (Err fault) = fault_ending fault

-- The run verified an output of a file according to a schema, a choice and a certificate.
pub record RunsVerify (choice : Choice) (schema file output certificate : Stored) (exit : Exit) : Type 0 where
  pub outcome : Result Proof Fault
  pub verifies : VerifiesAll choice schema file output certificate outcome
  pub ends : EndsAs (verify_ending outcome) exit
