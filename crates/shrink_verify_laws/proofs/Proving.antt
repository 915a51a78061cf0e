-- What a merge writes is proved, and nothing else is answered of it.
use Rattle.std.specs.Prelude.{◌≡◌, ◌≢◌, ◌⊎◌, Result, Ok, Err}
use Rattle.std.proofs.Common.{refl, inl, inr}
use Rattle.conformance.specs.Choices.{merge_options}
use Rattle.merge_theorems.specs.Headline.{ChecksProve}
use Rattle.reports.specs.declared.fault.Fault.{Fault}
use Rattle.reports.specs.declared.fault.Fault.TheVariants as faults
use Rattle.shrinking.proofs.Told.{answered}
use Rattle.verifying.specs.declared.proof.Proof.{Proof}
use Rattle.verifying.specs.Laws.{VerifyAnswersAreOne, ProofsSayTheSame}
use Rattle.verifying.specs.Verifying.{Verifies}
use Rattle.shrink_verify_laws.specs.Laws.{proof_of, OwnOutputsAreProved, OwnFilesAreProved}
use Rattle.shrink_verify_laws.proofs.Accepting.{proves}

abbrev no_memory : Result Proof Fault
no_memory = Err faults.Memory

-- what says the same as a proof is that proof
or_memory : (p : Proof) (r : Result Proof Fault) → (r ≢ no_memory → ProofsSayTheSame r (Ok p))
    → (r ≡ Ok p) ⊎ (r ≡ no_memory)
or_memory p (Ok q) h = let same = h (λ e. cc) in inl (λ i. Ok (same i))
or_memory p (Err faults.Memory) h = inr refl
or_memory p (Err (faults.Schema fault)) h = absurd (h (λ e. cc))
or_memory p (Err (faults.Text role kind place)) h = absurd (h (λ e. cc))
or_memory p (Err (faults.Unchecked parts)) h = absurd (h (λ e. cc))
or_memory p (Err (faults.Findings report)) h = absurd (h (λ e. cc))
or_memory p (Err (faults.Refused role fs gs)) h = absurd (h (λ e. cc))
or_memory p (Err (faults.Certificate refusal)) h = absurd (h (λ e. cc))
or_memory p (Err (faults.Device role written)) h = absurd (h (λ e. cc))

pub own_outputs_are_proved : ChecksProve → VerifyAnswersAreOne → OwnOutputsAreProved
own_outputs_are_proved law one c strict schema file output certificate m (s, has, passes, known, done) =
    let p = proof_of m in
    let proved : Verifies schema file output certificate c (Ok p) = (
      s,
      record { reads = has.reads; resolved = has.resolved; known = known },
      proves s (merge_options s c) file output certificate m done law,
    ) in (
      proved,
      λ r h. or_memory p r
          (λ n. one schema file output certificate c r (Ok p) h proved n (λ e. cc)),
    )

pub own_files_are_proved : OwnOutputsAreProved → OwnFilesAreProved
own_files_are_proved law c strict schema file output certificate m shrinks =
    law c strict schema file output certificate m (answered c strict schema file output certificate (Ok m) shrinks)
