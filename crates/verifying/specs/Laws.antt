-- The results of `verify` for equal texts.
use Rattle.std.specs.Prelude.{◌≡◌, ◌≢◌, ℕ, List, map, Result, Ok, Err}
use Rattle.schema_semantics.specs.Names.{Name}
use Rattle.schema_unchecked_declarations.specs.UncheckedLists.{label_name}
use Rattle.schema_constraints.specs.declared.finding.RuleFinding.{RuleFinding}
use Rattle.schema_constraints.specs.declared.finding.RuleFindingKind.{RuleFindingKind}
use Rattle.conformance.specs.Choices.{Choice}
use Rattle.reports.specs.declared.fault.Fault.{Fault}
use Rattle.reports.specs.declared.fault.Fault.TheVariants.{Schema, Text, Refused, Certificate, Memory}
use Rattle.reports.specs.SameFaults.{SameFault}
use Rattle.verifying.specs.declared.proof.Proof.{Proof}
use Rattle.verifying.specs.Verifying.{Verifies}

-- what the line of a rule finding shows: its kind, the instance and the label of the rule
abbrev pub told : RuleFinding → RuleFindingKind × ℕ × Name
told f = (f.kind, f.instance, label_name f.rule)

-- Two results say the same.
abbrev pub ProofsSayTheSame : Result Proof Fault → Result Proof Fault → Type 0
ProofsSayTheSame (Ok p) (Ok q) = p ≡ q
ProofsSayTheSame (Err (Schema f)) (Err (Schema g)) = SameFault f g
ProofsSayTheSame (Err (Text role kind place)) (Err (Text other fault elsewhere)) =
    (role ≡ other) × (kind ≡ fault) × (place ≡ elsewhere)
ProofsSayTheSame (Err (Refused role fs gs)) (Err (Refused other hs ks)) =
    (role ≡ other) × (fs.items ≡ hs.items) × (map told gs.items ≡ map told ks.items)
ProofsSayTheSame (Err (Certificate refusal)) (Err (Certificate other)) = refusal ≡ other
ProofsSayTheSame r q = ⊥

-- All results for four texts and a choice say the same, except out of memory. So there aren't both a proof and a
-- refusal, nor two proofs or two refusals that say different things.
abbrev pub VerifyAnswersAreOne : Type 0
VerifyAnswersAreOne = (schema input output certificate : List ℕ) (choice : Choice) (r q : Result Proof Fault)
    → Verifies schema input output certificate choice r → Verifies schema input output certificate choice q
    → r ≢ Err Memory → q ≢ Err Memory → ProofsSayTheSame r q
