-- What comes of a certificate, by what its tables are found to be.
use Rattle.std.specs.Prelude.{◌≡◌, ◌⊎◌, ◌↔◌, ℕ, Bool, IsTrue, List, Result, Ok, Err, MatchResult}
use Rattle.std.proofs.Common.{refl, sym, subst, inl, inr}
use Rattle.step_structures.specs.Trees.{File}
use Rattle.value_equality.specs.Rows.{Row}
use Rattle.value_equality.specs.Tables.{Table, shares, IsValid}
use Rattle.value_equality.specs.TableViews.{table_of}
use Rattle.express_syntax.specs.Schemas.{Schema}
use Rattle.schema_semantics.specs.Names.{OneOf}
use Rattle.conformance.specs.Choices.{MergeOptions}
use Rattle.conformance.specs.Pins.{StandsBesideItsClass}
use Rattle.conformance.specs.SchemaMeanings.{Said, instances}
use Rattle.conformance.proofs.Standing.{either}
use Rattle.certificate_text.specs.Texts.{IsCertificate}
use Rattle.certificate_text.specs.Faults as texts
use Rattle.certificate_text.specs.declared.fault.CertFault.{CertFault}
use Rattle.certificate_text.specs.declared.fault.CertFault.TheVariants as certificates
use Rattle.certificate_checks.specs.TableFaults as judged_tables
use Rattle.certificate_checks.specs.declared.fault.TableFault.{TableFault}
use Rattle.certificate_checks.specs.declared.fault.TableFault.TheVariants as table_faults
use Rattle.reports.specs.declared.refusal.Refusal.TheVariants.{OldVersion, BadText, WrongNames, GroundlessSplit, Unstable, NotTheImage}
use Rattle.verifying.specs.declared.fault.TablesFault.{TablesFault}
use Rattle.verifying.specs.declared.fault.TablesFault.TheVariants.{Refused, Memory}
use Rattle.verifying.specs.declared.tables.Judged.{Judged}
use Rattle.verifying.specs.steps.Faults.{certificate_fault, table_fault}
use Rattle.verifying.specs.Verifying.{AreRows, AreWeak, AreGentle, AreJudged, FirstHolds, BothHold}
use Rattle.verifying.specs.steps.ComputedPassing.{IsTableFault, AreValid, AreFaulty, IsJudgement}

-- what is found of a table
pub of_judge : (rows : List Row) (pinned : ℕ → Bool) (t : Table) (e : TableFault) → judged_tables.IsTableFaultOf rows pinned t e
    → IsTableFault rows pinned t (table_fault e)
of_judge rows pinned t table_faults.Members h = h
of_judge rows pinned t table_faults.Ground h = h
of_judge rows pinned t table_faults.Stable h = h
of_judge rows pinned t table_faults.Memory h = tt

-- What is found of the second table is found of the first one and of both, where they and their pins are the same.
pub valid_same : (rows : List Row) (weak gentle : ℕ → Bool) (first second : Table) (r : Result Unit TablesFault)
    → gentle ≡ weak → second ≡ first → MatchResult r (λ _. IsValid rows weak second) (IsTableFault rows weak second)
    → MatchResult r (λ _. AreValid rows weak gentle first second) (AreFaulty rows weak gentle first second)
valid_same rows weak gentle first second (Ok u) pins tables h = (
  subst (IsValid rows weak) tables h,
  subst (λ p. IsValid rows p second) (sym pins) h,
)
valid_same rows weak gentle first second (Err e) pins tables h = inl (subst (λ t. IsTableFault rows weak t e) tables h)

-- what is found of the second table, where the first one is valid
pub valid_first : (rows : List Row) (weak gentle : ℕ → Bool) (first second : Table) (r : Result Unit TablesFault)
    → IsValid rows weak first → MatchResult r (λ _. IsValid rows gentle second) (IsTableFault rows gentle second)
    → MatchResult r (λ _. AreValid rows weak gentle first second) (AreFaulty rows weak gentle first second)
valid_first rows weak gentle first second (Ok u) valid h = (valid, h)
valid_first rows weak gentle first second (Err e) valid h = inr (valid, h)

-- gentle pins are the weak ones, and what stands beside its class
abbrev pub AddBeside : Schema → File → (ℕ → Bool) → Table → (ℕ → Bool) → Type 0
AddBeside s f weak t gentle = (said : Said s) (y : ℕ) → IsTrue (gentle y)
    ↔ (IsTrue (weak y)
    ⊎ OneOf (StandsBesideItsClass s said.domain said.entities (shares t t.rounds) y) (instances s said f))

module _ (s : Schema) (chosen : MergeOptions) (f : File) (certificate : List ℕ) where
  -- the text is no certificate
  pub unread : (e : CertFault) → texts.IsCertificateFaultOf certificate e
      → IsJudgement s chosen f certificate (Err (certificate_fault e))
  unread certificates.OldVersion h = λ g. h
  unread (certificates.BadText line) h = λ g. h
  unread certificates.Memory h = tt

  module _ (first second : Table) (text : IsCertificate certificate first second) (rows : List Row)
      (are_rows : AreRows s f rows) (weak : ℕ → Bool) (are_weak : AreWeak s chosen f weak) where
    abbrev judged : AreJudged s chosen f certificate
    judged = record {
      first = first;
      second = second;
      certificate_is = text;
      rows = rows;
      are_rows = are_rows;
      weak = weak;
      are_weak = are_weak;
    }

    first_lacks : (e : TablesFault) → IsTableFault rows weak first e → IsJudgement s chosen f certificate (Err e)
    first_lacks (Refused OldVersion) h = absurd h
    first_lacks (Refused (BadText line)) h = absurd h
    first_lacks (Refused WrongNames) h = λ g. inl (judged, h)
    first_lacks (Refused GroundlessSplit) h = λ g. inl (judged, h)
    first_lacks (Refused Unstable) h = λ g. inl (judged, h)
    first_lacks (Refused NotTheImage) h = absurd h
    first_lacks Memory h = tt

    module _ (gentle : ℕ → Bool) (beside : AddBeside s f weak first gentle) where
      are_gentle : AreGentle s chosen f first gentle
      are_gentle said y =
          let added = beside said y in
          let pinned = are_weak said y in (
            λ p. either pinned.0 (λ b. b) (added.0 p),
            λ p. added.1 (either pinned.1 (λ b. b) p),
          )

      abbrev held : IsValid rows weak first → FirstHolds s chosen f certificate
      held valid = record { judged = judged; valid = valid; gentle = gentle; are_gentle = are_gentle }

      second_lacks : IsValid rows weak first → (e : TablesFault) → IsTableFault rows gentle second e
          → IsJudgement s chosen f certificate (Err e)
      second_lacks valid (Refused OldVersion) h = absurd h
      second_lacks valid (Refused (BadText line)) h = absurd h
      second_lacks valid (Refused WrongNames) h = λ g. inr (held valid, h)
      second_lacks valid (Refused GroundlessSplit) h = λ g. inr (held valid, h)
      second_lacks valid (Refused Unstable) h = λ g. inr (held valid, h)
      second_lacks valid (Refused NotTheImage) h = absurd h
      second_lacks valid Memory h = tt

      pub lack : (e : TablesFault) → AreFaulty rows weak gentle first second e
          → IsJudgement s chosen f certificate (Err e)
      lack e (inl h) = first_lacks e h
      lack e (inr h) = second_lacks h.0 e h.1

      pub hold : (j : Judged) → j.rows ≡ rows → table_of j.table ≡ second
          → AreValid rows weak gentle first second → IsJudgement s chosen f certificate (Ok j)
      hold j rows_are table_is valid = (
        record { held = held valid.0; valid = valid.1 },
        sym rows_are,
        sym table_is,
      )
