-- The laws of certificates' texts.
use Rattle.std.specs.Prelude.{◌≡◌, ◌≢◌, ◌⊎◌, ℕ, List}
use Rattle.value_equality.specs.Tables.{Table}
use Rattle.certificate_text.specs.Texts.{IsCertificate}
use Rattle.certificate_text.specs.Faults.{IsBadLine, IsCertificateFaultOf}
use Rattle.certificate_text.specs.declared.fault.CertFault.{CertFault}
use Rattle.certificate_text.specs.declared.fault.CertFault.TheVariants.{Memory}

-- A text is the certificate of at most one pair of tables.
abbrev pub CertificatesAreOne : Type 0
CertificatesAreOne =
    (text : List ℕ) (s t u v : Table) → IsCertificate text s t → IsCertificate text u v → (s ≡ u) × (t ≡ v)

-- A certificate has no fault, except that memory can run out.
abbrev pub CertificatesHaveNoFault : Type 0
CertificatesHaveNoFault =
    (text : List ℕ) (s t : Table) (e : CertFault) → IsCertificate text s t → IsCertificateFaultOf text e → e ≡ Memory

-- Each text is a certificate, or has a fault other than `Memory`.
abbrev pub EachTextIsAnswered : Type 0
EachTextIsAnswered = (text : List ℕ) → ((s : Table) × (t : Table) × IsCertificate text s t)
    ⊎ ((e : CertFault) × (e ≢ Memory) × IsCertificateFaultOf text e)

-- A text has at most one first bad line.
abbrev pub BadLinesAreOne : Type 0
BadLinesAreOne = (text : List ℕ) (m n : ℕ) → IsBadLine text m → IsBadLine text n → m ≡ n
