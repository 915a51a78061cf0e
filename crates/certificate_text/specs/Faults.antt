-- Why a text is no certificate.
use Rattle.std.specs.Prelude.{◌≡◌, ⊤, ℕ, suc, not, ◌==◌, List, [], ◌∷◌, ◌++◌, length, codes}
use Rattle.value_equality.specs.Tables.{Table}
use Rattle.step_literals.specs.Bytes.{Each}
use Rattle.certificate_text.specs.Texts.{certificate_lines, text_of, IsHeld, IsCertificate}
use Rattle.certificate_text.specs.declared.fault.CertFault.{CertFault}
use Rattle.certificate_text.specs.declared.fault.CertFault.TheVariants.{OldVersion, BadText, Memory}

-- The first line is that of version 1, and a line feed ends it.
abbrev pub IsOld : List ℕ → Type 0
IsOld text = (rest : List ℕ) × (text ≡ codes "STEPCERT 1" ++ (10 ∷ rest))

-- Some certificate begins with these lines.
pub record BeginsCertificate (lines : List (List ℕ)) : Type 0 where
  pub first : Table
  pub second : Table
  pub first_held : IsHeld first
  pub second_held : IsHeld second
  pub more : List (List ℕ)
  pub lines_are : certificate_lines first second ≡ lines ++ more

-- it contains no byte 10
abbrev pub IsLine : List ℕ → Type 0
IsLine l = Each (λ b. not (b == 10)) l

-- The text is no certificate. This line, counted from 1, is the first with which no certificate
-- continues. Some certificate begins with the lines before it, each of which a line feed ends. If a
-- line feed ends this line, no certificate begins with the lines before it and this line.
pub record IsBadLine (text : List ℕ) (line : ℕ) : Type 0 where
  pub before : List (List ℕ)
  pub left : List ℕ
  pub text_is : text ≡ text_of before ++ left
  pub viable : BeginsCertificate before
  pub refused : (l rest : List ℕ) → left ≡ l ++ (10 ∷ rest) → IsLine l → BeginsCertificate (before ++ (l ∷ [])) → ⊥
  pub unread : (s t : Table) → IsCertificate text s t → ⊥
  pub line_is : line ≡ suc (length before)

-- Memory can run out for any text.
abbrev pub IsCertificateFaultOf : List ℕ → CertFault → Type 0
IsCertificateFaultOf text OldVersion = IsOld text
IsCertificateFaultOf text (BadText line) = (IsOld text → ⊥) × IsBadLine text line
IsCertificateFaultOf text Memory = ⊤
