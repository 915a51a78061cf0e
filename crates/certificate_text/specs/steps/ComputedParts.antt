-- What the code computes; no promise stands here. How far a certificate is read, and what may
-- follow.
use Rattle.std.specs.Prelude.{◌≡◌, ◌<◌, ◌^◌, ◌++◌, ◌⊎◌, ⊤, ℕ, suc, List, [], ◌∷◌, length, codes}
use Rattle.value_equality.specs.Tables.{Origin, start, split, Table}
use Rattle.value_equality.specs.Standard.{IsParent}
use Rattle.value_equality.specs.TableViews.{table_of}
use Rattle.certificate_text.specs.Texts.{rounds_line, class_line, member_line, table_lines, certificate_lines}
use Rattle.certificate_text.specs.declared.reader.Part.{Part}
use Rattle.certificate_text.specs.declared.reader.Part.TheVariants.{Opening, Heading, FirstRounds, First, SecondRounds, Second, Ended}
use Rattle.certificate_text.specs.declared.reader.Reader.{Reader}
use Rattle.certificate_text.specs.declared.fault.CertFault.{CertFault}
use Rattle.certificate_text.specs.declared.fault.CertFault.TheVariants.{OldVersion, BadText, Memory}
use Rattle.certificate_text.specs.Faults.{IsBadLine}
use Rattle.value_equality.specs.declared.table.Table as declared

-- numbers of 32 bits
abbrev pub IsShort : Origin → Type 0
IsShort start = ⊤
IsShort (split parent round) = (parent < 2 ^ 32) × (round < 2 ^ 32)

-- the next class of a table can have this origin
abbrev pub Fits : Table → Origin → Type 0
Fits t start = ⊤
Fits t (split parent round) = IsParent t (length t.classes) parent round

abbrev pub with_class : Table → Origin → Table
with_class t o = record t { classes = t.classes ++ (o ∷ []) }

abbrev pub with_member : Table → ℕ × ℕ → Table
with_member t m = record t { members = t.members ++ (m ∷ []) }

abbrev pub with_rounds : Table → ℕ → Table
with_rounds t k = record t { rounds = k }

-- the line is that of the next class of a table
pub record AddsClass (t : Table) (l : List ℕ) (u : Table) : Type 0 where
  pub origin : Origin
  pub no_member : t.members ≡ []
  pub few : suc (length t.classes) < 2 ^ 32
  pub short : IsShort origin
  pub fits : Fits t origin
  pub line_is : l ≡ class_line (length t.classes) origin
  pub table_is : u ≡ with_class t origin

-- the line is that of the next member of a table
pub record AddsMember (t : Table) (l : List ℕ) (u : Table) : Type 0 where
  pub member : ℕ × ℕ
  pub short : member.0 < 2 ^ 64
  pub short_class : member.1 < 2 ^ 32
  pub declared : member.1 < length t.classes
  pub line_is : l ≡ member_line member
  pub table_is : u ≡ with_member t member

abbrev pub Adds : Table → List ℕ → Table → Type 0
Adds t l u = AddsClass t l u ⊎ AddsMember t l u

-- how far a certificate is read, with its tables so far
pub record Reading : Type 0 where
  pub part : Part
  pub first : Table
  pub second : Table

abbrev pub reading_of : Reader → Reading
reading_of r = record { part = r.part; first = table_of r.first; second = table_of r.second }

abbrev pub TakesAt : Part → Reading → List ℕ → Reading → Type 0
TakesAt Opening a l b = (l ≡ codes "STEPCERT 2") × (b ≡ record a { part = Heading })
TakesAt Heading a l b = (l ≡ codes "table 1") × (b ≡ record a { part = FirstRounds })
TakesAt FirstRounds a l b = (k : ℕ) × (k < 2 ^ 32) × (l ≡ rounds_line k)
    × (b ≡ record a { part = First; first = with_rounds a.first k })
TakesAt First a l b = ((l ≡ codes "table 2") × (b ≡ record a { part = SecondRounds }))
    ⊎ ((t : Table) × Adds a.first l t × (b ≡ record a { first = t }))
TakesAt SecondRounds a l b = (k : ℕ) × (k < 2 ^ 32) × (l ≡ rounds_line k)
    × (b ≡ record a { part = Second; second = with_rounds a.second k })
TakesAt Second a l b = ((l ≡ codes "end") × (b ≡ record a { part = Ended }))
    ⊎ ((t : Table) × Adds a.second l t × (b ≡ record a { second = t }))
TakesAt Ended a l b = ⊥

-- one more line is read
abbrev pub Takes : Reading → List ℕ → Reading → Type 0
Takes a l b = TakesAt a.part a l b

-- the lines that are read
abbrev pub lines_at : Part → Table → Table → List (List ℕ)
lines_at Opening s t = []
lines_at Heading s t = codes "STEPCERT 2" ∷ []
lines_at FirstRounds s t = codes "STEPCERT 2" ∷ codes "table 1" ∷ []
lines_at First s t = codes "STEPCERT 2" ∷ codes "table 1" ∷ table_lines s
lines_at SecondRounds s t = codes "STEPCERT 2" ∷ codes "table 1" ∷ (table_lines s ++ (codes "table 2" ∷ []))
lines_at Second s t = codes "STEPCERT 2" ∷ codes "table 1" ∷ (table_lines s ++ (codes "table 2" ∷ table_lines t))
lines_at Ended s t = certificate_lines s t

abbrev pub lines_of : Reading → List (List ℕ)
lines_of a = lines_at a.part a.first a.second

-- nothing of the table is read yet
abbrev pub IsFresh : declared.Table → Type 0
IsFresh t = (t.rounds ≡ 0) × (t.classes.items ≡ []) × (t.members.items ≡ [])

-- the first bad line, or memory ran out
abbrev pub IsRefusal : List ℕ → CertFault → Type 0
IsRefusal text OldVersion = ⊥
IsRefusal text (BadText line) = IsBadLine text line
IsRefusal text Memory = ⊤
