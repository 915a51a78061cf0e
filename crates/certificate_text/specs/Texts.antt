-- The text of a certificate: its lines, each ended by byte 10. `decimal` is a number without
-- leading zeros.
use Rattle.std.specs.Prelude.{◌≡◌, ◌<◌, ◌^◌, ◌++◌, ℕ, suc, List, [], ◌∷◌, map, length, codes, decimal, All}
use Rattle.value_equality.specs.Tables.{Origin, start, split, Table}
use Rattle.value_equality.specs.Standard.{IsWellFormed}

-- the last round: `rounds 2`
abbrev pub rounds_line : ℕ → List ℕ
rounds_line k = codes "rounds " ++ decimal k

-- the text after the number of a class: nothing, or `=C1@2`
abbrev pub origin_text : Origin → List ℕ
origin_text start = []
origin_text (split parent round) = codes "=C" ++ (decimal parent ++ (codes "@" ++ decimal round))

-- a class and its origin: `C1`, or `C3=C1@2`
abbrev pub class_line : ℕ → Origin → List ℕ
class_line n o = codes "C" ++ (decimal n ++ origin_text o)

-- a member and its class at the last round: `#17=C3`
abbrev pub member_line : ℕ × ℕ → List ℕ
member_line m = codes "#" ++ (decimal m.0 ++ (codes "=C" ++ decimal m.1))

-- one line for each class, numbered from n on
abbrev pub class_lines : ℕ → List Origin → List (List ℕ)
class_lines n [] = []
class_lines n (o ∷ os) = class_line n o ∷ class_lines (suc n) os

abbrev pub table_lines : Table → List (List ℕ)
table_lines t = rounds_line t.rounds ∷ (class_lines 0 t.classes ++ map member_line t.members)

abbrev pub certificate_lines : Table → Table → List (List ℕ)
certificate_lines s t =
    codes "STEPCERT 2" ∷ codes "table 1" ∷ (table_lines s ++ (codes "table 2" ∷ (table_lines t ++ (codes "end" ∷ []))))

-- lines, each ended by byte 10
abbrev pub text_of : List (List ℕ) → List ℕ
text_of [] = []
text_of (l ∷ ls) = l ++ (10 ∷ text_of ls)

abbrev pub certificate_text : Table → Table → List ℕ
certificate_text s t = text_of (certificate_lines s t)

-- A certificate can hold the table. The table is well formed: the parent of a class has a smaller
-- number and began before the class, each class begins by the last round, and the class of each
-- member exists. Its numbers are within the limits.
pub record IsHeld (t : Table) : Type 0 where
  pub well_formed : IsWellFormed t
  pub few_rounds : t.rounds < 2 ^ 32
  pub few_classes : length t.classes < 2 ^ 32
  pub names : All (λ m. m.0 < 2 ^ 64) t.members

-- The text is the certificate of these tables.
pub record IsCertificate (text : List ℕ) (s t : Table) : Type 0 where
  pub first_held : IsHeld s
  pub second_held : IsHeld t
  pub text_is : text ≡ certificate_text s t
