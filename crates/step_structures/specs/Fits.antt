-- Which exchange structures are read: limits, distinct names, and the first records of the header (ISO
-- 10303-21, 8.2 and 11).
use Rattle.std.specs.Prelude.{◌≡◌, ℕ, ◌+◌, ◌-◌, ◌<◌, ◌≤◌, ◌^◌, Bool, true, false, ◌||◌, ◌==◌, List, [], ◌∷◌, ◌++◌, length, codes}
use Rattle.step_lexer.specs.declared.token.Mark.TheVariants.{Dollar, Asterisk}
use Rattle.step_structures.specs.Words.{Word, name, number, element, string, binary, mark}
use Rattle.step_structures.specs.Trees.{Tree, leaf, typed, group, Trees, none, one, Record, Form, internal, external, ExchangeRow, Section, File, rows_of, is_said}

-- the rules for a structure
pub record StructureRules : Type 0 where
  -- the greatest number of parentheses that may be open at once
  pub levels : ℕ
  -- the greatest number of instances
  pub instances : ℕ
  -- the greatest number of data sections
  pub sections : ℕ
  -- no instance name occurs twice, and no keyword occurs twice in one external record
  pub distinct : Bool
  -- the first three records of the header have their keywords, and FILE_SCHEMA names exactly one schema
  pub headed : Bool

abbrev pub the_rules : StructureRules
the_rules = record { levels = 64; instances = 2 ^ 32 - 1; sections = 2 ^ 32 - 1; distinct = true; headed = true }

-- the tokens that are a whole parameter
abbrev pub IsLeaf : Word → Type 0
IsLeaf (mark Dollar) = Unit {0}
IsLeaf (mark Asterisk) = Unit {0}
IsLeaf (name n text) = Unit {0}
IsLeaf (number text) = Unit {0}
IsLeaf (element text) = Unit {0}
IsLeaf (string text) = Unit {0}
IsLeaf (binary text) = Unit {0}
IsLeaf _ = ⊥

-- with n parentheses open around a parameter, it opens no more than the rules allow
abbrev mutual
  pub FitsTree : StructureRules → ℕ → Tree → Type 0
  FitsTree rules n (leaf w) = IsLeaf w
  FitsTree rules n (typed text x) = (n < rules.levels) × FitsTree rules (n + 1) x
  FitsTree rules n (group xs) = (n < rules.levels) × FitsTrees rules (n + 1) xs

  pub FitsTrees : StructureRules → ℕ → Trees → Type 0
  FitsTrees rules n none = Unit {0}
  FitsTrees rules n (one x xs) = FitsTree rules n x × FitsTrees rules n xs

abbrev pub FitsRecord : StructureRules → ℕ → Record → Type 0
FitsRecord rules n p = (n < rules.levels) × FitsTrees rules (n + 1) p.values

-- A holds if the rule applies
abbrev pub Where : Bool → Type 0 → Type 0
Where true A = A
Where false A = Unit {0}

abbrev pub has_keyword : List ℕ → List (List ℕ) → Bool
has_keyword word [] = false
has_keyword word (w ∷ ws) = is_said w word || has_keyword word ws

-- partial records whose keywords are distinct, and none of these
abbrev pub FitsPartialRecords : StructureRules → List (List ℕ) → List Record → Type 0
FitsPartialRecords rules before [] = Unit {0}
FitsPartialRecords rules before (p ∷ ps) = Where rules.distinct (has_keyword p.keyword before ≡ false)
    × FitsRecord rules 1 p × FitsPartialRecords rules (before ++ p.keyword ∷ []) ps

abbrev pub FitsForm : StructureRules → Form → Type 0
FitsForm rules (internal p) = FitsRecord rules 0 p
FitsForm rules (external ps) = (0 < rules.levels) × (0 < length ps) × FitsPartialRecords rules [] ps

abbrev pub has_name : ℕ → List ℕ → Bool
has_name n [] = false
has_name n (m ∷ ms) = n == m || has_name n ms

-- instances whose names are distinct and none of these, and which together with these aren't too many
abbrev pub FitsRows : StructureRules → List ℕ → List ExchangeRow → Type 0
FitsRows rules before [] = Unit {0}
FitsRows rules before (r ∷ rs) = Where rules.distinct (has_name r.name before ≡ false)
    × (length before < rules.instances) × FitsForm rules r.form × FitsRows rules (before ++ r.name ∷ []) rs

abbrev pub FitsRecords : StructureRules → List Record → Type 0
FitsRecords rules [] = Unit {0}
FitsRecords rules (p ∷ ps) = FitsRecord rules 0 p × FitsRecords rules ps

-- The header has at least three records. This is required with or without each rule, so that an earlier end is
-- a fault of the header.
abbrev pub HasThree : List Record → Type 0
HasThree (p ∷ q ∷ r ∷ more) = Unit {0}
HasThree _ = ⊥

-- the first three records of the header have the keywords that the standard requires
abbrev pub IsHeader : List Record → Type 0
IsHeader (p ∷ q ∷ r ∷ more) = (is_said (codes "FILE_DESCRIPTION") p.keyword ≡ true)
    × (is_said (codes "FILE_NAME") q.keyword ≡ true) × (is_said (codes "FILE_SCHEMA") r.keyword ≡ true)
IsHeader _ = ⊥

-- the parameters of FILE_SCHEMA: one list of one string
abbrev pub NamesSchema : Trees → Type 0
NamesSchema (one (group (one (leaf (string text)) none)) none) = Unit {0}
NamesSchema _ = ⊥

abbrev pub FitsHeader : StructureRules → List Record → Type 0
FitsHeader rules header = FitsRecords rules header × HasThree header × Where rules.headed (IsHeader header)

-- there is at least one data section, and not too many; names are distinct across all sections
abbrev pub FitsSections : StructureRules → List Section → Type 0
FitsSections rules xs = (0 < length xs) × (length xs ≤ rules.sections) × FitsRows rules [] (rows_of xs)

-- all that is required of a structure, except of the parameters of FILE_SCHEMA
abbrev pub FitsFile : StructureRules → File → Type 0
FitsFile rules x = FitsHeader rules x.header × FitsSections rules x.sections

-- FILE_SCHEMA, the third record, names one schema
abbrev pub HasSchema : List Record → Type 0
HasSchema (p ∷ q ∷ r ∷ more) = NamesSchema r.values
HasSchema _ = ⊥
