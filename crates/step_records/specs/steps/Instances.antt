-- The instances of a section that are read and built.
use Rattle.std.specs.Prelude.{◌≡◌, ℕ, ◌<◌, false, List, [], ◌∷◌, ◌++◌, ◌⊎◌, length, map, codes, Err}
use Rattle.step_lexer.specs.Reading.{Reading}
use Rattle.step_records.specs.steps.Building.{list_of}
use Rattle.step_records.specs.steps.Readers.{Progress, reading}
use Rattle.step_records.specs.steps.Steps.{Passes, StopsIn}
use Rattle.step_records.specs.steps.Records.{trees_of_form}
use Rattle.step_structures.specs.declared.fault.FaultKind.{FaultKind}
use Rattle.step_structures.specs.declared.fault.TextFault.{TextFault}
use Rattle.step_structures.specs.declared.fault.TextFault.TheVariants as faults
use Rattle.step_structures.specs.Words.{name, token, LocatedToken}
use Rattle.step_structures.specs.Trees.{Tree, ExchangeRow, section, items_of_rows}
use Rattle.step_structures.specs.Fits.{the_rules, FitsRows, has_name}
use Rattle.step_structures.specs.steps.Predict.{Rows, Sections, table}
use Rattle.step_structures.specs.Texts.{IsMemory}

abbrev pub names_of : List ExchangeRow → List ℕ
names_of rs = map (λ (r : ExchangeRow). r.name) rs

-- the tree that is kept for an instance
abbrev pub tree_of_row : ExchangeRow → Tree
tree_of_row r = list_of (trees_of_form r.form)

-- after these names, an instance with this name may follow
pub record IsNextName (names : List ℕ) (s : LocatedToken) (n : ℕ) : Type 0 where
  pub text : List ℕ
  pub is : s.lookahead ≡ token (name n text)
  pub alone : has_name n names ≡ false
  pub few : length names < the_rules.instances

-- after these names, this token can't be an instance name, and e is its fault
pub record IsNoName (names : List ℕ) (s : LocatedToken) (e : TextFault) : Type 0 where
  pub kind : FaultKind
  pub refused : (n : ℕ) → table (Rows n names) s.lookahead ≡ Err kind
  pub fault_is : e ≡ faults.Fault kind s.place

-- memory ran out, or this token can't be an instance name
abbrev pub HasNoName : List ℕ → LocatedToken → TextFault → Type 0
HasNoName names s e = IsMemory e ⊎ IsNoName names s e

-- instances after others with these names, and the end of their section, whatever its number
pub record TakesRows (before after : List ℕ) (old new : Progress) : Type 0 where
  pub rows : List ExchangeRow
  pub are : after ≡ before ++ names_of rows
  pub keeps : new.built ≡ record old.built { kept = old.built.kept ++ map tree_of_row rows }
  pub fits : FitsRows the_rules before rows
  pub passes : (n : ℕ) → Passes (Rows n before ∷ []) (Sections n after ∷ []) [] (items_of_rows rows
      ++ section (codes "ENDSEC")) (reading old) (reading new)

-- why the instances and the end of the section don't follow
abbrev pub StopsInRows : TextFault → List ℕ → Reading → Type 0
StopsInRows e names old = (n : ℕ) → StopsIn e (Rows n names ∷ []) [] old
