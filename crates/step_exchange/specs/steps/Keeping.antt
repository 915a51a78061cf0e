-- What is kept of an exchange structure as it is read.
use Rattle.std.specs.Prelude.{◌≡◌, ℕ, Bool, true, false, List, [], ◌∷◌, ◌++◌, length, map, codes}
use Rattle.step_lexer.specs.declared.token.Mark.TheVariants.{Open, Semicolon}
use Rattle.step_lexer.specs.declared.token.Token.{Token}
use Rattle.step_records.specs.Cells.{all_of}
use Rattle.step_records.specs.steps.Tokens.{leaf_tree}
use Rattle.step_records.specs.steps.Readers.{Progress, reading}
use Rattle.step_records.specs.steps.Steps.{Passes, PushesAll}
use Rattle.step_records.specs.steps.Records.{tree_of_record}
use Rattle.step_records.specs.steps.Instances.{names_of, tree_of_row}
use Rattle.step_structures.specs.Words.{mark}
use Rattle.step_structures.specs.Trees.{Tree, Record, ExchangeRow, this, is_said, items_of_record, items_of_list, section}
use Rattle.step_structures.specs.Fits.{the_rules, FitsTrees, FitsRecord, NamesSchema}
use Rattle.step_structures.specs.steps.Predict.{Head, Just, Records}
use Rattle.step_exchange.specs.declared.section.Section as code
use Rattle.step_exchange.specs.Sections.{CountsTo, sections_of}
use Rattle.step_exchange.specs.steps.Steps.{Starts, IsHead, TakesHead, after_keyword, HeaderSoFar, TakesHeader, TakesData}

-- these records are kept too
abbrev pub Keeps : Progress → List Record → Progress → Type 0
Keeps old ps new = new.built ≡ record old.built { kept = old.built.kept ++ map tree_of_record ps }

-- The text begins at this byte offset with what comes before the header's records. Nothing is built from it.
pub record BeginsHeader (place : ℕ) (old new : Progress) : Type 0 where
  pub same : new.built ≡ old.built
  pub starts : Starts (reading old) place (reading new)

-- a record of the header with this keyword, at this byte offset, without its semicolon
pub record KeepsHead (word : List ℕ) (place : ℕ) (old new : Progress) : Type 0 where
  pub p : Record
  pub keeps : Keeps old (p ∷ []) new
  pub takes : TakesHead word (reading old) p place (reading new)

-- a record of the header with this keyword, and its semicolon
pub record KeepsLine (word : List ℕ) (old new : Progress) : Type 0 where
  pub p : Record
  pub keeps : Keeps old (p ∷ []) new
  pub is : IsHead word p
  pub passes : Passes (Head word ∷ Just Semicolon ∷ []) [] [] (items_of_record p ++ this (mark Semicolon) ∷ [])
      (reading old) (reading new)

-- FILE_SCHEMA, which names exactly one schema
pub record KeepsSchema (old new : Progress) : Type 0 where
  pub line : KeepsLine (codes "FILE_SCHEMA") old new
  pub named : NamesSchema line.p.values

-- after the keyword of one more record, its parameters; the record is pending
pub record PushesKeyed (first : Token) (text : List ℕ) (old new : Progress) : Type 0 where
  pub trees : List Tree
  pub pushes : PushesAll old (leaf_tree first ∷ trees) new
  pub fits : FitsTrees the_rules 1 (all_of trees)
  pub passes : Passes (after_keyword text) (Just Semicolon ∷ Records ∷ []) []
      (this (mark Open) ∷ items_of_list (all_of trees)) (reading old) (reading new)

-- after the keyword ENDSEC, the semicolon that ends the header
pub record EndsKeyed (text : List ℕ) (old new : Progress) : Type 0 where
  pub same : new.built ≡ old.built
  pub ends : is_said (codes "ENDSEC") text ≡ true
  pub passes : Passes (after_keyword text) [] [] (this (mark Semicolon) ∷ []) (reading old) (reading new)

-- after a keyword, the parameters of a record, or the semicolon that ends the header
abbrev pub TakesKeyed : Bool → Token → List ℕ → Progress → Progress → Type 0
TakesKeyed true first text old new = PushesKeyed first text old new
TakesKeyed false first text old new = EndsKeyed text old new

-- one more record of the header
pub record KeepsRecord (old new : Progress) : Type 0 where
  pub p : Record
  pub keeps : Keeps old (p ∷ []) new
  pub fits : FitsRecord the_rules 0 p
  pub passes : Passes (Records ∷ []) (Records ∷ []) [] (items_of_record p ++ this (mark Semicolon) ∷ []) (reading old)
      (reading new)

-- the end of the header
pub record EndsRecords (old new : Progress) : Type 0 where
  pub same : new.built ≡ old.built
  pub passes : Passes (Records ∷ []) [] [] (section (codes "ENDSEC")) (reading old) (reading new)

-- one more record of the header, or its end
abbrev pub TakesNext : Bool → Progress → Progress → Type 0
TakesNext true old new = KeepsRecord old new
TakesNext false old new = EndsRecords old new

-- the header so far
pub record KeepsSoFar (old : Progress) (place : ℕ) (here : Progress) : Type 0 where
  pub header : List Record
  pub keeps : Keeps old header here
  pub so : HeaderSoFar (reading old) place header (reading here)

-- a header
pub record KeepsHeader (old : Progress) (place : ℕ) (new : Progress) : Type 0 where
  pub header : List Record
  pub keeps : Keeps old header new
  pub takes : TakesHeader (reading old) place header (reading new)

-- the data sections and the end of the file; the instances have these names
pub record KeepsData (sections : List code.Section) (names : List ℕ) (old new : Progress) : Type 0 where
  pub rows : List ExchangeRow
  pub named : names ≡ names_of rows
  pub keeps : new.built ≡ record old.built { kept = old.built.kept ++ map tree_of_row rows }
  pub takes : TakesData (sections_of 0 sections rows) (reading old) (reading new)
  pub counts : CountsTo 0 sections (length names)
