-- Records and instances that are read and built.
use Rattle.std.specs.Prelude.{◌≡◌, ℕ, ◌+◌, ◌<◌, Bool, false, List, [], ◌∷◌, ◌++◌, length, map}
use Rattle.std.specs.List.{list_any}
use Rattle.step_lexer.specs.declared.token.Mark.TheVariants.{Open, Close, Semicolon, Equals}
use Rattle.step_lexer.specs.declared.token.Token.{Token}
use Rattle.step_literals.specs.declared.literal.Word as literal
use Rattle.step_records.specs.steps.Building.{list_of}
use Rattle.step_records.specs.Cells.{all_of}
use Rattle.step_records.specs.Params.{trees_in}
use Rattle.step_records.specs.steps.Tokens.{leaf_tree}
use Rattle.step_records.specs.steps.Readers.{Progress, reading}
use Rattle.step_records.specs.steps.Steps.{Passes, Pushes, PushesAll}
use Rattle.step_structures.specs.Words.{mark, keyword, LocatedToken}
use Rattle.step_structures.specs.Trees.{Tree, leaf, group, one, Record, Form, internal, external, this, is_said, items_of_list, items_of_record, items_of_partial_records, items_of_form}
use Rattle.step_structures.specs.Fits.{the_rules, FitsTrees, FitsRecord, FitsPartialRecords, FitsForm, has_keyword}
use Rattle.step_structures.specs.steps.Predict.{Body, PartialRecords, params_symbols, row_symbols}

-- one of these words is this keyword
abbrev pub any_is : List ℕ → List literal.Word → Bool
any_is word ws = list_any (λ (w : literal.Word). is_said w.text.now word) ws

abbrev pub texts_of : List literal.Word → List (List ℕ)
texts_of ws = map (λ (w : literal.Word). w.text.now) ws

abbrev pub keywords_of : List Record → List (List ℕ)
keywords_of ps = map (λ (p : Record). p.keyword) ps

-- a record as a tree: its keyword, then its parameters
abbrev pub tree_of_record : Record → Tree
tree_of_record p = group (one (leaf (keyword p.keyword)) p.values)

-- the trees of an instance: the keyword and parameters of its record, or its partial records
abbrev pub trees_of_form : Form → List Tree
trees_of_form (internal p) = leaf (keyword p.keyword) ∷ trees_in p.values
trees_of_form (external ps) = map tree_of_record ps

-- a record whose keyword is already read
pub record TakesRecord (depth : ℕ) (first : Token) (old new : Progress) : Type 0 where
  pub trees : List Tree
  pub pushes : PushesAll old (leaf_tree first ∷ trees) new
  pub fits : FitsTrees the_rules (depth + 1) (all_of trees)
  pub passes : Passes (params_symbols depth) [] [] (this (mark Open) ∷ items_of_list (all_of trees)) (reading old)
      (reading new)

-- after partial records with these keywords, this one may follow
abbrev pub FitsBehind : List (List ℕ) → Record → Type 0
FitsBehind before p = (has_keyword p.keyword before ≡ false) × FitsRecord the_rules 1 p

-- partial records that may follow each other, at least one
abbrev pub FitsPartials : List Record → Type 0
FitsPartials ps = (0 < length ps) × FitsPartialRecords the_rules [] ps

-- one more partial record, which has this keyword and begins with this token
pub record TakesPartial (before : List (List ℕ)) (first : LocatedToken) (word : literal.Word) (old new : Progress)
    : Type 0 where
  pub partial : Record
  pub keyword_is : word.text.now ≡ partial.keyword
  pub pushes : Pushes old (tree_of_record partial) new
  pub fits : FitsBehind before partial
  pub passes : Passes (PartialRecords before ∷ []) (PartialRecords (before ++ partial.keyword ∷ []) ∷ []) (first ∷ [])
      (items_of_record partial) (reading old) (reading new)

-- the partial records of an external record, and its closing parenthesis
pub record TakesPartials (old new : Progress) : Type 0 where
  pub partials : List Record
  pub pushes : PushesAll old (map tree_of_record partials) new
  pub fits : FitsPartials partials
  pub passes : Passes (PartialRecords [] ∷ []) [] [] (items_of_partial_records partials ++ this (mark Close) ∷ [])
      (reading old) (reading new)

-- the form of an instance, after its `=`
pub record TakesForm (old new : Progress) : Type 0 where
  pub form : Form
  pub pushes : PushesAll old (trees_of_form form) new
  pub fits : FitsForm the_rules form
  pub passes : Passes (Body ∷ []) [] [] (items_of_form form) (reading old) (reading new)

-- an instance after its name, whose tree is kept
pub record TakesRow (old new : Progress) : Type 0 where
  pub form : Form
  pub keeps : new.built ≡ record old.built { kept = old.built.kept ++ list_of (trees_of_form form) ∷ [] }
  pub fits : FitsForm the_rules form
  pub passes : Passes row_symbols [] [] (this (mark Equals) ∷ (items_of_form form ++ this (mark Semicolon) ∷ []))
      (reading old) (reading new)
