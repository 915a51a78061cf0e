-- Reading parameters, records and instances by the table, from one reading to another.
use Rattle.std.specs.Prelude.{◌≡◌, ℕ, ◌+◌, List, [], ◌∷◌, ◌++◌, Option, Some, None, Result, Bool, true, false, if◌then◌else◌}
use Rattle.parsing.specs.Lexers as lexers
use Rattle.parsing.specs.steps.Steps as steps
use Rattle.step_lexer.specs.declared.token.Mark.TheVariants.{Open, Close, Comma}
use Rattle.step_lexer.specs.declared.token.Sort.{Sort}
use Rattle.step_lexer.specs.declared.token.Token.{Token}
use Rattle.step_lexer.specs.Reading.{Reading, Takes}
use Rattle.step_records.specs.Cells.{all_of}
use Rattle.step_records.specs.steps.Tokens.{leaf_of, leaf_tree}
use Rattle.step_records.specs.declared.cell.Leaf.{Leaf}
use Rattle.step_records.specs.declared.cell.Leaf.TheVariants.{Keyword}
use Rattle.step_records.specs.steps.Readers.{Progress, reading}
use Rattle.step_structures.specs.declared.fault.FaultKind.{FaultKind}
use Rattle.step_structures.specs.declared.fault.TextFault.{TextFault}
use Rattle.step_structures.specs.declared.fault.TextFault.TheVariants as faults
use Rattle.step_structures.specs.Words.{mark, LocatedToken, located, Shows}
use Rattle.step_structures.specs.Trees.{Tree, Item, this, MeetAll, items_of_tree, items_of_list}
use Rattle.step_structures.specs.Fits.{the_rules, FitsTree, FitsTrees}
use Rattle.step_structures.specs.steps.Predict.{Symbol, Just, Value, Items, is_mark, table, params_symbols}

-- the kind and the byte offset of a fault, or None if memory ran out
abbrev pub fault_at : TextFault → Option (FaultKind × ℕ)
fault_at faults.Memory = None
fault_at (faults.Fault kind place) = Some (kind, place)

-- The expected symbols, at the start or after these tokens, don't match: there is this fault, whatever follows
-- it.
abbrev pub StopsIn : TextFault → List Symbol → List LocatedToken → Reading → Type 0
StopsIn e ys before old = lexers.StopsIn table Shows (fault_at e) ys before old

-- The tokens that the items require, some of which are already read, lie between one reading and another. They
-- turn the expected symbols ys into zs.
abbrev pub Passes : List Symbol → List Symbol → List LocatedToken → List Item → Reading → Reading → Type 0
Passes ys zs before items old new = steps.Passes table Shows MeetAll ys zs before items old new

-- A parser of these symbols. If it succeeds, the items of its result describe what lies between one reading and
-- another, the symbols derive them, and the result satisfies `Holds`. If it fails, the symbols don't match.
abbrev pub ParsesWhere : {A : Type 0} → Result A TextFault → List Symbol → (A → List Item) → (A → Type 0) → Reading
    → Reading → Type 0
ParsesWhere result ys items Holds old new = steps.ParsesWhere table Shows MeetAll fault_at result ys items Holds old new

-- after the keyword of a typed parameter
abbrev pub inner_symbols : ℕ → List Symbol
inner_symbols n = Just Open ∷ Value (n + 1) ∷ Just Close ∷ []

-- one more tree is pending
abbrev pub Pushes : Progress → Tree → Progress → Type 0
Pushes old x new = new.built ≡ record old.built { pending = old.built.pending ++ x ∷ [] }

-- these trees become pending too
abbrev pub PushesAll : Progress → List Tree → Progress → Type 0
PushesAll old xs new = new.built ≡ record old.built { pending = old.built.pending ++ xs }

-- the parameter in parentheses after the keyword of a typed one
pub record TakesInner (depth : ℕ) (old new : Progress) : Type 0 where
  pub tree : Tree
  pub pushes : Pushes old tree new
  pub fits : FitsTree the_rules (depth + 1) tree
  pub passes : Passes (inner_symbols depth) [] [] (this (mark Open) ∷ (items_of_tree tree ++ this (mark Close) ∷ []))
      (reading old) (reading new)

-- the parameter that begins with this token
pub record TakesValue (depth : ℕ) (first : LocatedToken) (old new : Progress) : Type 0 where
  pub tree : Tree
  pub pushes : Pushes old tree new
  pub fits : FitsTree the_rules depth tree
  pub passes : Passes (Value depth ∷ []) [] (first ∷ []) (items_of_tree tree) (reading old) (reading new)

-- a token of this sort is a parameter by itself, a leaf of this kind
abbrev pub IsParameter : Leaf → Sort → Type 0
IsParameter kind sort = (leaf_of sort ≡ Some kind) × (kind ≡ Keyword → ⊥)

-- the next token is a parameter by itself; it is read, and pending
pub record PushesLeaf (old new : Progress) : Type 0 where
  pub token : Token
  pub taken : Takes (reading old) token (reading new)
  pub kind : Leaf
  pub is : IsParameter kind token.sort
  pub pushes : Pushes old (leaf_tree token) new

-- a parameter that is one token is read and pending, or nothing is read
abbrev pub PushesNext : Bool → Progress → Progress → Type 0
PushesNext true old new = PushesLeaf old new
PushesNext false old new = new ≡ old

-- the next token is a keyword; it is read, and pending
pub record PushesKeyword (old new : Progress) : Type 0 where
  pub token : Token
  pub taken : Takes (reading old) token (reading new)
  pub is : leaf_of token.sort ≡ Some Keyword
  pub pushes : Pushes old (leaf_tree token) new

-- a keyword is read and pending, or nothing is read
abbrev pub PushesWord : Bool → Progress → Progress → Type 0
PushesWord true old new = PushesKeyword old new
PushesWord false old new = new ≡ old

-- the next parameter; `mid` is the progress after its first token
pub record TakesItem (depth : ℕ) (old new : Progress) : Type 0 where
  pub token : Token
  pub mid : Progress
  pub taken : Takes (reading old) token (reading mid)
  pub same : mid.built ≡ old.built
  pub value : TakesValue depth (located token) mid new

-- the parameters of a list, and the closing parenthesis
pub record TakesItems (depth : ℕ) (old new : Progress) : Type 0 where
  pub trees : List Tree
  pub pushes : PushesAll old trees new
  pub fits : FitsTrees the_rules depth (all_of trees)
  pub passes : Passes (Items depth ∷ []) [] [] (items_of_list (all_of trees)) (reading old) (reading new)

-- after the opening parenthesis of a list, its first parameter, or its closing parenthesis
abbrev pub BeginsItems : Bool → ℕ → Progress → Progress → Type 0
BeginsItems true depth old new =
    (first : TakesItem depth old new) × (is_mark Close (located first.token).lookahead ≡ false)
BeginsItems false depth old new = TakesItems depth old new

-- the next parameter, which doesn't close a list, is read, or nothing is read
abbrev pub TakesNext : Bool → ℕ → Progress → Progress → Type 0
TakesNext true depth old new = BeginsItems true depth old new
TakesNext false depth old new = new ≡ old

-- neither a parameter nor the beginning of those of a list comes next
abbrev pub StopsAnyway : TextFault → ℕ → Reading → Type 0
StopsAnyway e depth old = StopsIn e (Value depth ∷ []) [] old × StopsIn e (Items depth ∷ []) [] old

-- after a parameter, a comma or the parenthesis that closes the list
pub record GoesOn (more : Bool) (old new : Progress) : Type 0 where
  pub token : Token
  pub taken : Takes (reading old) token (reading new)
  pub same : new.built ≡ old.built
  pub is : is_mark (if more then Comma else Close) (located token).lookahead ≡ true

-- the parameters of a list, with both parentheses
pub record TakesParams (depth : ℕ) (old new : Progress) : Type 0 where
  pub trees : List Tree
  pub pushes : PushesAll old trees new
  pub fits : FitsTrees the_rules (depth + 1) (all_of trees)
  pub passes : Passes (params_symbols depth) [] [] (this (mark Open) ∷ items_of_list (all_of trees)) (reading old)
      (reading new)
