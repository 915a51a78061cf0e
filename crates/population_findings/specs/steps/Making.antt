-- The forms of instances, each built once.
use Rattle.std.specs.Prelude.{◌≡◌, ℕ, Bool, List, [], ◌∷◌, ◌++◌, Option, None, Some, length, map, slice_get, nat_eq, Vec}
use Rattle.std.specs.Cmp.Lexicographic.{pointwise}
use Rattle.indexmap.specs.IndexMap.{get}
use Rattle.graphs.specs.Graphs.{graph_of}
use Rattle.express_syntax.specs.Schemas.{Schema}
use Rattle.step_structures.specs.Trees.{Tree, Record, internal, external}
use Rattle.step_structures.specs.Trees as trees
use Rattle.step_exchange.specs.Views.{form_in}
use Rattle.conformance.specs.Entities.{Entities, AreEntities}
use Rattle.population_rows.specs.declared.form.Form.{Form}
use Rattle.population_forms.specs.steps.Forms.{IsFormOf, NameEntities}
use Rattle.population_findings.specs.steps.Rows.{HasFormAmong, AreNumbered}
use Rattle.population_findings.specs.declared.forms.Made.{Made}

abbrev pub some_number : Option (Option ℕ) → Option ℕ
some_number None = None
some_number (Some n) = n

-- the number at index i; None if i is out of range
abbrev pub number_in : List (Option ℕ) → ℕ → Option ℕ
number_in os i = some_number (slice_get os i)

-- the form of instances that are mapped by one record of the entity i
abbrev pub IsInternal : Schema → ℕ → Form → Type 0
IsInternal s i x = (en : Entities) → AreEntities s en → (r : Record) → NameEntities s (r ∷ []) (i ∷ [])
    → IsFormOf s en (internal r) x

-- the form of instances that are mapped by records of the entities is
abbrev pub IsExternal : Schema → List ℕ → Form → Type 0
IsExternal s is x = (en : Entities) → AreEntities s en → (rs : List Record) → NameEntities s rs is
    → IsFormOf s en (external rs) x

-- form number n has the property Is
abbrev pub HasAt : (Form → Type 0) → List Form → ℕ → Type 0
HasAt Is all n = (x : Form) × (slice_get all n ≡ Some x) × Is x

abbrev pub same_items : {Z : Type 0} → Vec ℕ Z → Vec ℕ Z → Bool
same_items x y = pointwise nat_eq x.items y.items

-- Each form that the tables find is that of the entities that it is found by.
pub record AreMade (s : Schema) (t : Made) : Type 0 where
  pub internal : (i n : ℕ) → number_in t.internal.items i ≡ Some n → HasAt (IsInternal s i) t.forms.items n
  pub external : (k : Vec ℕ _) (n : ℕ) → get same_items t.external k ≡ Some n
      → HasAt (IsExternal s k.items) t.forms.items n
  pub types : map (λ (x : Form). x.types.items) t.forms.items ≡ graph_of t.types.items
  pub numbered : (en : Entities) → AreEntities s en → AreNumbered s (graph_of t.types.items)

-- all forms are kept, and new ones are added after them
abbrev pub Goes : Made → Made → Type 0
Goes old new = (more : List Form) × (new.forms.items ≡ old.forms.items ++ more)

-- the form x is added, with the number n
pub record Adds (old : Made) (x : Form) (new : Made) (n : ℕ) : Type 0 where
  pub number : n ≡ length old.forms.items
  pub forms : new.forms.items ≡ old.forms.items ++ x ∷ []
  pub types : graph_of new.types.items ≡ graph_of old.types.items ++ x.types.items ∷ []
  pub internal : new.internal ≡ old.internal
  pub external : new.external ≡ old.external

-- a form with the property Is is found or built, and n is its number
pub record MakesOne (s : Schema) (Is : Form → Type 0) (old new : Made) (n : ℕ) : Type 0 where
  pub made : AreMade s new
  pub goes : Goes old new
  pub has : HasAt Is new.forms.items n

-- n is the number of the form of f, or None if a keyword of f isn't an entity
pub record MakesForm (s : Schema) (f : trees.Form) (old new : Made) (n : Option ℕ) : Type 0 where
  pub made : AreMade s new
  pub goes : Goes old new
  pub has : (en : Entities) → AreEntities s en → HasFormAmong s en new.forms.items f n

-- ns are the numbers of the forms of instances
abbrev pub HaveFormsAmong : Schema → Entities → List Form → List Tree → List (Option ℕ) → Type 0
HaveFormsAmong s en all [] [] = Unit {0}
HaveFormsAmong s en all (x ∷ xs) (n ∷ ns) = HasFormAmong s en all (form_in x) n × HaveFormsAmong s en all xs ns
HaveFormsAmong s en all xs ns = ⊥

pub record MakeForms (s : Schema) (xs : List Tree) (new : Made) (ns : List (Option ℕ)) : Type 0 where
  pub made : AreMade s new
  pub has : (en : Entities) → AreEntities s en → HaveFormsAmong s en new.forms.items xs ns
