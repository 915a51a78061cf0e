-- Files that are rewritten with each reference mapped to a name. Other literals keep their
-- spelling.
use Rattle.std.specs.Prelude.{◌≡◌, ⊤, ℕ, List, [], ◌∷◌, Some}
use Rattle.step_literals.specs.Words.{upper}
use Rattle.step_structures.specs.Words as words
use Rattle.step_structures.specs.Words.{Word}
use Rattle.step_structures.specs.Trees as trees
use Rattle.step_structures.specs.Trees.{Tree, Trees, Record, Form, internal, external, ExchangeRow, File, rows_of}
use Rattle.express_syntax.specs.Schemas.{Schema}
use Rattle.schema_semantics.specs.Names.{Name, Among}
use Rattle.conformance.specs.Bases.{Domain}
use Rattle.conformance.specs.Entities.{Entities}
use Rattle.conformance.specs.Findings.{is_of_schema}
use Rattle.conformance.specs.Populations.{instance_of, population_of}
use Rattle.conformance.specs.Conforming.{typing_of}
use Rattle.conformance.specs.Images.{KeepsInstanceApart}

module _ (h : ℕ → ℕ) where
  -- The token `v` is `w` with its name mapped. The letters of an enumeration item may change their
  -- case.
  abbrev pub WordLed : Word → Word → Type 0
  WordLed (words.name y t) v = (u : List ℕ) × (v ≡ words.name (h y) u)
  WordLed (words.element t) v = (u : List ℕ) × (v ≡ words.element u) × (upper t ≡ upper u)
  WordLed w v = v ≡ w

  abbrev mutual
    -- The second parameter is the first with its references mapped.
    pub TreeLed : Tree → Tree → Type 0
    TreeLed (trees.leaf w) (trees.leaf v) = WordLed w v
    TreeLed (trees.typed n x) (trees.typed m y) = (upper n ≡ upper m) × TreeLed x y
    TreeLed (trees.group xs) (trees.group ys) = TreesLed xs ys
    TreeLed x y = ⊥

    pub TreesLed : Trees → Trees → Type 0
    TreesLed trees.none trees.none = ⊤
    TreesLed (trees.one x xs) (trees.one y ys) = TreeLed x y × TreesLed xs ys
    TreesLed xs ys = ⊥

  abbrev pub RecordLed : Record → Record → Type 0
  RecordLed p q = (upper p.keyword ≡ upper q.keyword) × TreesLed p.values q.values

  abbrev pub RecordsLed : List Record → List Record → Type 0
  RecordsLed [] [] = ⊤
  RecordsLed (p ∷ ps) (q ∷ qs) = RecordLed p q × RecordsLed ps qs
  RecordsLed ps qs = ⊥

  abbrev pub FormLed : Form → Form → Type 0
  FormLed (internal p) (internal q) = RecordLed p q
  FormLed (external ps) (external qs) = RecordsLed ps qs
  FormLed f g = ⊥

module _ (s : Schema) (d : Domain) (en : Entities) (h : ℕ → ℕ) where
  -- `g` is rewritten from `f`. Each instance of `g` is one of `f` with its references mapped by
  -- `h`, which keeps the elements of its values apart. `h` maps each name in `f` to an instance of
  -- `g` with the same types. `g` calls the schema by one of these names if and only if `f` does.
  pub record IsRewritten (f g : File) : Type 0 where
    pub schema : (others : List Name) → is_of_schema s others g ≡ is_of_schema s others f
    pub led : (q : ExchangeRow) → Among q (rows_of g.sections)
        → (r : ExchangeRow) × Among r (rows_of f.sections) × FormLed h r.form q.form
        × KeepsInstanceApart s d en h (instance_of s d en 0 r)
    pub types : (y : ℕ) (types : List Name) → typing_of (population_of s d en f) y ≡ Some types
        → typing_of (population_of s d en g) (h y) ≡ Some types
