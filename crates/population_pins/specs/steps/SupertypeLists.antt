-- What the code computes; no promise stands here. The supertypes of a form's types, listed and marked.
use Rattle.std.specs.Prelude.{◌≡◌, ℕ, ◌<◌, Bool, true, false, List, [], get_or, length}
use Rattle.graphs.specs.Graphs.{Graph, IsGraph, Step, has}
use Rattle.graphs.specs.Rounds.{AreMarks}
use Rattle.population_forms.specs.steps.Marked.{is_above}
use Rattle.population_pins.specs.declared.supertype_marks.SupertypeMarks.{SupertypeMarks}

-- Each edge leads to a vertex, and where two edges lead in turn, one leads.
pub record IsTransitive (g : Graph) : Type 0 where
  pub within : IsGraph g
  pub onward : (a b c : ℕ) → Step g a b → Step g b c → Step g a c

-- The declaration is marked.
abbrev pub is_marked : SupertypeMarks → ℕ → Bool
is_marked m i = get_or m.marks.items i false

-- Each vertex has a mark, and exactly the marked ones are listed.
pub record AreMarked (g : Graph) (m : SupertypeMarks) : Type 0 where
  pub same : length m.marks.items ≡ length g
  pub listed : AreMarks m.marks.items m.numbers.items
  pub within : (b : ℕ) → has m.numbers.items b ≡ true → b < length g

-- Each vertex has a mark, and none is set.
pub record AreClear (g : Graph) (m : SupertypeMarks) : Type 0 where
  pub marked : AreMarked g m
  pub empty : m.numbers.items ≡ []

-- Exactly the supertypes of these types are listed.
abbrev pub Lists : Graph → List ℕ → SupertypeMarks → Type 0
Lists g types m = (b : ℕ) → has m.numbers.items b ≡ is_above g types b

-- Exactly the supertypes of some types are listed, and these are supertypes of the given ones.
pub record AreAmong (g : Graph) (types : List ℕ) (m : SupertypeMarks) : Type 0 where
  pub some : List ℕ
  pub among : (b : ℕ) → is_above g some b ≡ true → is_above g types b ≡ true
  pub lists : Lists g some m
