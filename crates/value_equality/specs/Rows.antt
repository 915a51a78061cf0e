-- Populations: the contents of the data sections of a file, whatever the order of its instances and
-- the spelling of its literals.
use Rattle.std.specs.Prelude.{◌≡◌, ◌<◌, ℕ, ◌==◌, Bool, true, cond, List, [], ◌∷◌, length, map, Option, Some, None}
use Rattle.std.specs.List.{IsDistinct}
use Rattle.step_values.specs.Values.{Values, AgreeEach}
use Rattle.step_values.specs.References.{renamed_each, EachReferenceOf, EachBagReferenceOf}

-- An instance: its name, its data section (counted from 0), its type words (in upper case, in
-- order, without repeats), and a value for each attribute.
pub record Row : Type 0 where
  pub name : ℕ
  pub section : ℕ
  pub types : List (List ℕ)
  pub values : Values

-- What instances have to share, besides their values, to be merged: their data section and their
-- types. No other definition says this.
abbrev pub Kind : Type 0
Kind = ℕ × List (List ℕ)

abbrev pub row_kind : Row → Kind
row_kind r = (r.section, r.types)

abbrev pub names : List Row → List ℕ
names rows = map (λ r. r.name) rows

-- The first row with this name, if any.
abbrev pub row_at : List Row → ℕ → Option Row
row_at [] x = None
row_at (r ∷ rows) x = cond (r.name == x) (Some r) (row_at rows x)

abbrev pub IsName : List Row → ℕ → Type 0
IsName rows x = (p : Row) × (row_at rows x ≡ Some p)

-- No name occurs twice, and each reference names a row.
pub record IsPopulation (rows : List Row) : Type 0 where
  pub distinct : IsDistinct (◌==◌) (names rows)
  pub closed : (x : ℕ) (p : Row) → row_at rows x ≡ Some p → EachReferenceOf (IsName rows) p.values

-- The rows are of the same kind, and their values agree. References agree if they are equal.
pub record RowsAgree (p q : Row) : Type 0 where
  pub same_kind : row_kind p ≡ row_kind q
  pub values_agree : AgreeEach (◌==◌) p.values q.values

-- Equal populations: the same names, with rows that agree. The order of rows doesn't count.
pub record SamePopulation (P Q : List Row) : Type 0 where
  pub there : (x : ℕ) (p : Row) → row_at P x ≡ Some p → (q : Row) × (row_at Q x ≡ Some q) × RowsAgree p q
  pub back : (x : ℕ) → IsName Q x → IsName P x

-- There are fewer than 2^32 rows, so that numbers of 32 bits distinguish them, with one to spare.
abbrev pub AreFew : List Row → Type 0
AreFew rows = length rows < 4294967296

-- the row with each reference y replaced by h y
abbrev pub renamed_row : (ℕ → ℕ) → Row → Row
renamed_row h r = record r { values = renamed_each h r.values }

-- Each reference, at any depth, in a bag of more than one value names a pinned instance.
abbrev pub BagsArePinned : List Row → (ℕ → Bool) → Type 0
BagsArePinned rows pinned = (x : ℕ) (p : Row) → row_at rows x ≡ Some p → EachBagReferenceOf (λ y. pinned y ≡ true)
    p.values
