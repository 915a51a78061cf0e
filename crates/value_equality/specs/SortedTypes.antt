-- Rows whose type words are in order and without repeats.
use Rattle.std.specs.Prelude.{◌≡◌, ℕ, List}
use Rattle.std.specs.Cmp.Lexicographic.{slice_cmp}
use Rattle.std.specs.List.{list_any}
use Rattle.std.specs.List.Sorted.{IsStrictlySortedBy}
use Rattle.std.specs.Ordering.{nat_cmp}
use Rattle.std.specs.Str.{bytes_eq}
use Rattle.value_equality.specs.Rows.{Row}

-- `types` has the words of `words`, in order and without repeats.
pub record AreInOrder (words types : List (List ℕ)) : Type 0 where
  pub in_order : IsStrictlySortedBy (slice_cmp nat_cmp) types
  pub same : (w : List ℕ) → list_any (bytes_eq w) types ≡ list_any (bytes_eq w) words

-- `q` is `r` with its type words in order and without repeats.
pub record IsSettled (r q : Row) : Type 0 where
  pub name : q.name ≡ r.name
  pub section : q.section ≡ r.section
  pub types : AreInOrder r.types q.types
  pub values : q.values ≡ r.values
