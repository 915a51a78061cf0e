-- The layout of places by classes.
use Rattle.std.specs.Prelude.{◌≡◌, ℕ, ◌<◌, ◌≤◌, List, length, slice_index}
use Rattle.partitions.specs.Inverse.{AreInverse}

-- A partition, laid out as lists. By place: its class, and its index in `order`. By index: the place. By class:
-- the indices at which its places begin, at which the chosen ones begin and at which they end, and the class
-- that it was split off.
pub record Layout : Type 0 where
  pub class : List ℕ
  pub index : List ℕ
  pub order : List ℕ
  pub first : List ℕ
  pub middle : List ℕ
  pub end : List ℕ
  pub parent : List ℕ

-- the number of places, and the number of classes
abbrev pub size : Layout → ℕ
size p = length p.class

abbrev pub count : Layout → ℕ
count p = length p.first

-- the class of a place, and its index in `order`
abbrev pub class_in : Layout → ℕ → ℕ
class_in p x = slice_index p.class x

abbrev pub index_in : Layout → ℕ → ℕ
index_in p x = slice_index p.index x

-- the indices in `order` at which the places of a class begin, at which the chosen ones begin, and at which
-- they end
abbrev pub first_of : Layout → ℕ → ℕ
first_of p c = slice_index p.first c

abbrev pub middle_of : Layout → ℕ → ℕ
middle_of p c = slice_index p.middle c

abbrev pub end_of : Layout → ℕ → ℕ
end_of p c = slice_index p.end c

abbrev pub parent_of : Layout → ℕ → ℕ
parent_of p c = slice_index p.parent c

-- the range of indices of a class; it isn't empty, and its chosen places come last
pub record IsRange (p : Layout) (c : ℕ) : Type 0 where
  pub some : first_of p c < end_of p c
  pub low : first_of p c ≤ middle_of p c
  pub high : middle_of p c ≤ end_of p c
  pub inside : end_of p c ≤ size p

-- the index of a place is in the range of its class
pub record IsWithin (p : Layout) (x : ℕ) : Type 0 where
  pub known : class_in p x < count p
  pub low : first_of p (class_in p x) ≤ index_in p x
  pub high : index_in p x < end_of p (class_in p x)

-- The places of each class are adjacent, with no others among them, and no class is empty.
pub record IsLaid (p : Layout) : Type 0 where
  pub inverse : AreInverse p.order p.index
  pub places : length p.index ≡ size p
  pub middles : length p.middle ≡ count p
  pub ends : length p.end ≡ count p
  pub parents : length p.parent ≡ count p
  pub few : size p < 4294967296
  pub ranges : (c : ℕ) → c < count p → IsRange p c
  pub within : (x : ℕ) → x < size p → IsWithin p x
  pub alone : (c q : ℕ) → c < count p → first_of p c ≤ q → q < end_of p c → class_in p (slice_index p.order q) ≡ c

-- a place is chosen to be split off
abbrev pub IsChosen : Layout → ℕ → Type 0
IsChosen p x = middle_of p (class_in p x) ≤ index_in p x

-- no place is chosen
abbrev pub NoneIsChosen : Layout → Type 0
NoneIsChosen p = (x : ℕ) → x < size p → index_in p x < middle_of p (class_in p x)
