-- When a value of an expression equals that in another population, with references mapped, and the
-- elements of SETs and BAGs in any order.
use Rattle.std.specs.Prelude.{◌≡◌, ⊤, ℕ}
use Rattle.express_logic.specs.Data.{Shape, bag, Datum, indeterminate, number, text, bits, element, logical, instance, typed, aggregate, Data, none, more}

-- The lists have the same elements, in any order.
pub data IsDataReordering : Data → Data → Type 0 where
  unchanged : (ds : Data) → IsDataReordering ds ds
  kept : {ds es : Data} → (d : Datum) → IsDataReordering ds es → IsDataReordering (more d ds) (more d es)
  swapped : (d e : Datum) (ds : Data) → IsDataReordering (more d (more e ds)) (more e (more d ds))
  joined : {cs ds es : Data} → IsDataReordering cs ds → IsDataReordering ds es → IsDataReordering cs es

-- The elements of a SET or BAG are equal in any order, those of other aggregates in order.
abbrev pub InOrder : Shape → Data → Data → Type 0
InOrder bag ds es = IsDataReordering ds es
InOrder s ds es = ds ≡ es

-- `led` relates each instance to its image.
module _ (led : ℕ → ℕ → Type 0) where
  abbrev mutual
    -- The values are equal, with references related by `led`.
    pub Alike : Datum → Datum → Type 0
    Alike indeterminate indeterminate = ⊤
    Alike (number y) (number z) = y ≡ z
    Alike (text s) (text t) = s ≡ t
    Alike (bits b) (bits c) = b ≡ c
    Alike (element e) (element f) = e ≡ f
    Alike (logical p) (logical q) = p ≡ q
    Alike (instance y) (instance z) = led y z
    Alike (typed n d) (typed m e) = (n ≡ m) × Alike d e
    Alike (aggregate s ds) (aggregate t es) = (s ≡ t) × ((us : Data) × AlikeEach ds us × InOrder s us es)
    Alike d e = ⊥

    pub AlikeEach : Data → Data → Type 0
    AlikeEach none none = ⊤
    AlikeEach (more d ds) (more e es) = Alike d e × AlikeEach ds es
    AlikeEach ds es = ⊥

  -- The elements of two aggregates of this shape are equal, with references related by `led`.
  abbrev pub AlikeIn : Shape → Data → Data → Type 0
  AlikeIn s ds es = (us : Data) × AlikeEach ds us × InOrder s us es
