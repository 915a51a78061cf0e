-- Ranks of the vertices of a graph; a vertex that reaches one without a rank has none.
use Rattle.std.specs.Prelude.{ℕ, suc, Bool, false, cond, List, [], ◌∷◌, Option, None, Some, max, get_or}

-- More than the first, and no less than the second; `None` if one of them is `None`.
abbrev pub raised : Option ℕ → Option ℕ → Option ℕ
raised None o = None
raised (Some r) None = None
raised (Some r) (Some t) = Some (max (suc r) t)

-- One more than the greatest rank, 0 for an empty list; `None` if one of them is `None`.
abbrev pub above_all : List (Option ℕ) → Option ℕ
above_all [] = Some 0
above_all (o ∷ os) = raised o (above_all os)

-- The rank of a vertex from those of its uses; `None` for a faulty one.
abbrev pub rank_from : List Bool → ℕ → List (Option ℕ) → Option ℕ
rank_from faulty a os = cond (get_or faulty a false) None (above_all os)

-- The greater of a number and a rank; `None` without a rank.
abbrev pub capped : ℕ → Option ℕ → Option ℕ
capped r None = None
capped r (Some t) = Some (max r t)
