-- A wider table against a narrow one.
use Rattle.std.proofs.Common.{◌≡◌, ◌↔◌, List, [], ◌∷◌, ◌++◌, Ok, Err, Result, refl, ◌∙◌}
use Rattle.parsing.specs.Tables.{LocatedToken, lookaheads, Table}
use Rattle.parsing.specs.Languages.{IsViablePrefix, IsExact}
use Rattle.parsing.proofs.Running.{Reaches, reaches_one, reaches_join}
use Rattle.parsing.proofs.Faults.{front_from, not_front}

-- what may stand by one table may stand by another, and the same is to come then
abbrev pub IsWider : {S W K : Type 0} → Table S W K → Table S W K → Type 0
IsWider {S} {W} narrow wide = (y : S) (w : W) (zs : List S) → narrow y w ≡ Ok zs → wide y w ≡ Ok zs

-- what leads from one stack to another by a table leads there by a wider one
pub reaches_wider : {S W K : Type 0} (narrow wide : Table S W K) → IsWider narrow wide → (s : List (LocatedToken W))
    (ys zs : List S) → Reaches narrow ys s zs → Reaches wide ys s zs
reaches_wider narrow wide i [] ys zs h = h
reaches_wider narrow wide i (t ∷ s) [] zs h = absurd h
reaches_wider narrow wide i (t ∷ s) (y ∷ ys) zs h = (
  h.0,
  i y t.lookahead h.0 h.1,
  reaches_wider narrow wide i s
      (h.0 ++ ys) zs h.2,
)

module _ {S W K : Type 0} (narrow wide : Table S W K) (i : IsWider narrow wide) (sort : S → Type 0) (start : List S)
    (L : List W → Type 0) (x : IsExact wide sort start L) where
  -- where the narrow table stops and the wide one goes on, what stands there is a front of the wider language
  pub front_wider : (s : List (LocatedToken W)) (at : LocatedToken W) (top : S) (others zs : List S)
      → Reaches narrow start s (top ∷ others) → wide top at.lookahead ≡ Ok zs
      → IsViablePrefix L (lookaheads (s ++ at ∷ []))
  front_wider s at top others zs h e =
      front_from wide sort start L x (s ++ at ∷ []) (zs ++ others)
      (reaches_join wide s (at ∷ []) start (top ∷ others) (zs ++ others)
      (reaches_wider narrow wide i s start (top ∷ others) h) (reaches_one wide top zs others at e))

  -- where both the narrow and the wide table stop, the tokens are no prefix of the wider language
  pub no_front_wider : (s : List (LocatedToken W)) (at : LocatedToken W) (top : S) (others : List S) (k : K)
      → Reaches narrow start s (top ∷ others) → wide top at.lookahead ≡ Err k
      → IsViablePrefix L (lookaheads (s ++ at ∷ [])) → ⊥
  no_front_wider s at top others k h e = not_front wide sort start L x s at top others k
      (reaches_wider narrow wide i s start (top ∷ others) h) e

  -- both ways
  pub goes_on_wider : (s : List (LocatedToken W)) (at : LocatedToken W) (top : S) (others : List S)
      → Reaches narrow start s (top ∷ others) → ((zs : List S) × (wide top at.lookahead ≡ Ok zs))
      ↔ IsViablePrefix L (lookaheads (s ++ at ∷ []))
  goes_on_wider s at top others h = (
    (λ g. front_wider s at top others g.0 h g.1),
    λ f. by f (wide top at.lookahead)
        refl,
  )
    where
      by : IsViablePrefix L (lookaheads (s ++ at ∷ [])) → (r : Result (List S) K) → wide top at.lookahead ≡ r
          → (zs : List S) × (wide top at.lookahead ≡ Ok zs)
      by f (Ok zs) e = (zs, e)
      by f (Err k) e = absurd (no_front_wider s at top others k h e f)
