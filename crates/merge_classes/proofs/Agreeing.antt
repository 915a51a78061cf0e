-- Where a relation passes the same pairs of names with pins as without, values agree under it by places and it alone.
use Rattle.std.proofs.Common.{◌≡◌, ◌<◌, ℕ, Bool, true, false, cond, List, length, refl, subst, eqb-true, eq-eqb}
use Rattle.std.specs.Prelude.{◌==◌, ◌||◌, ◌↔◌, slice_index}
use Rattle.partition_edges.specs.declared.edges.Edge.{Edge}
use Rattle.partition_edges.specs.Edges.{AgreeAt}
use Rattle.partition_edges.proofs.Agreement.{agree_map}
use Rattle.value_equality.specs.ValueEquality.{under, AreAlike, AgreeUnder}
use Rattle.value_equality.specs.Rows.{Row, IsName, IsPopulation, names}
use Rattle.row_signatures.specs.steps.Signatures.{AreReferences, AreShapes}
use Rattle.row_signatures.proofs.Agreeing.{agree_by_places}
use Rattle.row_signatures.proofs.Naming.{is_name}

-- R relates each name to itself, and what it relates is alike
module _ (P : List Row) (pinned : ℕ → Bool) (R : ℕ → ℕ → Bool) (own : (y : ℕ) → IsName P y → R y y ≡ true)
    (alike : (y z : ℕ) → R y z ≡ true → AreAlike P pinned y z) where
  under_from : (y z : ℕ) → R y z ≡ true → under pinned R y z ≡ true
  under_from y z h = by (pinned y || pinned z) refl
    where
      by : (b : Bool) → (pinned y || pinned z) ≡ b → cond b (y == z) (R y z) ≡ true
      by true e = eq-eqb y z ((alike y z h).same_if_pinned e)
      by false e = h

  under_to : (y z : ℕ) → IsName P y → under pinned R y z ≡ true → R y z ≡ true
  under_to y z n h = by (pinned y || pinned z) h
    where
      by : (b : Bool) → cond b (y == z) (R y z) ≡ true → R y z ≡ true
      by true k = subst (λ w. R y w ≡ true) (eqb-true y z k) (own y n)
      by false k = k

  module _ (population : IsPopulation P) (edges : List Edge) (are : AreReferences P edges) where
    abbrev at : ℕ → ℕ
    at x = slice_index (names P) x

    -- R, between places
    abbrev pub Related : ℕ → ℕ → Type 0
    Related t u = R (at t) (at u) ≡ true

    abbrev Under : ℕ → ℕ → Type 0
    Under t u = under pinned R (at t) (at u) ≡ true

    pub agree_by_related : (shapes : List ℕ) → AreShapes P pinned shapes → (x z : ℕ) → x < length P → z < length P
        → AreAlike P pinned (at x) (at z) → AgreeUnder P pinned R (at x) (at z)
        ↔ ((slice_index shapes x ≡ slice_index shapes z) × AgreeAt edges Related x z)
    agree_by_related shapes shaped x z l m same =
        let agree = agree_by_places P pinned R population edges are shapes shaped x z l m same in (
          λ a. (let h = agree.0 a in (
            h.0,
            agree_map edges (length P) Under Related x z are.are
                (λ t u k n e. under_to (at t) (at u) (is_name P t k) e) h.1,
          )),
          λ h. agree.1 (
            h.0,
            agree_map edges (length P) Related Under x z are.are (λ t u k n e. under_from (at t) (at u) e) h.1,
          ),
        )
