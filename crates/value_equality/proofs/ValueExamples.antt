-- Value equality by examples.
use Rattle.std.proofs.Common.{◌≡◌, ℕ, Bool, true, false, List, [], ◌∷◌, Some, refl, subst, eqb-true, eq-eqb, codes}
use Rattle.std.specs.Prelude.{pos, ⊤, ◌==◌, ◌&&◌, ◌||◌}
use Rattle.step_values.specs.Leaves.{unset, derived, number}
use Rattle.step_values.specs.Values.{Agree, AgreeEach, leaf, typed, sequence, bag, reference, Values, none, more, IsReordering, swapped}
use Rattle.value_equality.specs.Rows.{Row, row_kind, row_at}
use Rattle.value_equality.specs.ValueEquality.{AreAlike, AgreeUnder, ValueEqual, under}
use Rattle.value_equality.proofs.Lookup.{same_row}
use Rattle.value_equality.proofs.Samples.{free, point, placement, node, single, bundle, twice}
use Rattle.step_values.proofs.Deciding.{test_complete}

-- a relation that is written out
among : List (ℕ × ℕ) → ℕ → ℕ → Bool
among [] x z = false
among (p ∷ ps) x z = ((p.0 == x) && (p.1 == z)) || among ps x z

EachPair : (ℕ → ℕ → Type 0) → List (ℕ × ℕ) → Type 0
EachPair F [] = ⊤
EachPair F (p ∷ ps) = F p.0 p.1 × EachPair F ps

each_pair : (F : ℕ → ℕ → Type 0) (ps : List (ℕ × ℕ)) → EachPair F ps → (x z : ℕ) → among ps x z ≡ true → F x z
unfolding EachPair among
each_pair F [] f x z h = absurd (cc)
each_pair F (p ∷ ps) f x z h = go (p.0 == x) (p.1 == z) refl refl (each_pair F ps f.1 x z) h
  where
    go : (a b : Bool) → (p.0 == x) ≡ a → (p.1 == z) ≡ b → (among ps x z ≡ true → F x z)
        → ((a && b) || among ps x z) ≡ true → F x z
    go true true e g rest k = subst (λ y. F y z) (eqb-true p.0 x e) (subst (λ w. F p.0 w) (eqb-true p.1 z g) f.0)
    go true false e g rest k = rest k
    go false b e g rest k = rest k

Kept : List Row → (ℕ → Bool) → (ℕ → ℕ → Bool) → ℕ → ℕ → Type 0
Kept rows pinned R x z = AreAlike rows pinned x z × AgreeUnder rows pinned R x z

kept : (rows : List Row) (pinned : ℕ → Bool) (R : ℕ → ℕ → Bool) (x z : ℕ) (p q : Row) → row_at rows x ≡ Some p
    → row_at rows z ≡ Some q → row_kind p ≡ row_kind q → (pinned x || pinned z) ≡ false → AgreeEach (under pinned R)
    p.values q.values → Kept rows pinned R x z
unfolding Kept
kept rows pinned R x z p q n m k free a = (
  record { left = p; right = q; left_is = n; right_is = m; same_kind = k; same_if_pinned = λ h. absurd (cc) },
  record { left = p; right = q; left_is = n; right_is = m; values_agree = a },
)

-- some pairs that keep are value-equal
equal_by : (rows : List Row) (pinned : ℕ → Bool) (ps : List (ℕ × ℕ)) → EachPair (Kept rows pinned (among ps)) ps
    → (x z : ℕ) → among ps x z ≡ true → ValueEqual rows pinned x z
unfolding Kept
equal_by rows pinned ps f x z h = (among ps, h, each_pair (Kept rows pinned (among ps)) ps f)

pub differ : (x y : ℕ) → (x == y) ≡ false → x ≡ y → ⊥
differ x y h e = let k : (x == y) ≡ true = eq-eqb x y e in cc

-- placements of points that differ in spelling alone are value-equal
placements_equal : ValueEqual twice free 3 4
unfolding among EachPair
placements_equal =
    let R : ℕ → ℕ → Bool = among ((3, 4) ∷ (1, 2) ∷ []) in
    equal_by twice free ((3, 4) ∷ (1, 2) ∷ []) (
      kept twice free R 3 4 (placement 3 1) (placement 4 2) refl refl refl refl (refl, (refl, tt)),
      (kept twice free R 1 2 (point 1 0) (point 2 0) refl refl refl refl ((refl, (refl, tt)), tt), tt),
    ) 3 4 refl

-- the values of instances that are value-equal agree
pub agree_of : (rows : List Row) (pinned : ℕ → Bool) (x z : ℕ) (p q : Row) → row_at rows x ≡ Some p
    → row_at rows z ≡ Some q → ValueEqual rows pinned x z → (R : ℕ → ℕ → Bool) × AgreeEach (under pinned R) p.values
    q.values
agree_of rows pinned x z p q n m found =
    let agree = (found.2 x z found.1).1 in
    let left : agree.left ≡ p = same_row (row_at rows x) agree.left_is n in
    let right : agree.right ≡ q = same_row (row_at rows z) agree.right_is m in (
      found.0,
      subst (λ (r : Row). AgreeEach (under pinned found.0) r.values q.values) left
          (subst (λ (r : Row). AgreeEach (under pinned found.0) agree.left.values r.values) right agree.values_agree),
    )

-- a pinned instance is value-equal to itself alone
pinned_alone : ValueEqual twice (λ y. y == 1) 1 2 → ⊥
pinned_alone found = differ 1 2 refl ((found.2 1 2 found.1).0.same_if_pinned refl)

-- A placement of a pinned instance is value-equal only to placements of the same instance.
told_by_identity : ValueEqual twice (λ y. y == 1) 3 4 → ⊥
told_by_identity found =
    let agree = agree_of twice (λ y. y == 1) 3 4 (placement 3 1) (placement 4 2) refl refl found in
    let same : false ≡ true = agree.1.0 in cc

-- `#1=NODE(#2);` `#2=NODE(#1);` `#3=NODE(#3);`: cycles of two lengths are value-equal
abbrev pub cycles : List Row
cycles = node 1 2 ∷ node 2 1 ∷ node 3 3 ∷ []

cycles_equal : ValueEqual cycles free 1 3
unfolding among EachPair
cycles_equal =
    let R : ℕ → ℕ → Bool = among ((1, 3) ∷ (2, 3) ∷ []) in
    equal_by cycles free ((1, 3) ∷ (2, 3) ∷ []) (
      kept cycles free R 1 3 (node 1 2) (node 3 3) refl refl refl refl (refl, tt),
      (kept cycles free R 2 3 (node 2 1) (node 3 3) refl refl refl refl (refl, tt), tt),
    ) 1 3 refl

-- `#3=BUNDLE((#1,#2));` `#4=BUNDLE((#2,#1));`, sets of pinned nodes
abbrev pub bundles : List Row
bundles = node 1 1 ∷ node 2 2 ∷ bundle 3 1 2 ∷ bundle 4 2 1 ∷ []

abbrev nodes : ℕ → Bool
nodes y = (y == 1) || (y == 2)

-- the order of a bag doesn't count
bundles_equal : ValueEqual bundles nodes 3 4
unfolding among EachPair
bundles_equal =
    let members : Values = more (reference 1) (more (reference 2) none) in
    let reordered : IsReordering members (more (reference 2) (more (reference 1) none)) = swapped (reference 1)
    (reference 2) none in
    equal_by bundles nodes ((3, 4) ∷ []) (
      kept bundles nodes (among ((3, 4) ∷ [])) 3 4 (bundle 3 1 2) (bundle 4 2 1)
          refl refl refl refl ((members, reordered, (refl, (refl, tt))), tt),
      tt,
    ) 3 4 refl

-- `#1=NODE(#1);` `#2=NODE(#2);` `#3=BUNDLE((#1));` `#4=BUNDLE((#2));`
abbrev pub singles : List Row
singles = node 1 1 ∷ node 2 2 ∷ single 3 1 ∷ single 4 2 ∷ []

-- the member of a bag of one is compared as in a sequence
singles_equal : ValueEqual singles free 3 4
unfolding among EachPair
singles_equal =
    let R : ℕ → ℕ → Bool = among ((3, 4) ∷ (1, 2) ∷ []) in
    equal_by singles free ((3, 4) ∷ (1, 2) ∷ []) (
      kept singles free R 3 4 (single 3 1) (single 4 2) refl refl refl refl ((refl, tt), tt),
      (kept singles free R 1 2 (node 1 1) (node 2 2) refl refl refl refl (refl, tt), tt),
    ) 3 4 refl

-- The members of a larger bag are compared by name, whatever the test passes: `(#1,#1)` and
-- `(#2,#2)`.
pairs_differ : (test : ℕ → ℕ → Bool) → Agree test (bag (more (reference 1) (more (reference 1) none)))
    (bag (more (reference 2) (more (reference 2) none))) → ⊥
pairs_differ test a =
    let same : false ≡ true = test_complete (bag (more (reference 1) (more (reference 1) none)))
    (bag (more (reference 2) (more (reference 2) none))) a in cc

abbrev numbers : ℕ → ℕ → Values
numbers m n = more (leaf (number (pos m))) (more (leaf (number (pos n))) none)

-- the order of a sequence counts
sequences_differ : Agree (◌==◌) (sequence (numbers 0 1)) (sequence (numbers 1 0)) → ⊥
sequences_differ a =
    let first : number (pos 0) ≡ number (pos 1) = a.0 in
    let same : 0 ≡ 1 = cc in differ 0 1 refl same

-- The order of a bag doesn't count.
bags_agree : Agree (◌==◌) (bag (numbers 0 1)) (bag (numbers 1 0))
bags_agree = (numbers 0 1, swapped (leaf (number (pos 0))) (leaf (number (pos 1))) none, (refl, (refl, tt)))

-- a bag is no sequence, and an unset value no derived one
variants_of_values_differ : (Agree (◌==◌) (bag none) (sequence none) → ⊥) × (Agree (◌==◌) (leaf unset) (leaf derived)
    → ⊥)
variants_of_values_differ = (λ a. a, λ a. let e : unset ≡ derived = a in absurd (cc))

-- `LEN_M(1.)` and `ANGLE_M(1.)`
type_names_differ : Agree (◌==◌) (typed (codes "LEN_M") (leaf (number (pos 1))))
    (typed (codes "ANGLE_M") (leaf (number (pos 1)))) → ⊥
type_names_differ a = let e : codes "LEN_M" ≡ codes "ANGLE_M" = a.0 in absurd (cc)
