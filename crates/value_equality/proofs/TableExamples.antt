-- Tables by examples: two points that differ, and a placement of each.
use Rattle.std.proofs.Common.{◌≡◌, ◌≢◌, ◌<◌, ℕ, zero, suc, Bool, true, false, List, [], ◌∷◌, Option, Some, None, refl, sym, subst, arith}
use Rattle.std.specs.Prelude.{◌+◌, ◌==◌, map, pos}
use Rattle.std.proofs.lemmas.Bool.{false≢true}
use Rattle.step_values.specs.Leaves.{number}
use Rattle.step_values.specs.Values.{AgreeEach}
use Rattle.value_equality.specs.Rows.{Row, row_kind, row_at}
use Rattle.value_equality.specs.ValueEquality.{under}
use Rattle.value_equality.specs.Tables.{Table, start, split, class_at, shares, HasMembers, IsGrounded, IsStable, IsValid}
use Rattle.value_equality.proofs.Lookup.{same_row}
use Rattle.value_equality.proofs.Rounds.{sharer_named}
use Rattle.value_equality.proofs.Few.{same_class_back}
use Rattle.value_equality.proofs.Samples.{EachTwo, each_two, one_type, free, point, placement, twice}
use Rattle.value_equality.proofs.ValueExamples.{differ}

-- `#1=POINT((0.,1.));` `#2=POINT((5.,1.));` `#3=PLACEMENT(#1,$);` `#4=PLACEMENT(#2,$);`
abbrev pub apart : List Row
apart = point 1 0 ∷ point 2 5 ∷ placement 3 1 ∷ placement 4 2 ∷ []

-- the points part at round 1, the placements at round 2
abbrev pub refined : Table
refined = record {
  rounds = 2;
  classes = start ∷ start ∷ split 0 1 ∷ split 1 2 ∷ [];
  members = (1, 0) ∷ (2, 2) ∷ (3, 1) ∷ (4, 3) ∷ [];
}

abbrev classes_at : ℕ → List (Option ℕ)
classes_at round = map (λ x. class_at refined x round) (1 ∷ 2 ∷ 3 ∷ 4 ∷ 5 ∷ [])

at_first : classes_at 0 ≡ Some 0 ∷ Some 0 ∷ Some 1 ∷ Some 1 ∷ None ∷ []
at_first = refl

then : classes_at 1 ≡ Some 0 ∷ Some 2 ∷ Some 1 ∷ Some 1 ∷ None ∷ []
then = refl

at_last : classes_at 2 ≡ Some 0 ∷ Some 2 ∷ Some 1 ∷ Some 3 ∷ None ∷ []
at_last = refl

-- no class where the chain of parents doesn't fall, or leaves the list
no_class : map (λ x. class_at (record {
  rounds = 1;
  classes = split 1 1 ∷ split 1 1 ∷ [];
  members = (1, 0) ∷ (2, 1) ∷ (3, 2) ∷ [];
}) x 0)
    (1 ∷ 2 ∷ 3 ∷ []) ≡ None ∷ None ∷ None ∷ []
no_class = refl

-- what makes a table valid, of rows that are written out and where nothing is pinned
abbrev pub First : Table → ℕ → ℕ → Row → Row → Type 0
First t x z p q = row_kind p ≡ row_kind q → shares t 0 x z ≡ true

abbrev pub Next : Table → ℕ → ℕ → ℕ → Row → Row → Type 0
Next t round x z p q = shares t round x z ≡ true → AgreeEach (under free (shares t round)) p.values q.values
    → shares t (round + 1) x z ≡ true

abbrev pub Last : Table → ℕ → ℕ → Row → Row → Type 0
Last t x z p q = x ≢ z → shares t t.rounds x z ≡ true → (row_kind p ≡ row_kind q)
    × AgreeEach (under free (shares t t.rounds)) p.values q.values

valid_by : (rows : List Row) (t : Table) → HasMembers rows t → EachTwo (First t) rows
    → ((round : ℕ) → round < t.rounds → EachTwo (Next t round) rows) → EachTwo (Last t) rows → IsValid rows free t
valid_by rows t members first next last = record {
  members = members;
  grounded = record {
    first = λ x z a. each_two (First t) rows first x z a.left a.right a.left_is a.right_is a.same_kind;
    next = λ round x z l h a. each_two (Next t round) rows (next round l) x z a.left a.right a.left_is a.right_is h
        a.values_agree;
  };
  stable = λ x z n h.
      let nx = sharer_named rows t members t.rounds x z h in
      let nz = sharer_named rows t members t.rounds z x (same_class_back (class_at t x t.rounds) (class_at t z t.rounds)
      h) in
      let both = each_two (Last t) rows last x z nx.0 nz.0 nx.1 nz.1 n h in (
        record {
          left = nx.0;
          right = nz.0;
          left_is = nx.1;
          right_is = nz.1;
          same_kind = both.0;
          same_if_pinned = λ pin. absurd (cc);
        },
        record { left = nx.0; right = nz.0; left_is = nx.1; right_is = nz.1; values_agree = both.1 },
      );
}

-- points and placements are of different kinds
points_apart : row_kind (point 0 0) ≡ row_kind (placement 0 0) → ⊥
points_apart k = let e = one_type k in cc

placements_apart : row_kind (placement 0 0) ≡ row_kind (point 0 0) → ⊥
placements_apart k = points_apart (sym k)

points_differ : (l : ℕ → ℕ → Bool) (x z m n : ℕ) → (m == n) ≡ false → AgreeEach l (point x m).values (point z n).values
    → ⊥
points_differ l x z m n e a =
    let numbers : number (pos m) ≡ number (pos n) = a.0.0 in
    let same : m ≡ n = cc in differ m n e same

pub first_of_refined : EachTwo (First refined) apart
first_of_refined = (
  (λ k. refl, (λ k. refl, (λ k. absurd (points_apart k), (λ k. absurd (points_apart k), tt)))),
  (
    (λ k. refl, (λ k. refl, (λ k. absurd (points_apart k), (λ k. absurd (points_apart k), tt)))),
    (
      (λ k. absurd (placements_apart k), (λ k. absurd (placements_apart k), (λ k. refl, (λ k. refl, tt)))),
      (
        (λ k. absurd (placements_apart k), (λ k. absurd (placements_apart k), (λ k. refl, (λ k. refl, tt)))),
        tt,
      ),
    ),
  ),
)

pub next_of_refined : (round : ℕ) → round < 2 → EachTwo (Next refined round) apart
next_of_refined zero l = (
  (
    λ s a. refl,
    (
      λ s a. absurd (points_differ (under free (shares refined 0)) 1 2 0 5 refl a),
      (λ s a. absurd (false≢true s), (λ s a. absurd (false≢true s), tt)),
    ),
  ),
  (
    (
      λ s a. absurd (points_differ (under free (shares refined 0)) 2 1 5 0 refl a),
      (λ s a. refl, (λ s a. absurd (false≢true s), (λ s a. absurd (false≢true s), tt))),
    ),
    (
      (λ s a. absurd (false≢true s), (λ s a. absurd (false≢true s), (λ s a. refl, (λ s a. refl, tt)))),
      ((λ s a. absurd (false≢true s), (λ s a. absurd (false≢true s), (λ s a. refl, (λ s a. refl, tt)))), tt),
    ),
  ),
)
next_of_refined (suc zero) l = (
  (λ s a. refl, (λ s a. absurd (false≢true s), (λ s a. absurd (false≢true s), (λ s a. absurd (false≢true s), tt)))),
  (
    (λ s a. absurd (false≢true s), (λ s a. refl, (λ s a. absurd (false≢true s), (λ s a. absurd (false≢true s), tt)))),
    (
      (λ s a. absurd (false≢true s), (λ s a. absurd (false≢true s), (λ s a. refl, (λ s a. absurd (false≢true a.0), tt)))),
      ((λ s a. absurd (false≢true s), (λ s a. absurd (false≢true s), (λ s a. absurd (false≢true a.0), (λ s a. refl, tt)))), tt),
    ),
  ),
)
next_of_refined (suc (suc round)) l = absurd (omega arith)

-- at the last round each instance is alone
pub last_of_refined : EachTwo (Last refined) apart
last_of_refined = (
  (λ n s. absurd (n refl), (λ n s. absurd (false≢true s), (λ n s. absurd (false≢true s), (λ n s. absurd (false≢true s), tt)))),
  (
    (λ n s. absurd (false≢true s), (λ n s. absurd (n refl), (λ n s. absurd (false≢true s), (λ n s. absurd (false≢true s), tt)))),
    (
      (λ n s. absurd (false≢true s), (λ n s. absurd (false≢true s), (λ n s. absurd (n refl), (λ n s. absurd (false≢true s), tt)))),
      ((λ n s. absurd (false≢true s), (λ n s. absurd (false≢true s), (λ n s. absurd (false≢true s), (λ n s. absurd (n refl), tt)))), tt),
    ),
  ),
)

refined_is_valid : IsValid apart free refined
refined_is_valid = valid_by apart refined refl first_of_refined next_of_refined last_of_refined

-- a split without a ground: #1 and #2 agree
abbrev groundless : Table
groundless = record {
  rounds = 1;
  classes = start ∷ start ∷ split 0 1 ∷ [];
  members = (1, 0) ∷ (2, 2) ∷ (3, 1) ∷ (4, 1) ∷ [];
}

groundless_is_refused : IsGrounded twice free (shares groundless) 1 → ⊥
groundless_is_refused g = false≢true (g.next 0 1 2 (omega arith) refl (record {
  left = point 1 0;
  right = point 2 0;
  left_is = refl;
  right_is = refl;
  values_agree = ((refl, (refl, tt)), tt);
}))

-- a placement that parts at round 1, before its point has
abbrev early : Table
early = record refined { classes = start ∷ start ∷ split 0 1 ∷ split 1 1 ∷ [] }

early_is_refused : IsGrounded apart free (shares early) 2 → ⊥
early_is_refused g = false≢true (g.next 0 3 4 (omega arith) refl (record {
  left = placement 3 1;
  right = placement 4 2;
  left_is = refl;
  right_is = refl;
  values_agree = (refl, (refl, tt));
}))

-- classes that have to part and don't
abbrev coarse : Table
coarse = record {
  rounds = 0;
  classes = start ∷ start ∷ [];
  members = (1, 0) ∷ (2, 0) ∷ (3, 1) ∷ (4, 1) ∷ [];
}

coarse_is_refused : IsStable apart free (shares coarse 0) → ⊥
coarse_is_refused stable =
    let agree = (stable 1 2 (differ 1 2 refl) refl).1 in
    let left : agree.left ≡ point 1 0 = same_row (row_at apart 1) agree.left_is refl in
    let right : agree.right ≡ point 2 5 = same_row (row_at apart 2) agree.right_is refl in
    points_differ (under free (shares coarse 0)) 1 2 0 5 refl
    (subst (λ (p : Row). AgreeEach (under free (shares coarse 0)) p.values (point 2 5).values) left
    (subst (λ (q : Row). AgreeEach (under free (shares coarse 0)) agree.left.values q.values) right
    agree.values_agree))

-- The coarse table is valid if the points agree: #1 with #2, #3 with #4.
coarse_is_valid : IsValid twice free coarse
coarse_is_valid = valid_by twice coarse refl (
  (λ k. refl, (λ k. refl, (λ k. absurd (points_apart k), (λ k. absurd (points_apart k), tt)))),
  (
    (λ k. refl, (λ k. refl, (λ k. absurd (points_apart k), (λ k. absurd (points_apart k), tt)))),
    (
      (λ k. absurd (placements_apart k), (λ k. absurd (placements_apart k), (λ k. refl, (λ k. refl, tt)))),
      (
        (λ k. absurd (placements_apart k), (λ k. absurd (placements_apart k), (λ k. refl, (λ k. refl, tt)))),
        tt,
      ),
    ),
  ),
) (λ round l. absurd (omega arith)) (
  (λ n s. absurd (n refl), (λ n s. (refl, ((refl, (refl, tt)), tt)), (λ n s. absurd (false≢true s), (λ n s. absurd (false≢true s), tt)))),
  (
    (λ n s. (refl, ((refl, (refl, tt)), tt)), (λ n s. absurd (n refl), (λ n s. absurd (false≢true s), (λ n s. absurd (false≢true s), tt)))),
    (
      (λ n s. absurd (false≢true s), (λ n s. absurd (false≢true s), (λ n s. absurd (n refl), (λ n s. (refl, (refl, (refl, tt))), tt)))),
      (
        (λ n s. absurd (false≢true s), (λ n s. absurd (false≢true s), (λ n s. (refl, (refl, (refl, tt))), (λ n s. absurd (n refl), tt)))),
        tt,
      ),
    ),
  ),
)

-- a table may split later than it could
abbrev late : Table
late = record refined { rounds = 3; classes = start ∷ start ∷ split 0 2 ∷ split 1 3 ∷ [] }

next_of_late : (round : ℕ) → round < 3 → EachTwo (Next late round) apart
next_of_late zero l = (
  (λ s a. refl, (λ s a. refl, (λ s a. absurd (false≢true s), (λ s a. absurd (false≢true s), tt)))),
  (
    (λ s a. refl, (λ s a. refl, (λ s a. absurd (false≢true s), (λ s a. absurd (false≢true s), tt)))),
    (
      (λ s a. absurd (false≢true s), (λ s a. absurd (false≢true s), (λ s a. refl, (λ s a. refl, tt)))),
      ((λ s a. absurd (false≢true s), (λ s a. absurd (false≢true s), (λ s a. refl, (λ s a. refl, tt)))), tt),
    ),
  ),
)
next_of_late (suc zero) l = (
  (
    λ s a. refl,
    (
      λ s a. absurd (points_differ (under free (shares late 1)) 1 2 0 5 refl a),
      (λ s a. absurd (false≢true s), (λ s a. absurd (false≢true s), tt)),
    ),
  ),
  (
    (
      λ s a. absurd (points_differ (under free (shares late 1)) 2 1 5 0 refl a),
      (λ s a. refl, (λ s a. absurd (false≢true s), (λ s a. absurd (false≢true s), tt))),
    ),
    (
      (λ s a. absurd (false≢true s), (λ s a. absurd (false≢true s), (λ s a. refl, (λ s a. refl, tt)))),
      ((λ s a. absurd (false≢true s), (λ s a. absurd (false≢true s), (λ s a. refl, (λ s a. refl, tt)))), tt),
    ),
  ),
)
next_of_late (suc (suc zero)) l = (
  (λ s a. refl, (λ s a. absurd (false≢true s), (λ s a. absurd (false≢true s), (λ s a. absurd (false≢true s), tt)))),
  (
    (λ s a. absurd (false≢true s), (λ s a. refl, (λ s a. absurd (false≢true s), (λ s a. absurd (false≢true s), tt)))),
    (
      (λ s a. absurd (false≢true s), (λ s a. absurd (false≢true s), (λ s a. refl, (λ s a. absurd (false≢true a.0), tt)))),
      ((λ s a. absurd (false≢true s), (λ s a. absurd (false≢true s), (λ s a. absurd (false≢true a.0), (λ s a. refl, tt)))), tt),
    ),
  ),
)
next_of_late (suc (suc (suc round))) l = absurd (omega arith)

late_is_valid : IsValid apart free late
late_is_valid = valid_by apart late refl first_of_refined next_of_late last_of_refined
