-- The table of two points that differ, and a placement of each, is the one that partition refinement makes.
use Rattle.std.proofs.Common.{◌≡◌, ◌≢◌, ◌≤◌, ◌<◌, ℕ, zero, suc, true, false, List, [], ◌∷◌, Option, Some, None, refl, ◌∙◌, ap, subst, eqb-true, ◌+◌, inl, inr, arith}
use Rattle.std.specs.Prelude.{slice_get, slice_index, slice_index_or}
use Rattle.std.proofs.lemmas.Bool.{false≢true}
use Rattle.std.proofs.lemmas.Option.{slice_get_within}
use Rattle.step_values.specs.Values.{AgreeEach}
use Rattle.value_equality.specs.Rows.{Row, names, row_kind, IsName}
use Rattle.value_equality.specs.ValueEquality.{under, AgreeUnder}
use Rattle.value_equality.specs.Tables.{Table, start, split, IsAncestor, itself, through, class_at, same_class, shares}
use Rattle.value_equality.specs.Standard.{IsParent, IsWellFormed, IsFirstOfClass, ClassBegins, IsRefinement, IsStandard}
use Rattle.value_equality.proofs.Few.{same_class_back}
use Rattle.value_equality.proofs.Numbering.{is_same_class}
use Rattle.value_equality.proofs.Rounds.{sharer_named}
use Rattle.value_equality.proofs.Ancestors.{classes_are_ancestors}
use Rattle.value_equality.proofs.Unique.{begins_once, IsBefore}
use Rattle.value_equality.proofs.Samples.{EachTwo, each_two, free}
use Rattle.value_equality.proofs.TableExamples.{apart, refined, First, Next, first_of_refined, next_of_refined}

refined_well_formed : IsWellFormed refined
refined_well_formed = record {
  parents = parent_of;
  declared = declared;
}
  where
    declared : (k : ℕ) (d : ℕ × ℕ) → k < 4 → (slice_index_or refined.members k d).1 < 4
    declared zero d l = omega arith
    declared (suc zero) d l = omega arith
    declared (suc (suc zero)) d l = omega arith
    declared (suc (suc (suc zero))) d l = omega arith
    declared (suc (suc (suc (suc k)))) d l = absurd (omega arith)

    at : (c a b p r : ℕ) → Some (split a b) ≡ Some (split p r) → IsParent refined c a b → IsParent refined c p r
    at c a b p r e h =
        let parents : a ≡ p = cc in
        let rounds : b ≡ r = cc in
        subst (λ n. IsParent refined c n r) parents (subst (λ n. IsParent refined c a n) rounds h)

    parent_of : (c parent round : ℕ) → slice_get refined.classes c ≡ Some (split parent round)
        → IsParent refined c parent round
    parent_of zero p r e = absurd (cc)
    parent_of (suc zero) p r e = absurd (cc)
    parent_of (suc (suc zero)) p r e = at 2 0 1 p r e (record {
      before = omega arith;
      origin = start;
      origin_is = refl;
      earlier = omega arith;
      in_time = omega arith;
    })
    parent_of (suc (suc (suc zero))) p r e = at 3 1 2 p r e (record {
      before = omega arith;
      origin = start;
      origin_is = refl;
      earlier = omega arith;
      in_time = omega arith;
    })
    parent_of (suc (suc (suc (suc c)))) p r e = absurd (cc)

-- what shares a class is of one kind, and agrees under the round before
abbrev SameKind : ℕ → ℕ → Row → Row → Type 0
SameKind x z p q = shares refined 0 x z ≡ true → row_kind p ≡ row_kind q

abbrev Shared : ℕ → ℕ → ℕ → Row → Row → Type 0
Shared round x z p q = shares refined (round + 1) x z ≡ true → (shares refined round x z ≡ true)
    × AgreeEach (under free (shares refined round)) p.values q.values

same_kind_of_refined : EachTwo SameKind apart
same_kind_of_refined = (
  (λ s. refl, (λ s. refl, (λ s. absurd (false≢true s), (λ s. absurd (false≢true s), tt)))),
  (
    (λ s. refl, (λ s. refl, (λ s. absurd (false≢true s), (λ s. absurd (false≢true s), tt)))),
    (
      (λ s. absurd (false≢true s), (λ s. absurd (false≢true s), (λ s. refl, (λ s. refl, tt)))),
      ((λ s. absurd (false≢true s), (λ s. absurd (false≢true s), (λ s. refl, (λ s. refl, tt)))), tt),
    ),
  ),
)

shared_of_refined : (round : ℕ) → round < 3 → EachTwo (Shared round) apart
shared_of_refined zero l = (
  (λ s. (refl, ((refl, (refl, tt)), tt)), (λ s. absurd (false≢true s), (λ s. absurd (false≢true s), (λ s. absurd (false≢true s), tt)))),
  (
    (λ s. absurd (false≢true s), (λ s. (refl, ((refl, (refl, tt)), tt)), (λ s. absurd (false≢true s), (λ s. absurd (false≢true s), tt)))),
    (
      (λ s. absurd (false≢true s), (λ s. absurd (false≢true s), (λ s. (refl, (refl, (refl, tt))), (λ s. (refl, (refl, (refl, tt))), tt)))),
      (
        (
          λ s. absurd (false≢true s),
          (
            λ s. absurd (false≢true s),
            (λ s. (refl, (refl, (refl, tt))), (λ s. (refl, (refl, (refl, tt))), tt)),
          ),
        ),
        tt,
      ),
    ),
  ),
)
shared_of_refined (suc zero) l = (
  (λ s. (refl, ((refl, (refl, tt)), tt)), (λ s. absurd (false≢true s), (λ s. absurd (false≢true s), (λ s. absurd (false≢true s), tt)))),
  (
    (λ s. absurd (false≢true s), (λ s. (refl, ((refl, (refl, tt)), tt)), (λ s. absurd (false≢true s), (λ s. absurd (false≢true s), tt)))),
    (
      (λ s. absurd (false≢true s), (λ s. absurd (false≢true s), (λ s. (refl, (refl, (refl, tt))), (λ s. absurd (false≢true s), tt)))),
      ((λ s. absurd (false≢true s), (λ s. absurd (false≢true s), (λ s. absurd (false≢true s), (λ s. (refl, (refl, (refl, tt))), tt)))), tt),
    ),
  ),
)
shared_of_refined (suc (suc zero)) l = (
  (λ s. (refl, ((refl, (refl, tt)), tt)), (λ s. absurd (false≢true s), (λ s. absurd (false≢true s), (λ s. absurd (false≢true s), tt)))),
  (
    (λ s. absurd (false≢true s), (λ s. (refl, ((refl, (refl, tt)), tt)), (λ s. absurd (false≢true s), (λ s. absurd (false≢true s), tt)))),
    (
      (λ s. absurd (false≢true s), (λ s. absurd (false≢true s), (λ s. (refl, (refl, (refl, tt))), (λ s. absurd (false≢true s), tt)))),
      ((λ s. absurd (false≢true s), (λ s. absurd (false≢true s), (λ s. absurd (false≢true s), (λ s. (refl, (refl, (refl, tt))), tt)))), tt),
    ),
  ),
)
shared_of_refined (suc (suc (suc round))) l = absurd (omega arith)

sharers : (round x z : ℕ) → shares refined round x z ≡ true → IsName apart x × IsName apart z
sharers round x z h = (
  sharer_named apart refined refl round x z h,
  sharer_named apart refined refl round z x (same_class_back (class_at refined x round) (class_at refined z round) h),
)

shared_before : (round x z : ℕ) → round < 3 → shares refined (round + 1) x z ≡ true → (shares refined round x z ≡ true)
    × AgreeUnder apart free (shares refined round) x z
shared_before round x z l h =
    let both = sharers (round + 1) x z h in
    let found = each_two (Shared round) apart (shared_of_refined round l) x z both.0.0 both.1.0 both.0.1 both.1.1 h in (
      found.0,
      record {
        left = both.0.0;
        right = both.1.0;
        left_is = both.0.1;
        right_is = both.1.1;
        values_agree = found.1;
      },
    )

-- nothing happens behind the last round
at_end : (t : Table) → IsWellFormed t → (round x c : ℕ) → t.rounds ≤ round → class_at t x round ≡ Some c
    → class_at t x (round + 1) ≡ Some c
at_end t well round x c h k =
    let up = (classes_are_ancestors t x round c).0 k in
    (classes_are_ancestors t x (round + 1) c).1 (up.0, up.1, later up.0 up.2)
  where
    later : (l : ℕ) → IsAncestor t.classes round l c → IsAncestor t.classes (round + 1) l c
    later l (itself d o e b) = itself d o e (omega arith)
    later l (through d p since a e after below up) = absurd (let time = (well.parents d p since e).in_time in
        omega arith)

shares_at_end : (t : Table) → IsWellFormed t → (round x z : ℕ) → t.rounds ≤ round → shares t round x z ≡ true
    → shares t (round + 1) x z ≡ true
shares_at_end t well round x z h k = go (class_at t x round) (class_at t z round) refl refl k
  where
    go : (a b : Option ℕ) → class_at t x round ≡ a → class_at t z round ≡ b → same_class a b ≡ true
        → shares t (round + 1) x z ≡ true
    go None b e f s = absurd (cc)
    go (Some c) None e f s = absurd (cc)
    go (Some c) (Some d) e f s = is_same_class (class_at t x (round + 1)) (class_at t z (round + 1)) d
        (at_end t well round x d h (e ∙ ap Some (eqb-true c d s))) (at_end t well round z d h f)

refined_refines : IsRefinement apart free (shares refined) 2
refined_refines = record {
  first = λ x z. (
    λ h.
        let both = sharers 0 x z h in
        record {
          left = both.0.0;
          right = both.1.0;
          left_is = both.0.1;
          right_is = both.1.1;
          same_kind = each_two SameKind apart same_kind_of_refined x z both.0.0 both.1.0 both.0.1 both.1.1 h;
          same_if_pinned = λ pin. absurd (cc);
        },
    λ a. each_two (First refined) apart first_of_refined x z a.left a.right a.left_is a.right_is a.same_kind,
  );
  next = λ round x z l. (
    shared_before round x z (omega arith),
    λ h. each_two (Next refined round) apart (next_of_refined round l) x z h.1.left h.1.right h.1.left_is h.1.right_is
        h.0 h.1.values_agree,
  );
  stable = λ x z h. (shared_before 2 x z (omega arith) (shares_at_end refined refined_well_formed 2 x z (omega arith)
      h)).1;
  parts = parts_of;
}
  where
    parts_of : (round : ℕ) → round < 2 → (x : ℕ) × (z : ℕ) × (shares refined round x z ≡ true)
        × (shares refined (round + 1) x z ≡ false)
    parts_of zero l = (1, 2, refl, refl)
    parts_of (suc zero) l = (3, 4, refl, refl)
    parts_of (suc (suc round)) l = absurd (omega arith)

abbrev ys : List ℕ
ys = names apart

-- the rounds at which the classes begin, and the indices of their first instances
abbrev when : ℕ → ℕ
when c = slice_index (0 ∷ 0 ∷ 1 ∷ 2 ∷ []) c

abbrev which : ℕ → ℕ
which c = slice_index (0 ∷ 2 ∷ 1 ∷ 3 ∷ []) c

begun : (c : ℕ) → c < 4 → ClassBegins ys refined c (when c) (which c)
begun zero l = record {
  origin = start;
  origin_is = refl;
  began_at = refl;
  first = record {
    within = omega arith;
    there = refl;
    earliest = λ j k. absurd (omega arith);
  };
}
begun (suc zero) l = record {
  origin = start;
  origin_is = refl;
  began_at = refl;
  first = record {
    within = omega arith;
    there = refl;
    earliest = earliest;
  };
}
  where
    earliest : (j : ℕ) → j < 2 → class_at refined (slice_index ys j) 0 ≢ Some 1
    earliest zero k e = absurd (cc)
    earliest (suc zero) k e = absurd (cc)
    earliest (suc (suc j)) k e = absurd (omega arith)
begun (suc (suc zero)) l = record {
  origin = split 0 1;
  origin_is = refl;
  began_at = refl;
  first = record {
    within = omega arith;
    there = refl;
    earliest = earliest;
  };
}
  where
    earliest : (j : ℕ) → j < 1 → class_at refined (slice_index ys j) 1 ≢ Some 2
    earliest zero k e = absurd (cc)
    earliest (suc j) k e = absurd (omega arith)
begun (suc (suc (suc zero))) l = record {
  origin = split 1 2;
  origin_is = refl;
  began_at = refl;
  first = record {
    within = omega arith;
    there = refl;
    earliest = earliest;
  };
}
  where
    earliest : (j : ℕ) → j < 3 → class_at refined (slice_index ys j) 2 ≢ Some 3
    earliest zero k e = absurd (cc)
    earliest (suc zero) k e = absurd (cc)
    earliest (suc (suc zero)) k e = absurd (cc)
    earliest (suc (suc (suc j))) k e = absurd (omega arith)
begun (suc (suc (suc (suc c)))) l = absurd (omega arith)

kept_number : (round c i : ℕ) → IsFirstOfClass ys refined round c i → class_at refined (slice_index ys i) (round + 1) ≡ Some c
kept_number (suc (suc round)) c i f = at_end refined refined_well_formed (suc (suc round)) (slice_index ys i) c
    (omega arith) f.there
kept_number zero c zero f = f.there
kept_number zero c (suc zero) f = absurd (f.earliest 0 (omega arith) f.there)
kept_number zero c (suc (suc zero)) f = f.there
kept_number zero c (suc (suc (suc zero))) f = absurd (f.earliest 2 (omega arith) f.there)
kept_number zero c (suc (suc (suc (suc i)))) f = absurd (let l = f.within in omega arith)
kept_number (suc zero) c zero f = f.there
kept_number (suc zero) c (suc zero) f = f.there
kept_number (suc zero) c (suc (suc zero)) f = f.there
kept_number (suc zero) c (suc (suc (suc zero))) f = absurd (f.earliest 2 (omega arith) f.there)
kept_number (suc zero) c (suc (suc (suc (suc i)))) f = absurd (let l = f.within in omega arith)

in_order : (c d : ℕ) → c < d → d < 4 → IsBefore (when c) (which c) (when d) (which d)
in_order zero zero h l = absurd (omega arith)
in_order zero (suc zero) h l = inr (refl, omega arith)
in_order zero (suc (suc zero)) h l = inl (omega arith)
in_order zero (suc (suc (suc zero))) h l = inl (omega arith)
in_order (suc zero) (suc (suc zero)) h l = inl (omega arith)
in_order (suc zero) (suc (suc (suc zero))) h l = inl (omega arith)
in_order (suc (suc zero)) (suc (suc (suc zero))) h l = inl (omega arith)
in_order _ _ h l = absurd (omega arith)

refined_is_standard : IsStandard apart free refined
refined_is_standard = record {
  members = refl;
  well_formed = refined_well_formed;
  refines = refined_refines;
  numbered = record {
    used = λ c l. (when c, which c, begun c l);
    ordered = λ c d round later i j h b e.
        let l : d < 4 = slice_get_within refined.classes d e.origin e.origin_is in
        let m : c < 4 = slice_get_within refined.classes c b.origin b.origin_is in
        let first = begins_once ys refined c (when c) round (which c) i (begun c m) b in
        let second = begins_once ys refined d (when d) later (which d) j (begun d l) e in
        before (when c) (which c) round i (when d) (which d) later j first.0 first.1 second.0 second.1
        (in_order c d h l);
    keeps_number = kept_number;
  };
}
  where
    before : (a b round i c d later j : ℕ) → a ≡ round → b ≡ i → c ≡ later → d ≡ j → IsBefore a b c d
        → IsBefore round i later j
    before a b round i c d later j e f g h (inl k) = inl (omega arith)
    before a b round i c d later j e f g h (inr k) = let m = k.0 in let n = k.1 in inr (omega arith, omega arith)
