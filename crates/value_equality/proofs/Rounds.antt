-- A valid table has value equality as its last partition.
use Rattle.std.proofs.Common.{◌≡◌, ℕ, zero, suc, ◌≤◌, Bool, true, false, cond, List, [], ◌∷◌, Option, Some, None, refl, ◌∙◌, ap, subst, inl, inr, arith, add-one, ◌<◌, sym}
use Rattle.std.specs.Prelude.{◌==◌, map}
use Rattle.std.proofs.lemmas.Bool.{cases_eq}
use Rattle.value_equality.specs.Rows.{Row, names, row_at, IsName, IsPopulation}
use Rattle.value_equality.specs.ValueEquality.{AreAlike, AgreeUnder, Keeps, IsValueEquality}
use Rattle.value_equality.specs.Tables.{last_class, ancestor_of, class_at, same_class, shares, HasMembers, Table, IsGrounded, IsStable}
use Rattle.value_equality.specs.Laws.{TablesDecide, StandardIsValid}
use Rattle.value_equality.proofs.Pairs.{alike_refl, agree_under_refl, agree_under_grows}
use Rattle.value_equality.specs.Standard.{IsRefinement}

module _ (P : List Row) (pinned : ℕ → Bool) (E : ℕ → ℕ → ℕ → Bool) (last : ℕ) (grounded : IsGrounded P pinned E last)
  where
    -- each round relates each instance to itself
    pub own : IsPopulation P → (round : ℕ) → round ≤ last → (x : ℕ) → IsName P x → E round x x ≡ true
    own population zero h x n = grounded.first x x (alike_refl P pinned x n)
    own population (suc r) h x n =
        let before : (y : ℕ) → IsName P y → E r y y ≡ true = own population r (omega arith) in
        subst (λ k. E k x x ≡ true) (add-one r) (grounded.next r x x (omega arith) (before x n)
        (agree_under_refl P pinned (E r) population before x n))

    -- Each round has the pairs of each relation that keeps.
    has_keeping : (R : ℕ → ℕ → Bool) → Keeps P pinned R → (round : ℕ) → round ≤ last → (x z : ℕ) → R x z ≡ true
        → E round x z ≡ true
    has_keeping R keeps zero h x z k = grounded.first x z (keeps x z k).0
    has_keeping R keeps (suc r) h x z k =
        let before : (y w : ℕ) → R y w ≡ true → E r y w ≡ true = has_keeping R keeps r (omega arith) in
        subst (λ i. E i x z ≡ true) (add-one r) (grounded.next r x z (omega arith) (before x z k)
        (agree_under_grows P pinned R (E r) before x z (keeps x z k).1))

    pub stable_decides : IsPopulation P → IsStable P pinned (E last) → ((x z : ℕ) → E last x z ≡ true → IsName P x)
        → IsValueEquality P pinned (E last)
    stable_decides population stable held x z =
        (λ h. (E last, h, keeps), λ found. has_keeping found.0 found.2 last (omega arith) x z found.1)
      where
        keeps : Keeps P pinned (E last)
        keeps a b h = elim (cases_eq a b) [
          | inl e ↦ subst (λ c. AreAlike P pinned a c × AgreeUnder P pinned (E last) a c) e (
            alike_refl P pinned a (held a b h),
            agree_under_refl P pinned (E last) population
                (own population last (omega arith)) a (held a b h),
          )
          | inr n ↦ stable a b n h
        ]

found_or_later : (P : List Row) (p : Row) (x : ℕ) (b : Bool) (later found : Option ℕ) (c : ℕ)
    → (later ≡ Some c → IsName P x) → (p.name == x) ≡ b → cond b found later ≡ Some c → IsName (p ∷ P) x
found_or_later P p x true later found c rest e h = (p, ap (λ (t : Bool). cond t (Some p) (row_at P x)) e)
found_or_later P p x false later found c rest e h =
    let n = rest h in (n.0, ap (λ (t : Bool). cond t (Some p) (row_at P x)) e ∙ n.1)

-- a member is an instance
pub member_named : (members : List (ℕ × ℕ)) (P : List Row) → map (λ m. m.0) members ≡ names P → (x c : ℕ)
    → last_class members x ≡ Some c → IsName P x
member_named [] P e x c h = absurd (cc)
member_named (m ∷ members) [] e x c h = absurd (cc)
member_named (m ∷ members) (p ∷ P) e x c h =
    let one : p.name ≡ m.0 = cc in
    let rest : map (λ m. m.0) members ≡ names P = cc in
    found_or_later P p x (m.0 == x) (last_class members x) (Some m.1) c (member_named members P rest x c)
    (ap (λ n. n == x) one) h

-- what shares a class is an instance
pub sharer_named : (P : List Row) (t : Table) → HasMembers P t → (round x z : ℕ) → shares t round x z ≡ true
    → IsName P x
sharer_named P t members round x z h =
    let found = classed (last_class t.members x) h in member_named t.members P members x found.0 found.1
  where
    classed : (a : Option ℕ) → same_class (ancestor_of t.classes round a) (class_at t z round) ≡ true → (c : ℕ)
        × (a ≡ Some c)
    classed None k = absurd (cc)
    classed (Some c) k = (c, refl)

pub tables_decide : TablesDecide
tables_decide P pinned t population valid =
    stable_decides P pinned (shares t) t.rounds valid.grounded population valid.stable
    (sharer_named P t valid.members t.rounds)

-- The table of partition refinement is valid.

module _ (P : List Row) (pinned : ℕ → Bool) (E : ℕ → ℕ → ℕ → Bool) (last : ℕ) (refines : IsRefinement P pinned E last)
  where
    pub refinement_grounded : IsGrounded P pinned E last
    refinement_grounded = record {
      first = λ x z a. (refines.first x z).1 a;
      next = λ r x z l h a. (refines.next r x z l).1 (h, a);
    }

    -- what shares a class shares one at round 0
    from_start : (r : ℕ) → r ≤ last → (x z : ℕ) → E r x z ≡ true → E 0 x z ≡ true
    from_start zero h x z k = k
    from_start (suc r) h x z k =
        let below : r < last = omega arith in
        from_start r (omega arith) x z ((refines.next r x z below).0 (subst (λ n. E n x z ≡ true) (sym (add-one r))
        k)).0

    pub refinement_stable : IsStable P pinned (E last)
    refinement_stable x z n k = ((refines.first x z).0 (from_start last (omega arith) x z k), refines.stable x z k)

pub standard_is_valid : StandardIsValid
standard_is_valid P pinned t standard = record {
  members = standard.members;
  grounded = refinement_grounded P pinned _ t.rounds standard.refines;
  stable = refinement_stable P pinned _ t.rounds standard.refines;
}
