-- Splits have their grounds exactly where the classes that are split off have theirs.
use Rattle.std.proofs.Common.{◌≡◌, ◌<◌, ◌+◌, ℕ, suc, Bool, true, false, cond, List, length, map, refl, sym, ◌∙◌, ap, subst, inl, inr, arith, eqb-true, eq-eqb}
use Rattle.std.specs.Prelude.{◌==◌, ◌||◌, ◌↔◌, slice_index}
use Rattle.std.proofs.lemmas.Bool.{false≢true, cases_lt}
use Rattle.partition_edges.specs.declared.edges.Edge.{Edge}
use Rattle.partition_edges.proofs.Agreement.{agree_map}
use Rattle.split_checks.specs.declared.births.Birth.{Birth}
use Rattle.split_checks.specs.steps.Births.{Shared}
use Rattle.split_checks.specs.steps.Grounds.{HaveGrounds, StandForOne}
use Rattle.value_equality.specs.ValueEquality.{under, AgreeUnder}
use Rattle.value_equality.specs.Rows.{Row, IsPopulation, names}
use Rattle.value_equality.specs.Standard.{IsWellFormed}
use Rattle.value_equality.specs.Tables.{Table, HasMembers, shares}
use Rattle.certificate_checks.specs.steps.Splits.{SplitsHaveGrounds}
use Rattle.row_signatures.specs.steps.Signatures.{AreReferences, AreShapes, none_pinned}
use Rattle.row_signatures.proofs.Agreeing.{agree_by_all}
use Rattle.row_signatures.proofs.Naming.{one_place, placed, stands}
use Rattle.certificate_checks.specs.steps.ComputedSplits.{AreBirthsOf, AreOwn}
use Rattle.certificate_checks.proofs.Sharing.{as_many, shared_on, shared_self, shares_where}

same_own : (x z : ℕ) (a b : Bool) → (a || b) ≡ true → cond a (suc x) 0 ≡ cond b (suc z) 0 → x ≡ z
same_own x z true true e h = cc
same_own x z true false e h = absurd (cc)
same_own x z false true e h = absurd (cc)
same_own x z false false e h = absurd (false≢true e)

both_free : (a b : Bool) → (a || b) ≡ false → (a ≡ false) × (b ≡ false)
both_free true b e = absurd (false≢true (sym e))
both_free false b e = (refl, e)

module _ (P : List Row) (pinned : ℕ → Bool) (t : Table) (population : IsPopulation P) (members : HasMembers P t)
    (well : IsWellFormed t) (births : List Birth) (are : AreBirthsOf t.classes births) (last : List ℕ)
    (last_is : last ≡ map (λ (m : ℕ × ℕ). m.1) t.members) (own : List ℕ) (owned : AreOwn P pinned own (length P)) where
  abbrev at : ℕ → ℕ
  at x = slice_index (names P) x

  shared : (round x z : ℕ) → x < length P → z < length P
      → (shares t round (at x) (at z) ≡ true) ↔ Shared births last round x z
  shared = shares_where t well births are P members population.distinct last last_is

  -- no name stands at two places
  at_one : (x z : ℕ) → x < length P → z < length P → at x ≡ at z → x ≡ z
  at_one x z l k e =
      let p = placed P x l in
      let q = placed P z k in
      one_place P x z p.row q.row population.distinct p.row_is q.row_is (sym p.named ∙ e ∙ q.named)

  -- names pass with pins where their places stand for one
  module _ (round x z : ℕ) (l : x < length P) (k : z < length P) where
    free_own : (y : ℕ) → y < length P → pinned (at y) ≡ false → slice_index own y ≡ 0
    free_own y m e = owned.number y m ∙ ap (λ b. cond b (suc y) 0) e

    stand_where : (under pinned (shares t round) (at x) (at z) ≡ true)
        ↔ StandForOne own (Shared births last round) x z
    stand_where = by (pinned (at x) || pinned (at z)) refl
      where
        by : (b : Bool) → (pinned (at x) || pinned (at z)) ≡ b
            → (cond b (at x == at z) (shares t round (at x) (at z)) ≡ true)
            ↔ StandForOne own (Shared births last round) x z
        by true e = (
          λ u. (let same = at_one x z l k (eqb-true (at x) (at z) u) in (
            ap (slice_index own) same,
            subst (Shared births last round x) same
                (shared_self t well births are P members population.distinct last last_is round x l),
          )),
          λ h. eq-eqb (at x) (at z) (ap at (same_own x z (pinned (at x)) (pinned (at z)) e
              (sym (owned.number x l) ∙ h.0 ∙ owned.number z k))),
        )
        by false e =
            let free = both_free (pinned (at x)) (pinned (at z)) e in (
              λ u. (free_own x l free.0 ∙ sym (free_own z k free.1), (shared round x z l k).0 u),
              λ h. (shared round x z l k).1 h.1,
            )

  module _ (edges : List Edge) (refer : AreReferences P edges) (shapes : List ℕ) (shaped : AreShapes P none_pinned shapes) where
    abbrev Under : ℕ → ℕ → ℕ → Type 0
    Under round y w = under pinned (shares t round) (at y) (at w) ≡ true

    long : length last ≡ length P
    long = as_many P t last members last_is

    next_if : HaveGrounds births last own shapes edges → SplitsHaveGrounds P pinned t
    next_if grounds round x z lt e a =
        let s = stands P x (a.left, a.left_is) in
        let u = stands P z (a.right, a.right_is) in
        let l = s.within in
        let k = u.within in
        let together : shares t round (at s.place) (at u.place) ≡ true =
        subst (λ y. shares t round y (at u.place) ≡ true) (sym s.index_is)
        (subst (λ w. shares t round x w ≡ true) (sym u.index_is) e) in
        let agree : AgreeUnder P pinned (shares t round) (at s.place) (at u.place) =
        subst (λ y. AgreeUnder P pinned (shares t round) y (at u.place)) (sym s.index_is)
        (subst (λ w. AgreeUnder P pinned (shares t round) x w) (sym u.index_is) a) in
        let parts = (agree_by_all P pinned (shares t round) population edges refer shapes shaped s.place u.place l
        k).0 agree in
        let still = (shared (round + 1) s.place u.place l k).1 (grounds round s.place u.place
        (omega (arith, l, long)) (omega (arith, k, long)) ((shared round s.place u.place l k).0 together) parts.0
        (agree_map edges (length P) (Under round) (StandForOne own (Shared births last round)) s.place u.place refer.are
        (λ y w i j h. (stand_where round y w i j).0 h) parts.1)) in
        subst (λ y. shares t (round + 1) y z ≡ true) s.index_is
        (subst (λ w. shares t (round + 1) (at s.place) w ≡ true) u.index_is still)

    next_then : SplitsHaveGrounds P pinned t → HaveGrounds births last own shapes edges
    next_then next round x z lx lz s shape agree = elim (cases_lt round t.rounds) [
      | inl lt ↦ (let l : x < length P = omega (arith, lx, long) in
          let k : z < length P = omega (arith, lz, long) in
          (shared (round + 1) x z l k).0 (next round (at x) (at z) lt ((shared round x z l k).1 s)
          ((agree_by_all P pinned (shares t round) population edges refer shapes shaped x z l k).1 (
            shape,
            agree_map edges (length P) (StandForOne own (Shared births last round)) (Under round) x z refer.are
                (λ y w i j h. (stand_where round y w i j).1 h) agree,
          ))))
      | inr past ↦ shared_on t well births are P members population.distinct last last_is round x z past s
    ]

    pub grounds_where : HaveGrounds births last own shapes edges ↔ SplitsHaveGrounds P pinned t
    grounds_where = (next_if, next_then)
