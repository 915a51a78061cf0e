-- A round is stable where each instance agrees with the first of its class.
use Rattle.std.proofs.Common.{◌≡◌, ◌≢◌, ℕ, Bool, true, false, List, Option, Some, None, slice_get, refl, sym, ap, ◌∙◌, subst, eqb-true, eq-eqb}
use Rattle.std.specs.Prelude.{◌==◌, ◌||◌, unwrap_or, ◌↔◌}
use Rattle.std.specs.List.{IsDistinct}
use Rattle.std.proofs.lemmas.Bool.{false≢true}
use Rattle.step_values.specs.Values.{AgreeEach}
use Rattle.value_equality.specs.Images.{head_of}
use Rattle.value_equality.specs.ValueEquality.{AreAlike, AgreeUnder, under}
use Rattle.value_equality.specs.Rows.{Row, row_kind, names, row_at, IsName, IsPopulation}
use Rattle.value_equality.specs.Standard.{IsWellFormed}
use Rattle.value_equality.specs.Tables.{Table, HasMembers, IsStable, shares, class_at, same_class, ancestor_of}
use Rattle.value_equality.proofs.Few.{same_class_back}
use Rattle.value_equality.proofs.Heads.{head_found, one_head}
use Rattle.value_equality.proofs.Lookup.{same_row, row_name}
use Rattle.value_equality.proofs.Pairs.{alike_refl, alike_sym, alike_trans, agree_under_refl, agree_under_back, agree_under_trans}
use Rattle.certificate_checks.specs.steps.Places.{by_place}
use Rattle.certificate_checks.specs.steps.ComputedStability.{labels_by, classes_of, AgreesWith, AgreesWithFirst}
use Rattle.certificate_checks.proofs.FirstMembers.{place_of, member_at, last_none, get_map, by_place_at, class_of, row_here_at}
use Rattle.certificate_checks.proofs.Agreeing.{by_labels, from_labels}

-- the class of an instance is the number at its place
class_is : (P : List Row) (t : Table) → HasMembers P t → IsWellFormed t → IsDistinct (◌==◌) (names P) → (y : ℕ)
    → IsName P y → class_at t y t.rounds ≡ Some (by_place P (classes_of t.members) y)
class_is P t members well distinct y n =
    let i = place_of P y n.0 n.1 in
    let m = member_at t.members P i.0 n.0 members i.1 in
    let name : n.0.name ≡ y = row_name P y n.0 n.1 in
    let told : by_place P (classes_of t.members) y ≡ m.0.1 =
    subst (λ x. by_place P (classes_of t.members) x ≡ m.0.1) name (by_place_at P (classes_of t.members) i.0 n.0 distinct i.1
    ∙ ap (λ o. unwrap_or o n.0.name) (get_map (λ (k : ℕ × ℕ). k.1) t.members i.0 m.0 m.1)) in
    ap (λ x. class_at t x t.rounds) (sym (m.2 ∙ name)) ∙ class_of P t members well distinct i.0 m.0 m.1
    ∙ ap Some (sym told)

same_class_through : (a b c : Option ℕ) → same_class a b ≡ true → same_class b c ≡ true → same_class a c ≡ true
same_class_through None b c e f = absurd (false≢true e)
same_class_through (Some a) None c e f = absurd (false≢true e)
same_class_through (Some a) (Some b) None e f = absurd (false≢true f)
same_class_through (Some a) (Some b) (Some c) e f = eq-eqb a c (eqb-true a b e ∙ eqb-true b c f)

left_is : (a b : Option ℕ) → same_class a b ≡ true → (c : ℕ) × (a ≡ Some c)
left_is None b e = absurd (false≢true e)
left_is (Some c) b e = (c, refl)

module _ (P : List Row) (pinned : ℕ → Bool) (t : Table) (members : HasMembers P t) (well : IsWellFormed t)
    (population : IsPopulation P) where
  abbrev E : ℕ → ℕ → Bool
  E = shares t t.rounds

  abbrev h : ℕ → ℕ
  h = head_of (names P) E

  back : (x z : ℕ) → E x z ≡ true → E z x ≡ true
  back x z e = same_class_back (class_at t x t.rounds) (class_at t z t.rounds) e

  through : (x y z : ℕ) → E x y ≡ true → E y z ≡ true → E x z ≡ true
  through x y z e f = same_class_through (class_at t x t.rounds) (class_at t y t.rounds) (class_at t z t.rounds) e f

  -- what shares a class with something is an instance
  named : (x z : ℕ) → E x z ≡ true → IsName P x
  named x z e = by (row_at P x) refl
    where
      clash : (c : ℕ) → None ≡ Some c → ⊥
      clash c q = absurd (cc)

      by : (o : Option Row) → row_at P x ≡ o → IsName P x
      by (Some r) q = (r, q)
      by None q =
          let l = left_is (class_at t x t.rounds) (class_at t z t.rounds) e in
          absurd (clash l.0 (sym (ap (ancestor_of t.classes t.rounds) (last_none t.members P x members q)) ∙ l.1))

  own : (x : ℕ) → IsName P x → E x x ≡ true
  own x n =
      let c = class_is P t members well population.distinct x n in
      (λ i. same_class (c i) (c i)) ∙ eq-eqb (by_place P (classes_of t.members) x) (by_place P (classes_of t.members) x) refl

  decides : (y z : ℕ) → IsName P y → IsName P z → E y z ≡ (by_place P (classes_of t.members) y
      == by_place P (classes_of t.members) z)
  decides y z n m = λ i. same_class (class_is P t members well population.distinct y n i)
      (class_is P t members well population.distinct z m i)

  abbrev Agree : ℕ → ℕ → Type 0
  Agree x z = AreAlike P pinned x z × AgreeUnder P pinned E x z

  agree_self : (x : ℕ) → IsName P x → Agree x x
  agree_self x n = (alike_refl P pinned x n, agree_under_refl P pinned E population own x n)

  agree_back : (x z : ℕ) → Agree x z → Agree z x
  agree_back x z a = (alike_sym P pinned x z a.0, agree_under_back P pinned E E back x z a.1)

  agree_through : (x y z : ℕ) → Agree x y → Agree y z → Agree x z
  agree_through x y z a b = (alike_trans P pinned x y z a.0 b.0, agree_under_trans P pinned E E E through x y z a.1 b.1)

  -- a row that is good agrees with the first of its class
  good_agrees : (r : Row) → row_at P r.name ≡ Some r → AgreesWith P pinned (labels_by pinned P (classes_of t.members)) r
      (h r.name) → Agree r.name (h r.name)
  good_agrees r at a = (
    record {
      left = r;
      right = a.first;
      left_is = at;
      right_is = a.first_is;
      same_kind = a.same_kind;
      same_if_pinned = (λ e. absurd (false≢true (sym (λ i. a.free i || a.first_free i) ∙ e)));
    },
    record {
      left = r;
      right = a.first;
      left_is = at;
      right_is = a.first_is;
      values_agree = from_labels P pinned (classes_of t.members) E decides r.values a.first.values
          (population.closed r.name r at) (population.closed (h r.name) a.first a.first_is) a.values_agree;
    },
  )

  agrees_good : (r : Row) → row_at P r.name ≡ Some r → h r.name ≢ r.name → Agree r.name (h r.name)
      → AgreesWith P pinned (labels_by pinned P (classes_of t.members)) r (h r.name)
  agrees_good r at other a =
      let left : a.0.left ≡ r = same_row (row_at P r.name) a.0.left_is at in
      let seen : a.1.left ≡ r = same_row (row_at P r.name) a.1.left_is at in
      let right : a.1.right ≡ a.0.right = same_row (row_at P (h r.name)) a.1.right_is a.0.right_is in
      record {
        first = a.0.right;
        first_is = a.0.right_is;
        free = free (pinned r.name) (λ e. other (sym (a.0.same_if_pinned (ap (λ b. b || pinned (h r.name)) e)))) refl;
        first_free = free (pinned (h r.name)) (λ e. other (sym (a.0.same_if_pinned (either (pinned r.name)
            (pinned (h r.name)) e)))) refl;
        same_kind = ap row_kind (sym left) ∙ a.0.same_kind;
        values_agree = by_labels P pinned (classes_of t.members) E decides r.values a.0.right.values
            (population.closed r.name r at) (population.closed (h r.name) a.0.right a.0.right_is)
            (subst (λ (q : Row). AgreeEach (under pinned E) q.values a.0.right.values) seen
            (subst (λ (q : Row). AgreeEach (under pinned E) a.1.left.values q.values) right a.1.values_agree));
      }
    where
      free : (b : Bool) → (b ≡ true → ⊥) → b ≡ b → b ≡ false
      free true f e = absurd (f refl)
      free false f e = refl

      either : (b c : Bool) → c ≡ true → (b || c) ≡ true
      either true c e = refl
      either false c e = e

  -- the row of each place stands under its name
  stands : (rows : List Row) (i : ℕ) (r : Row) → IsDistinct (◌==◌) (names rows) → slice_get rows i ≡ Some r
      → row_at rows r.name ≡ Some r
  stands rows i r d e = row_here_at rows i r d e

  half : ((i : ℕ) (r : Row) → slice_get P i ≡ Some r
      → AgreesWithFirst P pinned (labels_by pinned P (classes_of t.members)) h r) → (x : ℕ) → IsName P x → Agree x (h x)
  half good x n = by (h x == x) refl
    where
      name : n.0.name ≡ x
      name = row_name P x n.0 n.1

      by : (b : Bool) → (h x == x) ≡ b → Agree x (h x)
      by true e = subst (Agree x) (sym (eqb-true (h x) x e)) (agree_self x n)
      by false e =
          let i = place_of P x n.0 n.1 in
          let other : h n.0.name ≢ n.0.name = (λ q. false≢true (sym e ∙ eq-eqb (h x) x (ap h (sym name) ∙ q ∙ name))) in
          subst (λ y. Agree y (h y)) name (good_agrees n.0 (ap (row_at P) name ∙ n.1) (good i.0 n.0 i.1 other))

  pub stable_if : ((i : ℕ) (r : Row) → slice_get P i ≡ Some r
      → AgreesWithFirst P pinned (labels_by pinned P (classes_of t.members)) h r) → IsStable P pinned E
  stable_if good x z other e =
      let nx = named x z e in
      let nz = named z x (back x z e) in
      let heads : h x ≡ h z = one_head P E back through x z nx e in
      agree_through x (h x) z (half good x nx) (subst (λ y. Agree y z) (sym heads) (agree_back z (h z) (half good z nz)))

  pub stable_then : IsStable P pinned E → (i : ℕ) (r : Row) → slice_get P i ≡ Some r
      → AgreesWithFirst P pinned (labels_by pinned P (classes_of t.members)) h r
  stable_then s i r e other =
      let at = stands P i r population.distinct e in
      let n : IsName P r.name = (r, at) in
      let found = head_found E P r.name r.name n (own r.name n) in
      agrees_good r at other (s r.name (h r.name) (λ q. other (sym q)) (back (h r.name) r.name found.0))

-- The table is stable exactly if each row agrees with the first of its class, by the lists that the
-- code computes.
pub stable_where : (P : List Row) (pinned : ℕ → Bool) (t : Table) → HasMembers P t → IsWellFormed t → IsPopulation P
    → (fs cs : List ℕ) → by_place P fs ≡ head_of (names P) (shares t t.rounds) → cs ≡ classes_of t.members
    → (((i : ℕ) (r : Row) → slice_get P i ≡ Some r
    → AgreesWithFirst P pinned (labels_by pinned P cs) (by_place P fs) r) ↔ IsStable P pinned (shares t t.rounds))
stable_where P pinned t members well population fs cs leads ce = (
  λ good. stable_if P pinned t members well population (λ i r e. subst (λ x. AgreesWithFirst P pinned
      (labels_by pinned P x) (head_of (names P) (shares t t.rounds)) r) ce
      (subst (λ f. AgreesWithFirst P pinned (labels_by pinned P cs) f r) leads (good i r e))),
  λ s i r e. subst (λ f. AgreesWithFirst P pinned (labels_by pinned P cs) f r) (sym leads)
      (subst (λ x. AgreesWithFirst P pinned (labels_by pinned P x) (head_of (names P) (shares t t.rounds)) r) (sym ce)
      (stable_then P pinned t members well population s i r e)),
)
