-- The quotient by the last round of a standard table has an instance for each class of the table.
use Rattle.std.proofs.Common.{◌≡◌, ◌≤◌, ◌<◌, ℕ, zero, suc, Bool, true, false, cond, List, [], ◌∷◌, Option, Some, None, refl, sym, ◌∙◌, ◌+◌, ap, subst, ◌⊎◌, inl, inr, arith, length}
use Rattle.std.specs.Prelude.{◌==◌, slice_index}
use Rattle.std.specs.List.{IsDistinct, AllByRecursion}
use Rattle.std.proofs.lemmas.Bool.{cases_lt, ne_eqb}
use Rattle.std.proofs.lemmas.Option.{slice_get_within}
use Rattle.step_values.specs.Values.{none}
use Rattle.value_equality.specs.Rows.{Row, names, IsName, IsPopulation}
use Rattle.value_equality.specs.ValueEquality.{IsCongruence}
use Rattle.value_equality.specs.Images.{head_of, quotient}
use Rattle.value_equality.specs.Tables.{Table, class_at, same_class, shares}
use Rattle.value_equality.specs.Standard.{IsFirstOfClass, IsStandard}
use Rattle.value_equality.proofs.Lookup.{row_cases, name_here, name_later}
use Rattle.value_equality.proofs.Congruences.{congruence}
use Rattle.value_equality.proofs.Rounds.{own, refinement_grounded, standard_is_valid, tables_decide}
use Rattle.value_equality.proofs.Ancestors.{classes_are_ancestors}
use Rattle.value_equality.proofs.Numbering.{ancestor_there, index_named, same_class_is, is_same_class, begins_in_time}
use Rattle.value_equality.proofs.Chosen.{row_of_quotient, quotient_distinct}
use Rattle.value_equality.proofs.Quotients.{in_class, same_head, quotient_image}
use Rattle.value_equality.proofs.Counting.{apart_no_more}

-- a row for each number below n
class_row : ℕ → Row
class_row c = record { name = c; section = 0; types = []; values = none }

class_rows : ℕ → List Row
class_rows zero = []
class_rows (suc n) = class_row n ∷ class_rows n

rows_below : (n a : ℕ) → IsName (class_rows n) a → a < n
unfolding class_rows class_row
rows_below zero a m = absurd (let e = m.1 in cc)
rows_below (suc n) a m = elim (row_cases (class_row n) (class_rows n) a m.0 m.1) [
  | inl here ↦ let e : n ≡ a = here.0 in omega arith
  | inr there ↦ let l = rows_below n a (m.0, there.1) in omega arith
]

rows_there : (n a : ℕ) → a < n → IsName (class_rows n) a
unfolding class_rows class_row
rows_there zero a l = absurd (omega arith)
rows_there (suc n) a l = elim (cases_lt a n) [
  | inl less ↦ name_later (class_row n) (class_rows n) a (rows_there n a less)
  | inr more ↦ let e : n ≡ a = omega arith in
      subst (IsName (class_row n ∷ class_rows n)) e (name_here (class_row n) (class_rows n))
]

rows_apart : (m n : ℕ) → m ≤ n → AllByRecursion (λ y. (n == y) ≡ false) (names (class_rows m))
unfolding class_rows class_row
rows_apart zero n l = tt
rows_apart (suc m) n l = (ne_eqb n m (λ e. let s : n ≡ m = e in omega arith), rows_apart m n (omega arith))

rows_distinct : (n : ℕ) → IsDistinct (◌==◌) (names (class_rows n))
unfolding class_rows class_row IsDistinct
rows_distinct zero = tt
rows_distinct (suc n) = (rows_apart n n (omega arith), rows_distinct n)

as_many_rows : (n : ℕ) → length (class_rows n) ≡ n
unfolding class_rows
as_many_rows zero = refl
as_many_rows (suc n) = ap suc (as_many_rows n)

-- the first of some names that is in a class
first_of : (ℕ → Option ℕ) → List ℕ → ℕ → ℕ
first_of class [] c = 0
first_of class (y ∷ ys) c = cond (same_class (class y) (Some c)) y (first_of class ys c)

or_zero : Option ℕ → ℕ
or_zero None = 0
or_zero (Some c) = c

module _ (P : List Row) (pinned : ℕ → Bool) (t : Table) (population : IsPopulation P) (standard : IsStandard P pinned t)
  where
    abbrev E : ℕ → ℕ → Bool
    E = shares t t.rounds

    abbrev class : ℕ → Option ℕ
    class y = class_at t y t.rounds

    agrees : IsCongruence P pinned E
    agrees = congruence P pinned E population
        (tables_decide P pinned t population (standard_is_valid P pinned t standard))

    -- each instance has a class
    classed : (y : ℕ) → IsName P y → (c : ℕ) × (class y ≡ Some c) × (c < length t.classes)
    classed y n = go (class y) refl (own P pinned (shares t) t.rounds
        (refinement_grounded P pinned (shares t) t.rounds standard.refines) population t.rounds (omega arith) y n)
      where
        go : (o : Option ℕ) → class y ≡ o → same_class o o ≡ true → (c : ℕ) × (class y ≡ Some c)
            × (c < length t.classes)
        go None e k = absurd (cc)
        go (Some c) e k =
            let up = (classes_are_ancestors t y t.rounds c).0 e in
            let there = ancestor_there t.classes t.rounds up.0 c up.2 in
            (c, e, slice_get_within t.classes c there.0 there.1)

    -- the first of a class stays its first
    first_stays : (round c i n : ℕ) → IsFirstOfClass (names P) t round c i → round + n ≤ t.rounds
        → IsFirstOfClass (names P) t (round + n) c i
    first_stays round c i zero first l = subst (λ k. IsFirstOfClass (names P) t k c i) (omega arith) first
    first_stays round c i (suc n) first l =
        let before = first_stays round c i n first (omega arith) in
        let next = one_more (round + n) before (omega arith) in
        subst (λ k. IsFirstOfClass (names P) t k c i) (omega arith) next
      where
        one_more : (k : ℕ) → IsFirstOfClass (names P) t k c i → k < t.rounds → IsFirstOfClass (names P) t (k + 1) c i
        one_more k f less = record {
          within = f.within;
          there = standard.numbered.keeps_number k c i f;
          earliest = λ j before e.
              let both : shares t (k + 1) (slice_index (names P) j) (slice_index (names P) i) ≡ true =
              is_same_class (class_at t (slice_index (names P) j) (k + 1))
              (class_at t (slice_index (names P) i) (k + 1)) c e (standard.numbered.keeps_number k c i f) in
              let earlier : shares t k (slice_index (names P) j) (slice_index (names P) i) ≡ true =
              ((standard.refines.next k (slice_index (names P) j) (slice_index (names P) i) less).0 both).0 in
              f.earliest j before (same_class_is (class_at t (slice_index (names P) j) k) c
              (subst (λ o. same_class (class_at t (slice_index (names P) j) k) o ≡ true) f.there earlier));
        }

    -- each class has an instance
    used : (c : ℕ) → c < length t.classes → (y : ℕ) × IsName P y × (class y ≡ Some c)
    used c l =
        let at = standard.numbered.used c l in
        let round : ℕ = at.0 in
        let i : ℕ = at.1 in
        let in_time : round ≤ t.rounds = begins_in_time P pinned t population standard c round i at.2 in
        let n : (k : ℕ) × (round + k ≡ t.rounds) = rest round t.rounds in_time in
        let last = first_stays round c i n.0 at.2.first (omega (arith, n.1)) in (
          slice_index (names P) i,
          index_named P i last.within,
          subst (λ k. class_at t (slice_index (names P) i) k ≡ Some c) n.1 last.there,
        )
      where
        rest : (m n : ℕ) → m ≤ n → (k : ℕ) × (m + k ≡ n)
        rest zero n l = (n, omega arith)
        rest (suc m) zero l = absurd (omega arith)
        rest (suc m) (suc n) l = let r = rest m n (omega arith) in let e = r.1 in (r.0, omega arith)

    -- the class of an instance of the quotient tells it
    classes_apart : (a b : ℕ) → IsName (quotient P E) a → IsName (quotient P E) b
        → or_zero (class a) ≡ or_zero (class b) → a ≡ b
    unfolding or_zero
    classes_apart a b n m e =
        let x = row_of_quotient P E a n.0 n.1 in
        let z = row_of_quotient P E b m.0 m.1 in
        let c = classed a (x.row, x.row_is) in
        let d = classed b (z.row, z.row_is) in
        let one : c.0 ≡ d.0 = sym (ap or_zero c.1) ∙ e ∙ ap or_zero d.1 in
        let related : E a b ≡ true = is_same_class (class a) (class b) c.0 c.1 (d.1 ∙ ap Some (sym one)) in
        sym x.first ∙ same_head P pinned E agrees a b related ∙ z.first

    -- the class of an instance is one of those of the table
    into_classes : (a : ℕ) → IsName (quotient P E) a
        → IsName (class_rows (length t.classes)) (or_zero (class a))
    unfolding or_zero
    into_classes a n =
        let x = row_of_quotient P E a n.0 n.1 in
        let c = classed a (x.row, x.row_is) in
        rows_there (length t.classes) (or_zero (class a)) (subst (λ k. k < length t.classes)
        (sym (ap or_zero c.1)) c.2)

    -- the first instance of a class is in it
    first_found : (Q : List Row) (c y : ℕ) → IsName Q y → class y ≡ Some c
        → class (first_of class (names Q) c) ≡ Some c × IsName Q (first_of class (names Q) c)
    unfolding first_of
    first_found [] c y n h = absurd (let e = n.1 in cc)
    first_found (r ∷ rows) c y n h = go (same_class (class r.name) (Some c)) refl
        (elim (row_cases r rows y n.0 n.1) [
          | inl here ↦ inl (ap class here.0 ∙ h)
          | inr there ↦ inr (first_found rows c y (n.0, there.1) h)
        ])
      where
        go : (b : Bool) → same_class (class r.name) (Some c) ≡ b → (class r.name ≡ Some c)
            ⊎ ((class (first_of class (names rows) c) ≡ Some c) × IsName rows (first_of class (names rows) c))
            → (class (cond b r.name (first_of class (names rows) c)) ≡ Some c)
            × IsName (r ∷ rows) (cond b r.name (first_of class (names rows) c))
        go true e found = (same_class_is (class r.name) c e, name_here r rows)
        go false e (inl here) = absurd (let yes : same_class (class r.name) (Some c) ≡ true =
            is_same_class (class r.name) (Some c) c here refl in cc)
        go false e (inr there) = (there.0, name_later r rows (first_of class (names rows) c) there.1)

    abbrev head : ℕ → ℕ
    head = head_of (names P) E

    -- the instance of the quotient that is in a class
    abbrev leader : ℕ → ℕ
    leader c = head (first_of class (names P) c)

    leads : (c : ℕ) → c < length t.classes → (class (leader c) ≡ Some c) × IsName (quotient P E) (leader c)
    leads c l =
        let y = used c l in
        let first = first_found P c y.0 y.1 y.2 in
        let w : ℕ = first_of class (names P) c in
        let within = in_class P pinned E agrees w first.1 in
        let landed = (quotient_image P pinned E agrees).lands w first.1.0 first.1.1 in (
          same_class_is (class (head w)) c (subst (λ o. same_class (class (head w)) o ≡ true) first.0 within.0),
          (landed.0, landed.1),
        )

    leaders_apart : (a b : ℕ) → IsName (class_rows (length t.classes)) a
        → IsName (class_rows (length t.classes)) b → leader a ≡ leader b → a ≡ b
    unfolding or_zero
    leaders_apart a b n m e =
        let x = leads a (rows_below (length t.classes) a n) in
        let z = leads b (rows_below (length t.classes) b m) in
        ap or_zero (sym x.0 ∙ ap class e ∙ z.0)

    pub classes_counted : length (quotient P E) ≡ length t.classes
    classes_counted =
        let n : ℕ = length t.classes in
        let most : length (quotient P E) ≤ length (class_rows n) = apart_no_more (λ y. or_zero (class y)) (quotient P E)
        (class_rows n) (quotient_distinct P E population.distinct) classes_apart into_classes in
        let least : length (class_rows n) ≤ length (quotient P E) = apart_no_more leader (class_rows n)
        (quotient P E) (rows_distinct n) leaders_apart
        (λ a m. (leads a (rows_below n a m)).1) in
        let many : length (class_rows n) ≡ n = as_many_rows n in
        omega (arith, most, least, many)

    -- the classes are no more than the instances
    pub classes_few : length t.classes ≤ length P
    classes_few =
        let less : length (quotient P E) ≤ length P = apart_no_more (λ y. y) (quotient P E) P
        (quotient_distinct P E population.distinct) (λ a b n m e. e)
        (λ a n. let from = row_of_quotient P E a n.0 n.1 in (from.row, from.row_is)) in
        omega (arith, less, classes_counted)
