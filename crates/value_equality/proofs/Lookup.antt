-- The row of a name.
use Rattle.std.proofs.Common.{◌≡◌, ℕ, Bool, true, false, cond, List, ◌∷◌, Option, Some, None, refl, ◌∙◌, ap, ◌⊎◌, inl, inr, eqb-true, eq-eqb, zero, suc, ◌+◌, drop, add-one, [], nat_eq, sym, subst}
use Rattle.std.specs.Prelude.{◌==◌, is_some, slice_get, ◌&&◌, ◌||◌}
use Rattle.std.specs.List.{IsDistinct, AllByRecursion, list_all, list_any}
use Rattle.std.proofs.lemmas.Bool.{and_parts, and_from}
use Rattle.value_equality.specs.Rows.{Row, row_at, IsName, names}

-- it is the first row, or a later one
pub row_cases : (r : Row) (rows : List Row) (y : ℕ) (p : Row) → row_at (r ∷ rows) y ≡ Some p → ((r.name ≡ y) × (r ≡ p))
    ⊎ (((r.name == y) ≡ false) × (row_at rows y ≡ Some p))
row_cases r rows y p h = go (r.name == y) refl h
  where
    go : (b : Bool) → (r.name == y) ≡ b → cond b (Some r) (row_at rows y) ≡ Some p → ((r.name ≡ y) × (r ≡ p))
        ⊎ (((r.name == y) ≡ false) × (row_at rows y ≡ Some p))
    go true e k = inl (eqb-true r.name y e, cc)
    go false e k = inr (e, k)

pub row_here : (r : Row) (rows : List Row) (y : ℕ) → r.name ≡ y → row_at (r ∷ rows) y ≡ Some r
row_here r rows y e = ap (λ (b : Bool). cond b (Some r) (row_at rows y)) (eq-eqb r.name y e)

pub row_later : (r : Row) (rows : List Row) (y : ℕ) → (r.name == y) ≡ false → row_at (r ∷ rows) y ≡ row_at rows y
row_later r rows y e = ap (λ (b : Bool). cond b (Some r) (row_at rows y)) e

pub name_here : (r : Row) (rows : List Row) → IsName (r ∷ rows) r.name
name_here r rows = (r, row_here r rows r.name refl)

-- a later row's name is a name
pub name_later : (r : Row) (rows : List Row) (y : ℕ) → IsName rows y → IsName (r ∷ rows) y
name_later r rows y n = go (r.name == y) refl
  where
    go : (b : Bool) → (r.name == y) ≡ b → IsName (r ∷ rows) y
    go true e = (r, row_here r rows y (eqb-true r.name y e))
    go false e = (n.0, row_later r rows y e ∙ n.1)

pub same_row : {p q : Row} → (o : Option Row) → o ≡ Some p → o ≡ Some q → p ≡ q
same_row o e f = cc

-- a name, as a test
pub held_name : (rows : List Row) (x : ℕ) → is_some (row_at rows x) ≡ true → IsName rows x
held_name rows x h = go (row_at rows x) h
  where
    go : (o : Option Row) → is_some o ≡ true → (p : Row) × (o ≡ Some p)
    go None k = absurd (cc)
    go (Some p) k = (p, refl)

pub name_held : (rows : List Row) (x : ℕ) → IsName rows x → is_some (row_at rows x) ≡ true
name_held rows x n = ap is_some n.1

-- A test of each row, or of each name, decides what holds of each row or name.

-- the name of a row is none of those that are apart from it
apart_name : (x : ℕ) (rows : List Row) (y : ℕ) (r : Row) → AllByRecursion (λ z. nat_eq x z ≡ false) (names rows)
    → row_at rows y ≡ Some r → (x == y) ≡ false
apart_name x [] y r a n = absurd (cc)
apart_name x (s ∷ rows) y r a n =
    elim (row_cases s rows y r n) [
      | inl here ↦ ap (λ z. x == z) (sym here.0) ∙ a.0
      | inr there ↦ apart_name x rows y r
          a.1 there.1
    ]

-- a later row keeps its name where no name stands twice
pub row_under : (s : Row) (rows : List Row) (y : ℕ) (r : Row) → IsDistinct (◌==◌) (names (s ∷ rows))
    → row_at rows y ≡ Some r → row_at (s ∷ rows) y ≡ Some r
unfolding IsDistinct
row_under s rows y r d n = row_later s rows y (apart_name s.name rows y r d.0 n) ∙ n

pub distinct_rest : (s : Row) (rows : List Row) → IsDistinct (◌==◌) (names (s ∷ rows)) → IsDistinct (◌==◌) (names rows)
unfolding IsDistinct
distinct_rest s rows d = d.1

pub row_name : (rows : List Row) (y : ℕ) (p : Row) → row_at rows y ≡ Some p → p.name ≡ y
row_name [] y p h = absurd (cc)
row_name (r ∷ rows) y p h =
    elim (row_cases r rows y p h) [
      | inl here ↦ ap (λ (q : Row). q.name) (sym here.1) ∙ here.0
      | inr there ↦ row_name
          rows y p there.1
    ]

module _ (test : Row → Bool) where
  pub all_rows : (rows : List Row) → list_all test rows ≡ true → (x : ℕ) (r : Row) → row_at rows x ≡ Some r
      → test r ≡ true
  all_rows [] h x r n = absurd (cc)
  all_rows (s ∷ rows) h x r n =
      let parts = and_parts (test s) (list_all test rows) h in
      elim (row_cases s rows x r n) [
        | inl here ↦ subst (λ (t : Row). test t ≡ true) here.1 parts.0
        | inr there ↦
            all_rows rows parts.1 x r there.1
      ]

  pub rows_all : (rows : List Row) → IsDistinct (◌==◌) (names rows) → ((x : ℕ) (r : Row) → row_at rows x ≡ Some r
      → test r ≡ true) → list_all test rows ≡ true
  rows_all [] d f = refl
  rows_all (s ∷ rows) d f =
      and_from (test s) (list_all test rows) (f s.name s (row_here s rows s.name refl))
      (rows_all rows (distinct_rest s rows d) (λ x r n. f x r (row_under s rows x r d n)))

module _ (test : ℕ → Bool) where
  pub all_names : (rows : List Row) → list_all (λ r. test r.name) rows ≡ true → (x : ℕ) → IsName rows x → test x ≡ true
  all_names rows h x n = ap test (sym (row_name rows x n.0 n.1)) ∙ all_rows (λ r. test r.name) rows h x n.0 n.1

  pub names_all : (rows : List Row) → ((x : ℕ) → IsName rows x → test x ≡ true) → list_all (λ r. test r.name)
      rows ≡ true
  names_all [] f = refl
  names_all (s ∷ rows) f = and_from (test s.name) (list_all (λ r. test r.name) rows) (f s.name (name_here s rows))
      (names_all rows (λ x n. f x (name_later s rows x n)))

-- A step of a loop over rows by their places.

items_after : {A : Type 0} (xs : List A) (i : ℕ) (x : A) → slice_get xs i ≡ Some x → drop i xs ≡ x ∷ drop (suc i) xs
items_after [] i x at = absurd (cc)
items_after (y ∷ xs) zero x at = let same : y ≡ x = cc in ap (λ z. z ∷ xs) same
items_after (y ∷ xs) (suc i) x at = items_after xs i x at

pub items_from : {A : Type 0} (xs : List A) (i : ℕ) (x : A) → slice_get xs i ≡ Some x → drop i xs ≡ x ∷ drop (i + 1) xs
items_from xs i x at = items_after xs i x at ∙ ap (λ n. x ∷ drop n xs) (sym (add-one i))

-- the row whose name stands at a place
pub named : (rows : List Row) (i x : ℕ) → slice_get (names rows) i ≡ Some x → (r : Row) × (slice_get rows i ≡ Some r)
    × (r.name ≡ x)
named [] i x at = absurd (cc)
named (r ∷ rows) zero x at = (r, refl, cc)
named (r ∷ rows) (suc i) x at = named rows i x at

module _ (test : Row → Bool) (rows : List Row) (i : ℕ) (r : Row) (at : slice_get rows i ≡ Some r) where
  pub all_stop : test r ≡ false → list_all test (drop i rows) ≡ false
  all_stop e = ap (list_all test) (items_from rows i r at) ∙ ap (λ b. b && list_all test (drop (i + 1) rows)) e

  pub all_next : test r ≡ true → list_all test (drop i rows) ≡ list_all test (drop (i + 1) rows)
  all_next e = ap (list_all test) (items_from rows i r at) ∙ ap (λ b. b && list_all test (drop (i + 1) rows)) e

module _ (test : ℕ → Bool) (rows : List Row) (i x : ℕ) (at : slice_get (names rows) i ≡ Some x) where
  pub names_stop : test x ≡ false → list_all (λ r. test r.name) (drop i rows) ≡ false
  names_stop e = let r = named rows i x at in all_stop (λ r. test r.name) rows i r.0 r.1 (ap test r.2 ∙ e)

  pub names_next : test x ≡ true → list_all (λ r. test r.name) (drop i rows) ≡ list_all (λ r. test r.name)
      (drop (i + 1) rows)
  names_next e = let r = named rows i x at in all_next (λ r. test r.name) rows i r.0 r.1 (ap test r.2 ∙ e)

  pub any_next : list_any (λ r. test r.name) (drop i rows) ≡ (test x || list_any (λ r. test r.name) (drop (i + 1) rows))
  any_next =
      let r = named rows i x at in
      ap (list_any (λ r. test r.name)) (items_from rows i r.0 r.1)
      ∙ ap (λ b. b || list_any (λ r. test r.name) (drop (i + 1) rows)) (ap test r.2)
