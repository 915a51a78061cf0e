-- The rows that pass a test of their names, with references renamed.
use Rattle.std.proofs.Common.{◌≡◌, ℕ, Bool, true, false, cond, List, [], ◌∷◌, Some, refl, sym, ◌∙◌, ap, subst, ◌⊎◌, inl, inr, eqb-true, eq-eqb}
use Rattle.std.specs.Prelude.{◌==◌, map, filter}
use Rattle.std.specs.List.{IsDistinct, AllByRecursion}
use Rattle.value_equality.specs.Rows.{Row, names, row_at, renamed_row}
use Rattle.value_equality.specs.Images.{head_of, quotient}
use Rattle.value_equality.proofs.Lookup.{row_cases, row_here, row_later}

module _ (h : ℕ → ℕ) (test : ℕ → Bool) where
  chosen : List Row → List Row
  chosen rows = map (renamed_row h) (filter (λ r. test r.name) rows)

  chosen_row : (rows : List Row) (y : ℕ) (p : Row) → row_at rows y ≡ Some p → test y ≡ true
      → row_at (chosen rows) y ≡ Some (renamed_row h p)
  unfolding chosen
  chosen_row [] y p n t = absurd (cc)
  chosen_row (r ∷ rows) y p n t =
      go (test r.name) refl (elim (row_cases r rows y p n)
      [ inl here ↦ inl here | inr there ↦ inr (there.0, chosen_row rows y p there.1 t) ])
    where
      go : (b : Bool) → test r.name ≡ b → ((r.name ≡ y) × (r ≡ p))
          ⊎ (((r.name == y) ≡ false) × (row_at (map (renamed_row h) (filter (λ q. test q.name) rows)) y ≡ Some
          (renamed_row h p))) → row_at (map (renamed_row h) (cond b (r ∷ filter (λ q. test q.name) rows)
          (filter (λ q. test q.name) rows))) y ≡ Some (renamed_row h p)
      go true e (inl here) = row_here (renamed_row h r) (map (renamed_row h) (filter (λ q. test q.name) rows)) y here.0
          ∙ ap (λ q. Some (renamed_row h q)) here.1
      go true e (inr there) = row_later (renamed_row h r) (map (renamed_row h) (filter (λ q. test q.name) rows)) y
          there.0 ∙ there.1
      go false e (inl here) = absurd (let f : test r.name ≡ test y = ap test here.0 in cc)
      go false e (inr there) = there.1

  -- a row that a chosen one comes from
  pub record Source (rows : List Row) (y : ℕ) (q : Row) : Type 0 where
    pub row : Row
    pub row_is : row_at rows y ≡ Some row
    pub passes : test y ≡ true
    pub renamed : q ≡ renamed_row h row

  source_later : (r : Row) (rows : List Row) (y : ℕ) (q : Row) → (test r.name ≡ false) ⊎ ((r.name == y) ≡ false)
      → Source rows y q → Source (r ∷ rows) y q
  source_later r rows y q apart s = record {
    row = s.row;
    row_is = row_later r rows y (other apart) ∙ s.row_is;
    passes = s.passes;
    renamed = s.renamed;
  }
    where
      differ : (b : Bool) → (r.name == y) ≡ b → test r.name ≡ false → (r.name == y) ≡ false
      differ true e t = absurd (let f : test r.name ≡ test y = ap test (eqb-true r.name y e) in
          let known : test y ≡ true = s.passes in cc)
      differ false e t = e

      other : (test r.name ≡ false) ⊎ ((r.name == y) ≡ false) → (r.name == y) ≡ false
      other (inl t) = differ (r.name == y) refl t
      other (inr e) = e

  row_chosen : (rows : List Row) (y : ℕ) (q : Row) → row_at (chosen rows) y ≡ Some q → Source rows y q
  unfolding chosen
  row_chosen [] y q n = absurd (cc)
  row_chosen (r ∷ rows) y q n = go (test r.name) refl (row_chosen rows y q) n
    where
      go : (b : Bool) → test r.name ≡ b → (row_at (chosen rows) y ≡ Some q → Source rows y q)
          → row_at (map (renamed_row h) (cond b (r ∷ filter (λ p. test p.name) rows) (filter (λ p. test p.name) rows)))
          y ≡ Some q → Source (r ∷ rows) y q
      go true t later e =
          elim (row_cases (renamed_row h r) (chosen rows) y q e) [
            | inl here ↦ record {
              row = r;
              row_is = row_here r rows y here.0;
              passes = subst (λ w. test w ≡ true) here.0 t;
              renamed = sym here.1;
            }
            | inr there ↦ source_later r rows y q (inr there.0) (later there.1)
          ]
      go false t later e = source_later r rows y q (inl t) (later e)

  -- a name that isn't among those of the rows isn't among those of the chosen ones
  apart_chosen : (n : ℕ) (rows : List Row) → AllByRecursion (λ y. (n == y) ≡ false) (names rows)
      → AllByRecursion (λ y. (n == y) ≡ false) (names (chosen rows))
  unfolding chosen
  apart_chosen n [] a = tt
  apart_chosen n (r ∷ rows) a = go (test r.name) (apart_chosen n rows a.1)
    where
      go : (b : Bool) → AllByRecursion (λ y. (n == y) ≡ false)
          (names (map (renamed_row h) (filter (λ q. test q.name) rows))) → AllByRecursion (λ y. (n == y) ≡ false)
          (names (map (renamed_row h) (cond b (r ∷ filter (λ q. test q.name) rows) (filter (λ q. test q.name) rows))))
      go true rest = (a.0, rest)
      go false rest = rest

  chosen_distinct : (rows : List Row) → IsDistinct (◌==◌) (names rows) → IsDistinct (◌==◌) (names (chosen rows))
  unfolding chosen IsDistinct
  chosen_distinct [] d = tt
  chosen_distinct (r ∷ rows) d = go (test r.name) (apart_chosen r.name rows d.0) (chosen_distinct rows d.1)
    where
      go : (b : Bool) → AllByRecursion (λ y. (r.name == y) ≡ false)
          (names (map (renamed_row h) (filter (λ q. test q.name) rows)))
          → IsDistinct (◌==◌) (names (map (renamed_row h) (filter (λ q. test q.name) rows)))
          → IsDistinct (◌==◌) (names (map (renamed_row h) (cond b (r ∷ filter (λ q. test q.name) rows)
          (filter (λ q. test q.name) rows))))
      go true apart rest = (apart, rest)
      go false apart rest = rest

-- the rows of a quotient
module _ (P : List Row) (E : ℕ → ℕ → Bool) where
  abbrev head : ℕ → ℕ
  head = head_of (names P) E

  pub quotient_row : (y : ℕ) (p : Row) → row_at P y ≡ Some p → head y ≡ y → row_at (quotient P E) y ≡ Some
      (renamed_row head p)
  unfolding chosen
  quotient_row y p n e = chosen_row head (λ x. head x == x) P y p n (eq-eqb (head y) y e)

  pub record IsFrom (y : ℕ) (q : Row) : Type 0 where
    pub row : Row
    pub row_is : row_at P y ≡ Some row
    pub first : head y ≡ y
    pub renamed : q ≡ renamed_row head row

  pub row_of_quotient : (y : ℕ) (q : Row) → row_at (quotient P E) y ≡ Some q → IsFrom y q
  unfolding chosen
  row_of_quotient y q n =
      let s = row_chosen head (λ x. head x == x) P y q n in
      record { row = s.row; row_is = s.row_is; first = eqb-true (head y) y s.passes; renamed = s.renamed }

  pub quotient_distinct : IsDistinct (◌==◌) (names P) → IsDistinct (◌==◌) (names (quotient P E))
  unfolding chosen
  quotient_distinct d = chosen_distinct head (λ x. head x == x) P d
