-- What stands above a list of ranks, of which some may be none.
use Rattle.std.specs.Prelude.{◌≡◌, ℕ, suc, ◌<◌, ◌≤◌, ◌+◌, Bool, true, false, cond, List, [], ◌∷◌, map, Option, None, Some, max, get_or, eqb, set, ◌⊎◌}
use Rattle.std.proofs.Common.{refl, inl, inr, ap, sym, subst, ◌∙◌, arith, zero, nat_lt}
use Rattle.std.proofs.lemmas.Bool.Decides.{nat_tests}
use Rattle.graphs.specs.Graphs.{has}
use Rattle.graphs.proofs.Searching.{either, right-holds}
use Rattle.schema_derived_attributes.specs.steps.Tables.{raised, above_all, rank_from}

module _ (f : ℕ → Option ℕ) where
  self : (y : ℕ) (ys : List ℕ) → has (y ∷ ys) y ≡ true
  self y ys = grind (arith, nat_tests)

  later : (y b : ℕ) (ys : List ℕ) → has ys b ≡ true → has (y ∷ ys) b ≡ true
  later y b ys m = right-holds (eqb b y) (has ys b) m

  -- none above
  pub none-above : (bs : List ℕ) → above_all (map f bs) ≡ None → (b : ℕ) × (has bs b ≡ true) × (f b ≡ None)
  none-above [] e = absurd (cc)
  none-above (y ∷ ys) e = by (f y) refl (above_all (map f ys)) refl (ap (λ o. raised o (above_all (map f ys))) refl ∙ e)
      (none-above ys)
    where
      by : (o : Option ℕ) → f y ≡ o → (p : Option ℕ) → above_all (map f ys) ≡ p → raised (f y) (above_all (map f ys))
          ≡ None
          → (above_all (map f ys) ≡ None → (b : ℕ) × (has ys b ≡ true) × (f b ≡ None))
          → (b : ℕ) × (has (y ∷ ys) b ≡ true) × (f b ≡ None)
      by None here p rest is more = (y, self y ys, here)
      by (Some r) here None rest is more = let (b, m, at) = more rest in (b, later y b ys m, at)
      by (Some r) here (Some t) rest is more =
          let made : Some (max (suc r) t) ≡ None =
          sym (ap (λ o. raised o (above_all (map f ys))) here ∙ ap (raised (Some r)) rest) ∙ is in
          absurd (cc)

  raised-none : (o : Option ℕ) → raised o None ≡ None
  raised-none None = refl
  raised-none (Some r) = refl

  pub none-so : (bs : List ℕ) (b : ℕ) → has bs b ≡ true → f b ≡ None → above_all (map f bs) ≡ None
  none-so [] b m e = absurd (cc)
  none-so (y ∷ ys) b m e = by (either (eqb b y) (has ys b) m) (none-so ys b)
    where
      by : (eqb b y ≡ true) ⊎ (has ys b ≡ true) → (has ys b ≡ true → f b ≡ None → above_all (map f ys) ≡ None)
          → raised (f y) (above_all (map f ys)) ≡ None
      by (inl here) more =
          let same : b ≡ y = grind (arith, nat_tests) in
          ap (λ o. raised o (above_all (map f ys))) (subst (λ x. f x ≡ None) same e)
      by (inr there) more = ap (raised (f y)) (more there e) ∙ raised-none (f y)

  -- Where there is a rank, the list has two parts that have one.
  parted : (o p : Option ℕ) (r : ℕ) → raised o p ≡ Some r → (q : ℕ) × (t : ℕ) × (o ≡ Some q) × (p ≡ Some t)
      × (r ≡ max (suc q) t)
  parted None p r e = absurd (cc)
  parted (Some q) None r e = absurd (cc)
  parted (Some q) (Some t) r e = (q, t, refl, refl, (let is : max (suc q) t ≡ r = cc in sym is))

  pub each-below : (bs : List ℕ) (r : ℕ) → above_all (map f bs) ≡ Some r → (b : ℕ) → has bs b ≡ true
      → (q : ℕ) × (f b ≡ Some q) × (q < r)
  each-below [] r e b m = absurd (cc)
  each-below (y ∷ ys) r e b m =
      let (q, t, here, rest, is) = parted (f y) (above_all (map f ys)) r e in
      by q t here is (either (eqb b y) (has ys b) m) (each-below ys t rest b)
    where
      by : (q t : ℕ) → f y ≡ Some q → r ≡ max (suc q) t → (eqb b y ≡ true) ⊎ (has ys b ≡ true)
          → (has ys b ≡ true → (p : ℕ) × (f b ≡ Some p) × (p < t)) → (p : ℕ) × (f b ≡ Some p) × (p < r)
      by q t at is (inl here) more =
          let same : y ≡ b = grind (arith, nat_tests) in
          (q, subst (λ x. f x ≡ Some q) same at, omega (arith, is))
      by q t at is (inr there) more = let (p, found, lt) = more there in (p, found, omega (arith, is, lt))

  pub one-below : (bs : List ℕ) (r : ℕ) → above_all (map f bs) ≡ Some r → (r ≡ 0)
      ⊎ ((b : ℕ) × (has bs b ≡ true) × ((q : ℕ) × (f b ≡ Some q) × (r ≡ suc q)))
  one-below [] r e = inl (let same : 0 ≡ r = cc in sym same)
  one-below (y ∷ ys) r e =
      let (q, t, here, rest, is) = parted (f y) (above_all (map f ys)) r e in
      by q t here is (nat_lt q t) refl (one-below ys t rest)
    where
      by : (q t : ℕ) → f y ≡ Some q → r ≡ max (suc q) t → (c : Bool) → nat_lt q t ≡ c → (t ≡ 0)
          ⊎ ((b : ℕ) × (has ys b ≡ true) × ((p : ℕ) × (f b ≡ Some p) × (t ≡ suc p))) → (r ≡ 0)
          ⊎ ((b : ℕ) × (has (y ∷ ys) b ≡ true) × ((p : ℕ) × (f b ≡ Some p) × (r ≡ suc p)))
      by q t at is true e (inl none) = let lt : q < t = grind (arith, nat_tests) in absurd (omega (arith, lt, none))
      by q t at is true e (inr (b, m, (p, found, one))) =
          let lt : q < t = grind (arith, nat_tests) in
          inr (b, later y b ys m, (p, found, omega (arith, is, lt, one)))
      by q t at is false e more =
          let le : t ≤ q = grind (arith, nat_tests) in inr (y, self y ys, (q, at, omega (arith, is, le)))

  -- a bound
  pub above-bounded : (bs : List ℕ) (n r : ℕ) → ((b q : ℕ) → f b ≡ Some q → q ≤ n) → above_all (map f bs) ≡ Some r
      → r ≤ n + 1
  above-bounded [] n r h e = let same : 0 ≡ r = cc in omega (arith, same)
  above-bounded (y ∷ ys) n r h e =
      let (q, t, here, rest, is) = parted (f y) (above_all (map f ys)) r e in
      let low = h y q here in
      let more = above-bounded ys n t h rest in
      omega (arith, low, more, is)

  pub rank-bounded : (b : Bool) (bs : List ℕ) (o : Option ℕ) (n : ℕ) → ((c q : ℕ) → f c ≡ Some q → q ≤ n)
      → o ≡ cond b None (above_all (map f bs)) → (r : ℕ) → o ≡ Some r → r ≤ n + 1
  rank-bounded true bs o n h is r e = let no-rank : None ≡ Some r = sym is ∙ e in absurd (cc)
  rank-bounded false bs o n h is r e = above-bounded bs n r h (sym is ∙ e)

-- one vertex more has its rank
pub made-so : (faulty : List Bool) (x : ℕ) (ranks lent : List (Option ℕ)) (row bs : List ℕ) (o : Option ℕ)
    → o ≡ cond (get_or faulty x false) None (above_all (map (λ b. get_or lent b None) row)) → lent ≡ ranks → row ≡ bs
    → o ≡ rank_from faulty x (map (λ b. get_or ranks b None) bs)
made-so faulty x ranks lent row bs o is same edge =
    is ∙ ap (λ ls. rank_from faulty x (map (λ b. get_or ls b None) row)) same
    ∙ ap (λ r. rank_from faulty x (map (λ b. get_or ranks b None) r)) edge

pub low-next : (xs : List (Option ℕ)) (a : ℕ) (o : Option ℕ) (n : ℕ)
    → ((b r : ℕ) → get_or xs b None ≡ Some r → r ≤ n) → ((r : ℕ) → o ≡ Some r → r ≤ n + 1) → (b r : ℕ)
    → get_or (set xs a o) b None ≡ Some r → r ≤ n + 1
low-next [] a o n h le b r e = absurd (cc)
low-next (y ∷ ys) zero o n h le zero r e = le r e
low-next (y ∷ ys) zero o n h le (suc b) r e = let low : r ≤ n = h (suc b) r e in omega (arith, low)
low-next (y ∷ ys) (suc a) o n h le zero r e = let low : r ≤ n = h 0 r e in omega (arith, low)
low-next (y ∷ ys) (suc a) o n h le (suc b) r e = low-next ys a o n (λ c. h (suc c)) le b r e
