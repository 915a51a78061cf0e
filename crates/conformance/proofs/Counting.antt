-- References and referrers, counted.
use Rattle.std.specs.Prelude.{◌≡◌, ℕ, zero, suc, ◌+◌, ◌<◌, ◌==◌, Bool, true, false, cond, List, [], ◌∷◌, ◌++◌, flat_map, count_by, ◌⊎◌}
use Rattle.std.specs.List.{IsDistinct, AllByRecursion, repeat}
use Rattle.std.proofs.Common.{refl, sym, ◌∙◌, ap, subst, inl, inr, arith, eqb-true, eq-eqb}
use Rattle.std.proofs.lemmas.Bool.{cases_lt, ne_eqb, eqb-false}
use Rattle.std.proofs.lemmas.List.Sums.{sum_by-append}
use Rattle.std.proofs.lemmas.Map.Keys.{IsDistinct-head, IsDistinct-tail}
use Rattle.step_values.specs.Values.{Value, leaf, reference, typed, sequence, bag, Values, none, more}
use Rattle.schema_semantics.specs.Names.{Among}
use Rattle.conformance.specs.ParameterFits.{is_listed}
use Rattle.conformance.specs.Populations.{Instance}
use Rattle.conformance.specs.SeparatingMaps.{Occurs, OccursIn}
use Rattle.conformance.specs.Referrers.{times, times_in, references, holds, held}
use Rattle.conformance.specs.RuleLaws.{names, ReferencesAreCounted, ReferrersAreCounted}

some_of_sum : (m n : ℕ) → 0 < m + n → (0 < m) ⊎ (0 < n)
some_of_sum m n h = elim (cases_lt 0 m) [ inl p ↦ inl p | inr q ↦ inr (omega (arith, h, q)) ]

mutual
  counted : (y : ℕ) (v : Value) → Occurs y v → 0 < times y v
  counted y (leaf a) h = elim h [ ]
  counted y (reference z) h =
      subst (λ (b : Bool). 0 < cond b 1 0) (sym (eq-eqb y z h)) (omega arith)
  counted y (typed n v) h = counted y v h
  counted y (sequence vs) h = counted_in y vs h
  counted y (bag vs) h = counted_in y vs h

  counted_in : (y : ℕ) (vs : Values) → OccursIn y vs → 0 < times_in y vs
  counted_in y none h = elim h [ ]
  counted_in y (more v vs) (inl h) = omega (arith, counted y v h)
  counted_in y (more v vs) (inr h) = omega (arith, counted_in y vs h)

once_same : (y z : ℕ) (b : Bool) → (y == z) ≡ b → 0 < cond b 1 0 → y ≡ z
once_same y z true e h = eqb-true y z e
once_same y z false e h = absurd (omega (arith, h))

mutual
  occurring : (y : ℕ) (v : Value) → 0 < times y v → Occurs y v
  occurring y (leaf a) h = absurd (omega (arith, h))
  occurring y (reference z) h = once_same y z (y == z) refl h
  occurring y (typed n v) h = occurring y v h
  occurring y (sequence vs) h = occurring_in y vs h
  occurring y (bag vs) h = occurring_in y vs h

  occurring_in : (y : ℕ) (vs : Values) → 0 < times_in y vs → OccursIn y vs
  occurring_in y none h = absurd (omega (arith, h))
  occurring_in y (more v vs) h =
      elim (some_of_sum (times y v) (times_in y vs) h) [
        | inl p ↦ inl (occurring y v p)
        | inr q ↦ inr (occurring_in y vs q)
      ]

pub references_are_counted : ReferencesAreCounted
references_are_counted y v = (counted y v, occurring y v)

abbrev weight : Bool → ℕ
weight b = cond b 1 0

count_repeated : (p : ℕ → Bool) (n w : ℕ) → p w ≡ true → count_by p (repeat n (w ∷ [])) ≡ n
count_repeated p zero w h = refl
count_repeated p (suc n) w h =
    let first : weight (p w) ≡ 1 = ap weight h in
    let rest : count_by p (repeat n (w ∷ [])) ≡ n = count_repeated p n w h in
    let whole : count_by p (repeat (suc n) (w ∷ [])) ≡ count_by p (w ∷ []) + count_by p (repeat n (w ∷ [])) =
    sum_by-append (λ v. weight (p v)) (w ∷ []) (repeat n (w ∷ [])) in
    let one : count_by p (w ∷ []) ≡ 0 + weight (p w) = refl in
    omega (arith, whole, one, first, rest)

count_others : (p : ℕ → Bool) (n w : ℕ) → p w ≡ false → count_by p (repeat n (w ∷ [])) ≡ 0
count_others p zero w h = refl
count_others p (suc n) w h =
    let first : weight (p w) ≡ 0 = ap weight h in
    let rest : count_by p (repeat n (w ∷ [])) ≡ 0 = count_others p n w h in
    let whole : count_by p (repeat (suc n) (w ∷ [])) ≡ count_by p (w ∷ []) + count_by p (repeat n (w ∷ [])) =
    sum_by-append (λ v. weight (p v)) (w ∷ []) (repeat n (w ∷ [])) in
    let one : count_by p (w ∷ []) ≡ 0 + weight (p w) = refl in
    omega (arith, whole, one, first, rest)

-- a name that no other has
pub differs : (u : ℕ) (x : Instance) (zs : List Instance) → AllByRecursion (λ v. (u == v) ≡ false) (names zs)
    → Among x zs → (u == x.name) ≡ false
differs u x [] h m = elim m [ ]
differs u x (z ∷ zs) h (inl e) = subst (λ (i : Instance). (u == i.name) ≡ false) e h.0
differs u x (z ∷ zs) h (inr m) = differs u x zs h.1 m

-- of lists of which that of an instance alone has its name
module _ (f : Instance → List ℕ) (w n : ℕ)
    (others : (z : Instance) → (w == z.name) ≡ false → count_by (λ v. w == v) (f z) ≡ 0) where
  abbrev Count : List ℕ → ℕ
  Count vs = count_by (λ v. w == v) vs

  count_joined : (vs us : List ℕ) → Count (vs ++ us) ≡ Count vs + Count us
  count_joined vs us = sum_by-append (λ v. cond (w == v) 1 0) vs us

  count_none : (zs : List Instance) → AllByRecursion (λ v. (w == v) ≡ false) (names zs) → Count (flat_map f zs) ≡ 0
  count_none [] h = refl
  count_none (z ∷ zs) h =
      let first : Count (f z) ≡ 0 = others z h.0 in
      let rest : Count (flat_map f zs) ≡ 0 = count_none zs h.1 in
      count_joined (f z) (flat_map f zs) ∙ omega (arith, first, rest)

  count_all : (x : Instance) → x.name ≡ w → Count (f x) ≡ n → (zs : List Instance) → IsDistinct (◌==◌) (names zs)
      → Among x zs → Count (flat_map f zs) ≡ n
  count_all x named here [] h m = elim m [ ]
  count_all x named here (z ∷ zs) h (inl e) =
      let first : Count (f z) ≡ n = subst (λ (i : Instance). Count (f i) ≡ n) (sym e) here in
      let same : z.name ≡ w = ap (λ (i : Instance). i.name) e ∙ named in
      let rest : Count (flat_map f zs) ≡ 0 =
      count_none zs (subst (λ u. AllByRecursion (λ v. (u == v) ≡ false) (names zs)) same
      (IsDistinct-head (◌==◌) z.name (names zs) h)) in
      count_joined (f z) (flat_map f zs) ∙ omega (arith, first, rest)
  count_all x named here (z ∷ zs) h (inr m) =
      let apart : (z.name == x.name) ≡ false =
      differs z.name x zs (IsDistinct-head (◌==◌) z.name (names zs) h) m in
      let first : Count (f z) ≡ 0 =
      others z (ne_eqb w z.name (λ e. eqb-false z.name x.name apart (sym e ∙ sym named))) in
      let rest : Count (flat_map f zs) ≡ n =
      count_all x named here zs (IsDistinct-tail (◌==◌) z.name (names zs) h) m in
      count_joined (f z) (flat_map f zs) ∙ omega (arith, first, rest)

pub referrers_are_counted : ReferrersAreCounted
referrers_are_counted is i y distinct declares x m refers =
    ap (λ (b : Bool). count_by (λ z. x.name == z) (cond b (flat_map (held i y) is) [])) declares
    ∙ count_all (held i y) x.name (holds i.gathering (references x i.inverted y)) others x refl here is distinct m
  where
    here : count_by (λ z. x.name == z) (held i y x) ≡ holds i.gathering (references x i.inverted y)
    here =
        ap (λ (b : Bool). count_by (λ z. x.name == z)
        (cond b (repeat (holds i.gathering (references x i.inverted y)) (x.name ∷ [])) [])) refers
        ∙ count_repeated (λ z. x.name == z) (holds i.gathering (references x i.inverted y)) x.name
        (eq-eqb x.name x.name refl)

    others : (z : Instance) → (x.name == z.name) ≡ false → count_by (λ v. x.name == v) (held i y z) ≡ 0
    others z e = by (is_listed i.referrer z.types)
      where
        by : (b : Bool) → count_by (λ v. x.name == v)
            (cond b (repeat (holds i.gathering (references z i.inverted y)) (z.name ∷ [])) []) ≡ 0
        by true = count_others (λ v. x.name == v) (holds i.gathering (references z i.inverted y)) z.name e
        by false = refl
