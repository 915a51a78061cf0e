-- The references to one target stand together in a list that is sorted by target.
use Rattle.std.proofs.Common.{◌≡◌, ◌<◌, ◌≤◌, ◌+◌, ◌-◌, ℕ, zero, suc, Bool, true, false, cond, List, [], ◌∷◌, length, take, drop, map, get_or, refl, sym, ◌∙◌, ap, min, ltb, leb, ltb-true, leb-true, ltb-false, leb-false, arith, eq-eqb, ◌==◌}
use Rattle.std.specs.Prelude.{not, ◌&&◌}
use Rattle.std.specs.List.{filter}
use Rattle.std.specs.Ordering.{nat_cmp, is_lt}
use Rattle.std.specs.List.Sorted.{IsStableByKey, ties}
use Rattle.std.proofs.lemmas.Bool.Decides.{nat_tests}
use Rattle.std.proofs.lemmas.List.{get_or_default}
use Rattle.std.proofs.lemmas.List.Elements.{filter_agree}
use Rattle.graphs.specs.declared.referrers.Reference.{Reference}
use Rattle.graphs.specs.Referrers.{referrers_of, AreByTarget, AreBelow, AreFrom, Begin, End, AreEnds}

-- so many references stand before those of t, and so many are to t
pub record Cut (t lo n : ℕ) (ps : List Reference) : Type 0 where
  pub before : (k : ℕ) (d : Reference) → k < lo → (get_or ps k d).target < t
  pub of : (k : ℕ) (d : Reference) → lo ≤ k → k < lo + n → (get_or ps k d).target ≡ t
  pub after : (k : ℕ) (d : Reference) → lo + n ≤ k → k < length ps → t < (get_or ps k d).target
  pub within : lo + n ≤ length ps

below : (t u : ℕ) → t < u → (t == u) ≡ false
below t u l = grind (arith, nat_tests)

above : (t u : ℕ) → u < t → (t == u) ≡ false
above t u l = grind (arith, nat_tests)

equal : (t u : ℕ) → u ≡ t → (t == u) ≡ true
equal t u e = eq-eqb t u (sym e)

tied_is : (t u : ℕ) → (t == u) ≡ (not (is_lt (nat_cmp t u)) && not (is_lt (nat_cmp u t)))
tied_is t u = grind (arith, nat_tests)

less : (t lo n : ℕ) (p : Reference) (ps : List Reference) → Cut t (suc lo) n (p ∷ ps) → Cut t lo n ps
less t lo n p ps c = record {
  before = λ k d l. c.before (suc k) d (omega (arith, l));
  of = λ k d l h. c.of (suc k) d (omega (arith, l)) (omega (arith, h));
  after = λ k d l h. c.after (suc k) d (omega (arith, l)) (omega (arith, h));
  within = let w = c.within in omega (arith, w);
}

fewer : (t n : ℕ) (p : Reference) (ps : List Reference) → Cut t 0 (suc n) (p ∷ ps) → Cut t 0 n ps
fewer t n p ps c = record {
  before = λ k d l. absurd (omega (arith, l));
  of = λ k d l h. c.of (suc k) d (omega arith) (omega (arith, h));
  after = λ k d l h. c.after (suc k) d (omega (arith, l)) (omega (arith, h));
  within = let w = c.within in omega (arith, w);
}

behind : (t : ℕ) (p : Reference) (ps : List Reference) → Cut t 0 0 (p ∷ ps) → Cut t 0 0 ps
behind t p ps c = record {
  before = λ k d l. absurd (omega (arith, l));
  of = λ k d l h. absurd (omega (arith, h));
  after = λ k d l h. c.after (suc k) d (omega arith) (omega (arith, h));
  within = omega arith;
}

passes : (t : ℕ) (p : Reference) (ps : List Reference) (b : Bool) → (t == p.target) ≡ b → filter (λ p. t == p.target) (p ∷ ps) ≡ cond b (p ∷ filter (λ p. t == p.target) ps) (filter (λ p. t == p.target) ps)
passes t p ps b e = ap (λ b. cond b (p ∷ filter (λ p. t == p.target) ps) (filter (λ p. t == p.target) ps)) e

pub cut : (t lo n : ℕ) (ps : List Reference) → Cut t lo n ps → filter (λ p. t == p.target) ps ≡ take n (drop lo ps)
cut t zero zero [] c = refl
cut t (suc lo) n [] c = absurd (let w = c.within in omega (arith, w))
cut t zero (suc n) [] c = absurd (let w = c.within in omega (arith, w))
cut t (suc lo) n (p ∷ ps) c = passes t p ps false (above t p.target (c.before 0 p (omega arith))) ∙ cut t lo n ps (less t lo n p ps c)
cut t zero (suc n) (p ∷ ps) c = passes t p ps true (equal t p.target (c.of 0 p (omega arith) (omega arith))) ∙ ap (λ l. p ∷ l) (cut t 0 n ps (fewer t n p ps c))
cut t zero zero (p ∷ ps) c = passes t p ps false (below t p.target (c.after 0 p (omega arith) (omega arith))) ∙ cut t 0 0 ps (behind t p ps c)

mapped : (lo n : ℕ) (ps : List Reference) → take n (drop lo (map (λ p. p.referrer) ps)) ≡ map (λ p. p.referrer) (take n (drop lo ps))
mapped zero zero [] = refl
mapped zero (suc n) [] = refl
mapped (suc lo) zero [] = refl
mapped (suc lo) (suc n) [] = refl
mapped zero zero (p ∷ ps) = refl
mapped zero (suc n) (p ∷ ps) = ap (λ l. p.referrer ∷ l) (mapped zero n ps)
mapped (suc lo) n (p ∷ ps) = mapped lo n ps

-- between the first that isn't below t and the first that is above it
abbrev pub no_reference : Reference
no_reference = record { target = 0; referrer = 0 }

module _ (t first end : ℕ) (ps : List Reference) (at : AreEnds t first end ps) where
  pub in_order : end < first → ⊥
  in_order l =
      let w = at.begin.within in
      let a : (get_or ps end no_reference).target < t = ltb-true _ _ (at.begin.point.0 end no_reference (omega arith) l) in
      let b = at.ends.point.1 end no_reference (omega arith) (omega (arith, l, w)) in
      let c = leb-false (get_or ps end no_reference).target t b in omega (arith, a, c)

  cut_by : first ≤ end → Cut t first (end - first) ps
  cut_by o = record {
    before = λ k d l. ltb-true _ _ (at.begin.point.0 k d (omega arith) l);
    of = λ k d l h. let w = at.ends.within in between (get_or ps k d).target (at.begin.point.1 k d l (omega (arith, h, w, o))) (at.ends.point.0 k d (omega arith) (omega (arith, h, o)));
    after = λ k d l h. beyond (get_or ps k d).target (at.ends.point.1 k d (omega (arith, l, o)) h);
    within = let w = at.ends.within in omega (arith, o, w);
  }
    where
      between : (u : ℕ) → ltb u t ≡ false → leb u t ≡ true → u ≡ t
      between u a b = let l = ltb-false u t a in let m = leb-true u t b in omega (arith, l, m)

      beyond : (u : ℕ) → leb u t ≡ false → t < u
      beyond u a = leb-false u t a

  pub found : first ≤ end → take (end - first) (drop first (map (λ p. p.referrer) ps)) ≡ referrers_of t ps
  found o = mapped first (end - first) ps ∙ ap (map (λ p. p.referrer)) (sym (cut t first (end - first) ps (cut_by o)))

-- a number below the lesser of two is below each
pub within_both : (k m n l : ℕ) → l ≡ min m n → k < l → k < m
within_both k m n l e h = grind (arith, nat_tests, e, h)

-- one reference more leads to a target
pub one_more : (t first : ℕ) (ps : List Reference) (end : ℕ) → end < length ps
    → ((k : ℕ) (d : Reference) → first ≤ k → k < end → (get_or ps k d).target ≡ t)
    → (get_or ps end no_reference).target ≡ t
    → (k : ℕ) (d : Reference) → first ≤ k → k < end + 1 → (get_or ps k d).target ≡ t
one_more t first ps end l of e k d o h = by (k == end) refl
  where
    by : (b : Bool) → (k == end) ≡ b → (get_or ps k d).target ≡ t
    by true q =
        let same : k ≡ end = grind (arith, nat_tests, q) in
        ap (λ i. (get_or ps i d).target) same
        ∙ ap (λ (p : Reference). p.target) (get_or_default ps end d no_reference l) ∙ e
    by false q = of k d o (grind (arith, nat_tests, q, h))

-- the first behind those to a target that leads elsewhere
module _ (t first : ℕ) (ps : List Reference) (sorted : AreByTarget ps) (begin : Begin t first ps) where
  up_to : (end : ℕ) (e : Reference) → ((k : ℕ) (d : Reference) → first ≤ k → k < end → (get_or ps k d).target ≡ t)
      → end < length ps → first ≤ end → ((get_or ps end e).target ≡ t → ⊥) → t < (get_or ps end e).target
  up_to end e of l o n =
      let b = ltb-false _ _ (begin.point.1 end e o l) in by (get_or ps end e).target b n
    where
      by : (u : ℕ) → t ≤ u → (u ≡ t → ⊥) → t < u
      by u b n = grind (arith, nat_tests, b, n)

  pub ended : (end : ℕ) (e : Reference) → ((k : ℕ) (d : Reference) → first ≤ k → k < end → (get_or ps k d).target ≡ t)
      → end < length ps → first ≤ end → ((get_or ps end e).target ≡ t → ⊥) → End t end ps
  ended end e of l o n = record {
    point = (
      λ k d z h. before k d h,
      λ k d h w.
          let s : (get_or ps end e).target ≤ (get_or ps k e).target = sorted end k e h w in
          let same : (get_or ps k d).target ≡ (get_or ps k e).target =
          ap (λ (p : Reference). p.target) (get_or_default ps k d e w) in
          leb-above (get_or ps k d).target (omega (arith, s, same, up_to end e of l o n)),
    );
    within = omega (arith, l);
  }
    where
      leb-above : (u : ℕ) → t < u → leb u t ≡ false
      leb-above u h = grind (arith, nat_tests, h)

      leb-below : (u : ℕ) → u ≤ t → leb u t ≡ true
      leb-below u h = grind (arith, nat_tests, h)

      before : (k : ℕ) (d : Reference) → k < end → leb (get_or ps k d).target t ≡ true
      before k d h = by (ltb k first) refl
        where
          by : (b : Bool) → ltb k first ≡ b → leb (get_or ps k d).target t ≡ true
          by true q =
              let a : (get_or ps k d).target < t =
              ltb-true _ _ (begin.point.0 k d (omega arith) (ltb-true k first q)) in
              leb-below (get_or ps k d).target (omega (arith, a))
          by false q =
              let a : (get_or ps k d).target ≡ t = of k d (ltb-false k first q) h in
              leb-below (get_or ps k d).target (omega (arith, a))

-- a stable sort keeps the referrers of each target in order
pub stays : (t : ℕ) (ps qs : List Reference) → IsStableByKey (λ p. p.target) nat_cmp ps qs → referrers_of t qs ≡ referrers_of t ps
stays t ps qs s = ap (map (λ p. p.referrer)) (filter_agree (λ p. t == p.target) (ties (λ x y. is_lt (nat_cmp x.target y.target)) x) alike qs ∙ s x ∙ sym (filter_agree (λ p. t == p.target) (ties (λ x y. is_lt (nat_cmp x.target y.target)) x) alike ps))
  where
    x : Reference
    x = record { target = t; referrer = 0 }

    alike : (y : Reference) → (t == y.target) ≡ ties (λ x y. is_lt (nat_cmp x.target y.target)) x y
    alike y = tied_is t y.target

-- where sorted references may begin, by those on both sides
module _ (t at : ℕ) (ps : List Reference) (sorted : AreByTarget ps) where
  pub none-below : at ≡ 0 → AreBelow t at ps
  none-below e = record {
    below = λ k d l. absurd (omega (arith, l, e));
    within = omega (arith, e);
  }

  pub all-below : (at ≡ 0 → ⊥) → at ≤ length ps → (get_or ps (at - 1) no_reference).target < t → AreBelow t at ps
  all-below some w h = record {
    below = λ k d l.
        let last : at - 1 < length ps = grind (arith, nat_tests, some, w) in
        let o : k ≤ at - 1 = grind (arith, nat_tests, l) in
        let s : (get_or ps k d).target ≤ (get_or ps (at - 1) d).target = sorted k (at - 1) d o last in
        let same : (get_or ps (at - 1) d).target ≡ (get_or ps (at - 1) no_reference).target =
        ap (λ (p : Reference). p.target) (get_or_default ps (at - 1) d no_reference last) in
        is-below (get_or ps k d).target (omega (arith, s, same, h));
    within = w;
  }
    where
      is-below : (u : ℕ) → u < t → ltb u t ≡ true
      is-below u l = grind (arith, nat_tests, l)

  pub all-from : at < length ps → t ≤ (get_or ps at no_reference).target → AreFrom t at ps
  all-from w h k d o l =
      let s : (get_or ps at d).target ≤ (get_or ps k d).target = sorted at k d o l in
      let same : (get_or ps at d).target ≡ (get_or ps at no_reference).target =
      ap (λ (p : Reference). p.target) (get_or_default ps at d no_reference w) in
      is-from (get_or ps k d).target (omega (arith, s, same, h))
    where
      is-from : (u : ℕ) → t ≤ u → ltb u t ≡ false
      is-from u m = grind (arith, nat_tests, m)
