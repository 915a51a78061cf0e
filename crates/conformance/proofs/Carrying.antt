-- Values that fit are led to values that fit.
use Rattle.std.proofs.Common.{◌≡◌, ℕ, suc, Bool, true, refl, sym, ◌∙◌, ap, subst, ◌⊎◌, inl, inr, eqb-true, eq-eqb, List, Some}
use Rattle.std.specs.Prelude.{◌==◌}
use Rattle.step_values.specs.Leaves.{unset}
use Rattle.step_values.specs.Values.{Value, leaf, reference, typed, sequence, bag, Values, none, more, is_crowd, IsReordering, unchanged, kept, swapped, joined, Agree, AgreeEach}
use Rattle.step_values.specs.References.{renamed, renamed_each, EachReference, EachReferenceOf}
use Rattle.step_values.specs.AgreementTests.{value_count}
use Rattle.step_values.proofs.Agreement.{agree_trans, agree_back, eqb_sym, eqb_trans}
use Rattle.step_values.proofs.References.{each_in_bag, each_weaker, each_weaker_of}
use Rattle.step_values.proofs.Renaming.{reflected}
use Rattle.step_values.proofs.Crowds.{by_names}
use Rattle.express_syntax.specs.Schemas.{Schema}
use Rattle.schema_semantics.specs.Names.{Name}
use Rattle.conformance.specs.Bases.{Base, Domain, base}
use Rattle.conformance.specs.ParameterFits.{in_bounds, is_set, inner}
use Rattle.conformance.specs.Fits.{LeafFits, DiffersFrom, AllDiffer, IsLeftOut, Typing, Fits, FitEach}
use Rattle.conformance.specs.SeparatingMaps.{Occurs, OccursIn, IsOneToOne, KeepsApart, KeepEachApart}

pub same_sym : (v w : Value) → Agree (◌==◌) v w → Agree (◌==◌) w v
same_sym v w = agree_back (◌==◌) (◌==◌) eqb_sym v w

same_trans : (u v w : Value) → Agree (◌==◌) u v → Agree (◌==◌) v w → Agree (◌==◌) u w
same_trans u v w = agree_trans (◌==◌) (◌==◌) (◌==◌) eqb_trans u v w

-- each reference of a value occurs in it
mutual
  occur : (v : Value) → EachReference (λ y. Occurs y v) v
  occur (leaf a) = tt
  occur (reference y) = refl
  occur (typed n v) = occur v
  occur (sequence vs) = occur_in vs
  occur (bag vs) = occur_in vs

  occur_in : (vs : Values) → EachReferenceOf (λ y. OccursIn y vs) vs
  occur_in none = tt
  occur_in (more v vs) = (
    each_weaker (λ y. Occurs y v) (λ y. OccursIn y (more v vs)) (λ y o. inl o) v (occur v),
    each_weaker_of (λ y. OccursIn y vs) (λ y. OccursIn y (more v vs)) (λ y o. inr o) vs (occur_in vs),
  )

-- agreement is reflected where no two references are led to one
told : (h : ℕ → ℕ) (v w : Value) → ((y z : ℕ) → Occurs y v → Occurs z w → h y ≡ h z → y ≡ z)
    → Agree (◌==◌) (renamed h v) (renamed h w) → Agree (◌==◌) v w
told h v w g e =
    reflected h (λ y. Occurs y v) (λ z. Occurs z w) g (◌==◌) (◌==◌) (λ y. Occurs y v)
    (λ y z a c d. eq-eqb y z (g y z a c (eqb-true (h y) (h z) d))) v w (occur v)
    (each_in_bag (λ y. Occurs y v) v (occur v)) (occur w) e

set_alike : (h : ℕ → ℕ) (v w : Value) → Agree (◌==◌) (renamed h v) w → is_set w ≡ true → is_set v ≡ true
set_alike h (leaf unset) (leaf b) e s = subst (λ x. is_set (leaf x) ≡ true) (sym e) s
set_alike h (leaf unset) _ e s = absurd e
set_alike h (leaf a) w e s = refl
set_alike h (reference y) w e s = refl
set_alike h (typed n v) w e s = refl
set_alike h (sequence vs) w e s = refl
set_alike h (bag vs) w e s = refl

differs_carried : (h : ℕ → ℕ) (v w : Value) (vs ws : Values)
    → ((y z : ℕ) → Occurs y v → OccursIn z vs → h y ≡ h z → y ≡ z) → DiffersFrom v vs
    → Agree (◌==◌) (renamed h v) w → AgreeEach (◌==◌) (renamed_each h vs) ws → DiffersFrom w ws
differs_carried h v w none none g d e es = tt
differs_carried h v w (more u us) (more x xs) g d e es = (
  (λ s a. d.0 (set_alike h v w e s) (told h v u (λ y z p q. g y z p (inl q))
      (same_trans (renamed h v) w (renamed h u) e (same_trans w x (renamed h u) a (same_sym (renamed h u) x es.0))))),
  differs_carried h v w us xs (λ y z p q. g y z p (inr q)) d.1 e es.1,
)
differs_carried h v w none (more x xs) g d e es = absurd es
differs_carried h v w (more u us) none g d e es = absurd es

distinct_carried : (h : ℕ → ℕ) (vs ws : Values) → IsOneToOne h vs → AllDiffer vs
    → AgreeEach (◌==◌) (renamed_each h vs) ws → AllDiffer ws
distinct_carried h none none g d es = tt
distinct_carried h (more v vs) (more w ws) g d es = (
  differs_carried h v w vs ws (λ y z p q. g y z (inl p) (inr q)) d.0 es.0 es.1,
  distinct_carried h vs ws (λ y z p q. g y z (inr p) (inr q)) d.1 es.1,
)
distinct_carried h none (more x xs) g d es = absurd es
distinct_carried h (more u us) none g d es = absurd es

-- nothing is beside the value of a bag of one
distinct_in_bag : (h : ℕ → ℕ) (vs ws : Values) → (is_crowd vs ≡ true → IsOneToOne h vs) → AllDiffer vs
    → AgreeEach (◌==◌) (renamed_each h vs) ws → AllDiffer ws
distinct_in_bag h none none g d es = tt
distinct_in_bag h none (more w ws) g d es = absurd es
distinct_in_bag h (more v none) none g d es = absurd es
distinct_in_bag h (more v none) (more w none) g d es = (tt, tt)
distinct_in_bag h (more v none) (more w (more x ws)) g d es = absurd es.1
distinct_in_bag h (more v (more u vs)) ws g d es = distinct_carried h (more v (more u vs)) ws (g refl) d es

sizes_alike : (h : ℕ → ℕ) (vs ws : Values) → AgreeEach (◌==◌) (renamed_each h vs) ws → value_count vs ≡ value_count ws
sizes_alike h none none es = refl
sizes_alike h (more v vs) (more w ws) es = ap suc (sizes_alike h vs ws es.1)
sizes_alike h none (more x xs) es = absurd es
sizes_alike h (more u us) none es = absurd es

size_reordered : {us vs : Values} → IsReordering us vs → value_count us ≡ value_count vs
size_reordered (unchanged vs) = refl
size_reordered (kept v r) = ap suc (size_reordered r)
size_reordered (swapped v w vs) = refl
size_reordered (joined r s) = size_reordered r ∙ size_reordered s

module _ (s : Schema) (d : Domain) (typing : Typing) (optional : Bool) (b : Base) where
  each_reordered : {us vs : Values} → IsReordering us vs → FitEach s d typing optional b us
      → FitEach s d typing optional b vs
  each_reordered (unchanged vs) f = f
  each_reordered (kept v r) f = (f.0, each_reordered r f.1)
  each_reordered (swapped v w vs) f = (f.1.0, (f.0, f.1.1))
  each_reordered (joined r s) f = each_reordered s (each_reordered r f)

differs_reordered : (v : Value) {us vs : Values} → IsReordering us vs → DiffersFrom v us → DiffersFrom v vs
differs_reordered v (unchanged vs) d = d
differs_reordered v (kept w r) d = (d.0, differs_reordered v r d.1)
differs_reordered v (swapped u w vs) d = (d.1.0, (d.0, d.1.1))
differs_reordered v (joined r s) d = differs_reordered v s (differs_reordered v r d)

pub set_same : (v w : Value) → Agree (◌==◌) v w → is_set w ≡ true → is_set v ≡ true
set_same (leaf unset) (leaf b) e s = subst (λ x. is_set (leaf x) ≡ true) (sym e) s
set_same (leaf unset) _ e s = absurd e
set_same (leaf a) w e s = refl
set_same (reference y) w e s = refl
set_same (typed n v) w e s = refl
set_same (sequence vs) w e s = refl
set_same (bag vs) w e s = refl

distinct_reordered : {us vs : Values} → IsReordering us vs → AllDiffer us → AllDiffer vs
distinct_reordered (unchanged vs) d = d
distinct_reordered (kept w r) d = (differs_reordered w r d.0, distinct_reordered r d.1)
distinct_reordered (swapped u w vs) d =
    (((λ s a. d.0.0 (set_same u w (same_sym w u a) s) (same_sym w u a)), d.1.0), (d.0.1, d.1.1))
distinct_reordered (joined r s) d = distinct_reordered s (distinct_reordered r d)

pub unset_led : (w : Value) → Agree (◌==◌) (leaf unset) w → w ≡ leaf unset
unset_led (leaf b) e = ap leaf (sym e)
unset_led _ e = absurd e

module _ (s : Schema) (d : Domain) (before after : Typing) (h : ℕ → ℕ)
    (typed_alike : (y : ℕ) (types : List Name) → before y ≡ Some types → after (h y) ≡ Some types) where
  one_carried : (optional : Bool) (b : Base) (v w : Value) → (Fits s d before b v → Fits s d after b w)
      → IsLeftOut optional v ⊎ Fits s d before b v → Agree (◌==◌) (renamed h v) w
      → IsLeftOut optional w ⊎ Fits s d after b w
  one_carried optional b v w f (inl o) e =
      inl (o.0, unset_led w (subst (λ x. Agree (◌==◌) (renamed h x) w) o.1 e))
  one_carried optional b v w f (inr g) e = inr (f g)

  mutual
    -- a value that fits is led to values that fit
    pub fits_carried : (b : Base) (v w : Value) → Fits s d before b v → KeepsApart s d h b v
        → Agree (◌==◌) (renamed h v) w → Fits s d after b w
    fits_carried b (leaf a) (leaf c) f g e = subst (λ x. LeafFits b x) e f
    fits_carried b (reference y) (reference z) f g e =
        (f.0, subst (λ x. after x ≡ Some f.0) (eqb-true (h y) z e) (typed_alike y f.0 f.1), f.2)
    fits_carried b (typed n v) (typed m w) f g e =
        (f.0, subst (λ x. inner s d b x ≡ Some f.0) e.0 f.1, fits_carried f.0 v w f.2 (g f.0 f.1) e.1)
    fits_carried b (sequence vs) (sequence ws) f g e =
        let apart = g f.of f.is_of in
        record {
          of = f.of;
          is_of = f.is_of;
          order = f.order;
          bounds = subst (λ n. in_bounds f.of n ≡ true) (sizes_alike h vs ws e) f.bounds;
          each = each_carried f.of.optional (base d f.of.element) vs ws f.each apart.1 e;
          unique = λ u. distinct_carried h vs ws (apart.0 u) (f.unique u) e;
        }
    fits_carried b (bag vs) (bag ws) f g e =
        let apart = g f.of f.is_of in
        let m = by_names (renamed_each h vs) ws e in
        record {
          of = f.of;
          is_of = f.is_of;
          order = f.order;
          bounds = subst (λ n. in_bounds f.of n ≡ true) (sizes_alike h vs m.0 m.2 ∙ size_reordered m.1) f.bounds;
          each = each_reordered s d after f.of.optional (base d f.of.element) m.1
              (each_carried f.of.optional (base d f.of.element) vs m.0 f.each apart.1 m.2);
          unique = λ u. distinct_reordered m.1 (distinct_in_bag h vs m.0 (apart.0 u) (f.unique u) m.2);
        }
    fits_carried b v w f g e = absurd e

    each_carried : (optional : Bool) (b : Base) (vs ws : Values) → FitEach s d before optional b vs
        → KeepEachApart s d h b vs → AgreeEach (◌==◌) (renamed_each h vs) ws → FitEach s d after optional b ws
    each_carried optional b none none f g e = tt
    each_carried optional b (more v vs) (more w ws) f g e = (
      one_carried optional b v w (λ i. fits_carried b v w i g.0 e.0) f.0 e.0,
      each_carried optional b vs ws f.1 g.1 e.1,
    )
    each_carried optional b vs ws f g e = absurd e
