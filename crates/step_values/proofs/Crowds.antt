-- Bags of more than one value, and those of one or none.
use Rattle.std.proofs.Common.{◌≡◌, ◌≢◌, ℕ, zero, suc, Bool, true, false, cond, List, [], refl, sym, ◌∙◌, ap, subst, eqb-true, arith, length}
use Rattle.std.specs.Prelude.{◌==◌, ◌&&◌, ◌||◌, nat_lt}
use Rattle.std.specs.List.{AllZip}
use Rattle.std.proofs.lemmas.Bool.{lt-ltb}
use Rattle.step_values.specs.Labels.{Labelling}
use Rattle.step_values.specs.AgreementTests.{value_count, same_test, counts_test}
use Rattle.step_values.specs.LabelledValues.{placed, within}
use Rattle.step_values.specs.References.{renamed_each}
use Rattle.step_values.specs.Values.{Value, bag, Values, none, more, is_crowd, IsReordering, unchanged, kept, swapped, joined, Agree, AgreeEach}

-- One of two things holds, by a test; so do those that follow.
module _ {X Y : Type 0} where
  pub made : (b : Bool) → X → Y → cond b X Y
  made true x y = x
  made false x y = y

  pub told : {R : Type 0} (b : Bool) → cond b X Y → (X → R) → (Y → R) → R
  told true h f g = f h
  told false h f g = g h

  pub sized : {A B : Type 0} (b : Bool) → cond b X Y → (X → A) → (Y → B) → cond b A B
  sized true h f g = f h
  sized false h f g = g h

  pub both_sized : {A B C D : Type 0} (b : Bool) → cond b X Y → cond b A B → (X → A → C) → (Y → B → D) → cond b C D
  both_sized true h k f g = f h k
  both_sized false h k f g = g h k

  pub passes : (b p q : Bool) → cond b p q ≡ true → (p ≡ true → X) → (q ≡ true → Y) → cond b X Y
  passes true p q h f g = f h
  passes false p q h f g = g h

  pub passed : (b p q : Bool) → cond b X Y → (X → p ≡ true) → (Y → q ≡ true) → cond b p q ≡ true
  passed true p q h f g = f h
  passed false p q h f g = g h

-- one of two things holds by any equal test
pub moved : (X Y : Type 0) (a b : Bool) → a ≡ b → cond a X Y → cond b X Y
moved X Y true true e h = h
moved X Y false false e h = h
moved X Y true false e h = absurd (cc)
moved X Y false true e h = absurd (cc)

-- lists that are empty where the first holds
pub counted : (X : Type 0) {Y : Type 0} (a b : Bool) (ys zs : List ℕ) → a ≡ b → cond a X Y
    → (Y → length ys ≡ length zs) → length (cond a [] ys) ≡ length (cond b [] zs)
counted X true true ys zs e h f = refl
counted X false false ys zs e h f = f h
counted X true false ys zs e h f = absurd (cc)
counted X false true ys zs e h f = absurd (cc)

module _ (R : ℕ → ℕ → Type 0) (X : Type 0) {Y Z : Type 0} where
  pub shaped : (a b : Bool) (ys zs : List ℕ) → a ≡ b → cond a X Y → (Y → Z × AllZip R ys zs)
      → cond a X Z × AllZip R (cond a [] ys) (cond b [] zs)
  shaped true true ys zs e h f = (h, tt)
  shaped false false ys zs e h f = f h
  shaped true false ys zs e h f = absurd (cc)
  shaped false true ys zs e h f = absurd (cc)

  pub unshaped : (a b : Bool) (ys zs : List ℕ) → a ≡ b → cond a X Y → AllZip R (cond a [] ys) (cond b [] zs)
      → (Y → AllZip R ys zs → Z) → cond a X Z
  unshaped true true ys zs e h k f = h
  unshaped false false ys zs e h k f = f h k
  unshaped true false ys zs e h k f = absurd (cc)
  unshaped false true ys zs e h k f = absurd (cc)

-- Sizes

pub size_reordered : {us ws : Values} → IsReordering us ws → value_count us ≡ value_count ws
size_reordered (unchanged vs) = refl
size_reordered (kept v r) = ap suc (size_reordered r)
size_reordered (swapped v w vs) = refl
size_reordered (joined r s) = size_reordered r ∙ size_reordered s

pub size_agree : (test : ℕ → ℕ → Bool) (vs us : Values) → AgreeEach test vs us → value_count vs ≡ value_count us
size_agree test none none h = refl
size_agree test (more v vs) (more u us) h = ap suc (size_agree test vs us h.1)
size_agree test _ _ h = absurd h

pub size_renamed : (h : ℕ → ℕ) (vs : Values) → value_count (renamed_each h vs) ≡ value_count vs
size_renamed h none = refl
size_renamed h (more v vs) = ap suc (size_renamed h vs)

pub crowds_alike : (vs ws : Values) → value_count vs ≡ value_count ws → is_crowd vs ≡ is_crowd ws
crowds_alike none none e = refl
crowds_alike none (more w ws) e = absurd (omega (arith, e))
crowds_alike (more v vs) none e = absurd (omega (arith, e))
crowds_alike (more v none) (more w none) e = refl
crowds_alike (more v none) (more w (more x ws)) e = absurd (omega (arith, e))
crowds_alike (more v (more u vs)) (more w none) e = absurd (omega (arith, e))
crowds_alike (more v (more u vs)) (more w (more x ws)) e = refl

-- the number of values tells
pub crowd_by_size : (vs : Values) → nat_lt 1 (value_count vs) ≡ is_crowd vs
crowd_by_size none = refl
crowd_by_size (more v none) = refl
crowd_by_size (more v (more w vs)) = lt-ltb 1 (suc (suc (value_count vs))) (omega arith)

pub crowd_renamed : (h : ℕ → ℕ) (vs : Values) → is_crowd (renamed_each h vs) ≡ is_crowd vs
crowd_renamed h none = refl
crowd_renamed h (more v none) = refl
crowd_renamed h (more v (more w vs)) = refl

crowd_less : (v : Value) (vs : Values) → is_crowd (more v vs) ≡ false → is_crowd vs ≡ false
crowd_less v none e = refl
crowd_less v (more w vs) e = absurd (cc)

-- bags that agree are both of more than one value, or neither
pub bags_alike : (test : ℕ → ℕ → Bool) (vs ws : Values) → Agree test (bag vs) (bag ws) → is_crowd vs ≡ is_crowd ws
bags_alike test vs ws h = crowds_alike vs ws (told (is_crowd vs) h (λ s. size_agree (◌==◌) vs s.0 s.2
    ∙ size_reordered s.1) (λ s. size_agree test vs ws s))

-- Agreement by name is the same for all bags.

stays : {us ws : Values} → IsReordering us ws → is_crowd us ≡ false → us ≡ ws
stays (unchanged vs) e = refl
stays (kept {vs = us} {ws = ws} v r) e = ap (more v) (stays r (crowd_less v us e))
stays (swapped v w vs) e = absurd (cc)
stays (joined {us = us} {vs = vs} r s) e = stays r e ∙ stays s (crowds_alike vs us (sym (size_reordered r)) ∙ e)

pub by_names : (vs ws : Values) → Agree (◌==◌) (bag vs) (bag ws) → (us : Values) × IsReordering us ws
    × AgreeEach (◌==◌) vs us
by_names vs ws h = told (is_crowd vs) h (λ s. s) (λ s. (ws, unchanged ws, s))

pub from_names : (vs us ws : Values) → IsReordering us ws → AgreeEach (◌==◌) vs us → Agree (◌==◌) (bag vs) (bag ws)
from_names vs us ws r h = go (is_crowd vs) refl
  where
    go : (b : Bool) → is_crowd vs ≡ b → cond b ((xs : Values) × IsReordering xs ws × AgreeEach (◌==◌) vs xs)
        (AgreeEach (◌==◌) vs ws)
    go true e = (us, r, h)
    go false e = subst (AgreeEach (◌==◌) vs) (stays r (crowds_alike us vs (sym (size_agree (◌==◌) vs us h)) ∙ e)) h

-- Tests of bags of two sizes

pub not_equal : (m n : ℕ) → m ≢ n → (m == n) ≡ false
not_equal m n h = go (m == n) refl
  where
    go : (b : Bool) → (m == n) ≡ b → (m == n) ≡ false
    go true e = absurd (h (eqb-true m n e))
    go false e = e

pub two_sizes : (vs ws : Values) → value_count vs ≢ value_count ws → same_test (bag vs) (bag ws) ≡ false
two_sizes vs ws n = ap (λ b. b && counts_test vs vs ws) (not_equal _ _ n)

-- Labels

pub placed_within : (b : Bool) (f : Labelling) → placed b (within f) ≡ within f
placed_within true f = refl
placed_within false f = refl

pub placed_twice : (a b : Bool) (f : Labelling) → placed (a || b) f ≡ placed b (placed a f)
placed_twice true true f = refl
placed_twice true false f = refl
placed_twice false b f = refl
