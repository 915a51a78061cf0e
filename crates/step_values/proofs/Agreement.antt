-- Agreement of values: it grows with the test on references, and is an equivalence where the test is.
use Rattle.std.proofs.Common.{◌≡◌, ℕ, Bool, true, refl, sym, ◌∙◌, eqb-true, eq-eqb}
use Rattle.std.specs.Prelude.{◌==◌}
use Rattle.step_values.specs.Values.{Value, leaf, reference, typed, sequence, bag, Values, none, more, is_crowd, IsReordering, unchanged, kept, swapped, joined, Agree, AgreeEach}
use Rattle.step_values.specs.References.{EachReference, EachReferenceOf}
use Rattle.step_values.proofs.Crowds.{made, sized, both_sized, moved, bags_alike}

mutual
  pub agree_grows : (l m : ℕ → ℕ → Bool) → ((y z : ℕ) → l y z ≡ true → m y z ≡ true) → (v w : Value) → Agree l v w
      → Agree m v w
  agree_grows l m f (leaf a) (leaf b) h = h
  agree_grows l m f (reference y) (reference z) h = f y z h
  agree_grows l m f (typed n v) (typed k w) h = (h.0, agree_grows l m f v w h.1)
  agree_grows l m f (sequence vs) (sequence ws) h = agree_each_grows l m f vs ws h
  agree_grows l m f (bag vs) (bag ws) h = sized (is_crowd vs) h (λ s. s) (λ s. agree_each_grows l m f vs ws s)
  agree_grows l m f _ _ h = absurd h

  pub agree_each_grows : (l m : ℕ → ℕ → Bool) → ((y z : ℕ) → l y z ≡ true → m y z ≡ true) → (vs ws : Values)
      → AgreeEach l vs ws → AgreeEach m vs ws
  agree_each_grows l m f none none h = tt
  agree_each_grows l m f (more v vs) (more w ws) h = (agree_grows l m f v w h.0, agree_each_grows l m f vs ws h.1)
  agree_each_grows l m f _ _ h = absurd h

-- a test is replaced by another that passes the same of the references at hand
mutual
  pub agree_on : (A : ℕ → Type 0) (l m : ℕ → ℕ → Bool) → ((y z : ℕ) → A y → A z → l y z ≡ true → m y z ≡ true)
      → (v w : Value) → EachReference A v → EachReference A w → Agree l v w → Agree m v w
  agree_on A l m f (leaf a) (leaf b) p q h = h
  agree_on A l m f (reference y) (reference z) p q h = f y z p q h
  agree_on A l m f (typed n v) (typed k w) p q h = (h.0, agree_on A l m f v w p q h.1)
  agree_on A l m f (sequence vs) (sequence ws) p q h = agree_each_on A l m f vs ws p q h
  agree_on A l m f (bag vs) (bag ws) p q h = sized (is_crowd vs) h (λ s. s) (λ s. agree_each_on A l m f vs ws p q s)
  agree_on A l m f _ _ p q h = absurd h

  pub agree_each_on : (A : ℕ → Type 0) (l m : ℕ → ℕ → Bool) → ((y z : ℕ) → A y → A z → l y z ≡ true → m y z ≡ true)
      → (vs ws : Values) → EachReferenceOf A vs → EachReferenceOf A ws → AgreeEach l vs ws → AgreeEach m vs ws
  agree_each_on A l m f none none p q h = tt
  agree_each_on A l m f (more v vs) (more w ws) p q h = (
    agree_on A l m f v w p.0 q.0 h.0,
    agree_each_on A l m f vs ws p.1
        q.1 h.1,
  )
  agree_each_on A l m f _ _ p q h = absurd h

pub eqb_sym : (y z : ℕ) → (y == z) ≡ true → (z == y) ≡ true
eqb_sym y z h = eq-eqb z y (sym (eqb-true y z h))

pub eqb_trans : (x y z : ℕ) → (x == y) ≡ true → (y == z) ≡ true → (x == z) ≡ true
eqb_trans x y z h k = eq-eqb x z (eqb-true x y h ∙ eqb-true y z k)

-- a value agrees with itself where the test passes each of its references with itself
mutual
  pub agree_refl : (l : ℕ → ℕ → Bool) (v : Value) → EachReference (λ y. l y y ≡ true) v → Agree l v v
  agree_refl l (leaf a) h = refl
  agree_refl l (reference y) h = h
  agree_refl l (typed n v) h = (refl, agree_refl l v h)
  agree_refl l (sequence vs) h = agree_each_refl l vs h
  agree_refl l (bag vs) h = made (is_crowd vs) (vs, unchanged vs, same_each_refl vs) (agree_each_refl l vs h)

  pub agree_each_refl : (l : ℕ → ℕ → Bool) (vs : Values) → EachReferenceOf (λ y. l y y ≡ true) vs → AgreeEach l vs vs
  agree_each_refl l none h = tt
  agree_each_refl l (more v vs) h = (agree_refl l v h.0, agree_each_refl l vs h.1)

  pub same_refl : (v : Value) → Agree (◌==◌) v v
  same_refl (leaf a) = refl
  same_refl (reference y) = eq-eqb y y refl
  same_refl (typed n v) = (refl, same_refl v)
  same_refl (sequence vs) = same_each_refl vs
  same_refl (bag vs) = made (is_crowd vs) (vs, unchanged vs, same_each_refl vs) (same_each_refl vs)

  pub same_each_refl : (vs : Values) → AgreeEach (◌==◌) vs vs
  same_each_refl none = tt
  same_each_refl (more v vs) = (same_refl v, same_each_refl vs)

pub reordering_sym : {us vs : Values} → IsReordering us vs → IsReordering vs us
reordering_sym (unchanged vs) = unchanged vs
reordering_sym (kept v r) = kept v (reordering_sym r)
reordering_sym (swapped v w vs) = swapped w v vs
reordering_sym (joined r s) = joined (reordering_sym s) (reordering_sym r)

-- a reordering of the left side is matched by one of the right side
pub reordered_pairs : (l : ℕ → ℕ → Bool) {us ws : Values} → IsReordering us ws → (zs : Values) → AgreeEach l us zs
    → (ts : Values) × IsReordering zs ts × AgreeEach l ws ts
reordered_pairs l (unchanged us) zs h = (zs, unchanged zs, h)
reordered_pairs l (kept v r) none h = absurd h
reordered_pairs l (kept v r) (more z zs) h =
    let rest = reordered_pairs l r zs h.1 in (more z rest.0, kept z rest.1, (h.0, rest.2))
reordered_pairs l (swapped v w vs) none h = absurd h
reordered_pairs l (swapped v w vs) (more a none) h = absurd h.1
reordered_pairs l (swapped v w vs) (more a (more b zs)) h = (more b (more a zs), swapped a b zs, (h.1.0, (h.0, h.1.1)))
reordered_pairs l (joined r s) zs h =
    let first = reordered_pairs l r zs h in
    let second = reordered_pairs l s first.0 first.2 in
    (second.0, joined first.1 second.1, second.2)

mutual
  pub agree_trans : (l m n : ℕ → ℕ → Bool) → ((x y z : ℕ) → l x y ≡ true → m y z ≡ true → n x z ≡ true)
      → (u v w : Value) → Agree l u v → Agree m v w → Agree n u w
  agree_trans l m n f (leaf a) (leaf b) (leaf c) h k = h ∙ k
  agree_trans l m n f (reference x) (reference y) (reference z) h k = f x y z h k
  agree_trans l m n f (typed s u) (typed t v) (typed o w) h k = (h.0 ∙ k.0, agree_trans l m n f u v w h.1 k.1)
  agree_trans l m n f (sequence us) (sequence vs) (sequence ws) h k = agree_each_trans l m n f us vs ws h k
  agree_trans l m n f (bag us) (bag vs) (bag ws) h k =
      both_sized (is_crowd us) h (moved _ _ (is_crowd vs) (is_crowd us) (sym (bags_alike l us vs h)) k) (λ s t.
      let led = reordered_pairs (◌==◌) (reordering_sym s.1) t.0 t.2 in (
        led.0,
        joined (reordering_sym led.1) t.1,
        agree_each_trans (◌==◌) (◌==◌) (◌==◌) eqb_trans us s.0 led.0 s.2 led.2,
      )) (λ s t. agree_each_trans l m n f us vs ws s t)
  agree_trans l m n f (leaf a) (leaf b) _ h k = absurd k
  agree_trans l m n f (reference a) (reference b) _ h k = absurd k
  agree_trans l m n f (typed s a) (typed t b) _ h k = absurd k
  agree_trans l m n f (sequence a) (sequence b) _ h k = absurd k
  agree_trans l m n f (bag a) (bag b) _ h k = absurd k
  agree_trans l m n f _ _ _ h k = absurd h

  pub agree_each_trans : (l m n : ℕ → ℕ → Bool) → ((x y z : ℕ) → l x y ≡ true → m y z ≡ true → n x z ≡ true)
      → (us vs ws : Values) → AgreeEach l us vs → AgreeEach m vs ws → AgreeEach n us ws
  agree_each_trans l m n f none none none h k = tt
  agree_each_trans l m n f (more u us) (more v vs) (more w ws) h k =
      (agree_trans l m n f u v w h.0 k.0, agree_each_trans l m n f us vs ws h.1 k.1)
  agree_each_trans l m n f (more u us) (more v vs) none h k = absurd k
  agree_each_trans l m n f none none (more w ws) h k = absurd k
  agree_each_trans l m n f _ _ _ h k = absurd h

-- under tests of which one is the converse of the other
mutual
  pub agree_back : (l m : ℕ → ℕ → Bool) → ((y z : ℕ) → l y z ≡ true → m z y ≡ true) → (v w : Value) → Agree l v w
      → Agree m w v
  agree_back l m f (leaf a) (leaf b) h = sym h
  agree_back l m f (reference y) (reference z) h = f y z h
  agree_back l m f (typed n v) (typed k w) h = (sym h.0, agree_back l m f v w h.1)
  agree_back l m f (sequence vs) (sequence ws) h = agree_each_back l m f vs ws h
  agree_back l m f (bag vs) (bag ws) h =
      moved _ _ (is_crowd vs) (is_crowd ws) (bags_alike l vs ws h) (sized (is_crowd vs) h (λ s.
      let back = agree_each_back (◌==◌) (◌==◌) eqb_sym vs s.0 s.2 in
      let led = reordered_pairs (◌==◌) s.1 vs back in
      (led.0, reordering_sym led.1, led.2)) (λ s. agree_each_back l m f vs ws s))
  agree_back l m f _ _ h = absurd h

  pub agree_each_back : (l m : ℕ → ℕ → Bool) → ((y z : ℕ) → l y z ≡ true → m z y ≡ true) → (vs ws : Values)
      → AgreeEach l vs ws → AgreeEach m ws vs
  agree_each_back l m f none none h = tt
  agree_each_back l m f (more v vs) (more w ws) h = (agree_back l m f v w h.0, agree_each_back l m f vs ws h.1)
  agree_each_back l m f _ _ h = absurd h

pub agree_each_sym : (vs ws : Values) → AgreeEach (◌==◌) vs ws → AgreeEach (◌==◌) ws vs
agree_each_sym = agree_each_back (◌==◌) (◌==◌) eqb_sym
