-- References replaced by a map of names: agreement survives it, and is reflected by it.
use Rattle.std.proofs.Common.{◌≡◌, ℕ, Bool, true, refl, sym, ap, subst, eqb-true, eq-eqb}
use Rattle.std.specs.Prelude.{◌==◌}
use Rattle.step_values.specs.Values.{Value, leaf, reference, typed, sequence, bag, Values, none, more, is_crowd, IsReordering, unchanged, kept, swapped, joined, Agree, AgreeEach}
use Rattle.step_values.specs.References.{renamed, renamed_each, EachReference, EachReferenceOf, EachBagReference, EachBagReferenceOf}
use Rattle.step_values.proofs.Crowds.{sized, both_sized, moved, crowd_renamed}
use Rattle.step_values.proofs.References.{each_in_bag_of, each_reordered}

pub renamed_reordering : (h : ℕ → ℕ) {us vs : Values} → IsReordering us vs → IsReordering (renamed_each h us)
    (renamed_each h vs)
renamed_reordering h (unchanged vs) = unchanged (renamed_each h vs)
renamed_reordering h (kept v r) = kept (renamed h v) (renamed_reordering h r)
renamed_reordering h (swapped v w vs) = swapped (renamed h v) (renamed h w) (renamed_each h vs)
renamed_reordering h (joined r s) = joined (renamed_reordering h r) (renamed_reordering h s)

-- renamed by what leaves each name, a value stays
mutual
  pub renamed_itself : (h : ℕ → ℕ) → ((y : ℕ) → h y ≡ y) → (v : Value) → renamed h v ≡ v
  renamed_itself h f (leaf a) = refl
  renamed_itself h f (reference y) = ap reference (f y)
  renamed_itself h f (typed n v) = ap (typed n) (renamed_itself h f v)
  renamed_itself h f (sequence vs) = ap sequence (each_renamed_itself h f vs)
  renamed_itself h f (bag vs) = ap bag (each_renamed_itself h f vs)

  pub each_renamed_itself : (h : ℕ → ℕ) → ((y : ℕ) → h y ≡ y) → (vs : Values) → renamed_each h vs ≡ vs
  each_renamed_itself h f none = refl
  each_renamed_itself h f (more v vs) = let first = renamed_itself h f v in let rest = each_renamed_itself h f vs in cc

-- values that agree are renamed to values that agree by name, where names that the test passes are renamed alike
mutual
  pub agree_renamed : (h : ℕ → ℕ) (l : ℕ → ℕ → Bool) → ((y z : ℕ) → l y z ≡ true → h y ≡ h z) → (v w : Value)
      → Agree l v w → Agree (◌==◌) (renamed h v) (renamed h w)
  agree_renamed h l f (leaf a) (leaf b) e = e
  agree_renamed h l f (reference y) (reference z) e = eq-eqb (h y) (h z) (f y z e)
  agree_renamed h l f (typed n v) (typed k w) e = (e.0, agree_renamed h l f v w e.1)
  agree_renamed h l f (sequence vs) (sequence ws) e = agree_each_renamed h l f vs ws e
  agree_renamed h l f (bag vs) (bag ws) e =
      moved _ _ (is_crowd vs) (is_crowd (renamed_each h vs)) (sym (crowd_renamed h vs)) (sized (is_crowd vs) e (λ s. (
        renamed_each h s.0,
        renamed_reordering h s.1,
        agree_each_renamed h (◌==◌) (λ y z n. ap h (eqb-true y z n)) vs s.0 s.2,
      )) (λ s. agree_each_renamed h l f vs ws s))
  agree_renamed h l f _ _ e = absurd e

  pub agree_each_renamed : (h : ℕ → ℕ) (l : ℕ → ℕ → Bool) → ((y z : ℕ) → l y z ≡ true → h y ≡ h z) → (vs ws : Values)
      → AgreeEach l vs ws → AgreeEach (◌==◌) (renamed_each h vs) (renamed_each h ws)
  agree_each_renamed h l f none none e = tt
  agree_each_renamed h l f (more v vs) (more w ws) e = (agree_renamed h l f v w e.0, agree_each_renamed h l f vs ws e.1)
  agree_each_renamed h l f _ _ e = absurd e

-- values that agree under l are renamed to values that agree under m, where names that l passes are led to names that
-- m passes
mutual
  pub agree_led : (h : ℕ → ℕ) (l m : ℕ → ℕ → Bool) (A : ℕ → Type 0)
      → ((y z : ℕ) → A y → A z → l y z ≡ true → m (h y) (h z) ≡ true) → (v w : Value) → EachReference A v
      → EachReference A w → Agree l v w → Agree m (renamed h v) (renamed h w)
  agree_led h l m A f (leaf a) (leaf b) p q e = e
  agree_led h l m A f (reference y) (reference z) p q e = f y z p q e
  agree_led h l m A f (typed n v) (typed k w) p q e = (e.0, agree_led h l m A f v w p q e.1)
  agree_led h l m A f (sequence vs) (sequence ws) p q e = agree_each_led h l m A f vs ws p q e
  agree_led h l m A f (bag vs) (bag ws) p q e =
      moved _ _ (is_crowd vs) (is_crowd (renamed_each h vs)) (sym (crowd_renamed h vs)) (sized (is_crowd vs) e (λ s. (
        renamed_each h s.0,
        renamed_reordering h s.1,
        agree_each_renamed h (◌==◌) (λ y z n. ap h (eqb-true y z n)) vs s.0 s.2,
      )) (λ s. agree_each_led h l m A f vs ws p q s))
  agree_led h l m A f _ _ p q e = absurd e

  pub agree_each_led : (h : ℕ → ℕ) (l m : ℕ → ℕ → Bool) (A : ℕ → Type 0)
      → ((y z : ℕ) → A y → A z → l y z ≡ true → m (h y) (h z) ≡ true) → (vs ws : Values) → EachReferenceOf A vs
      → EachReferenceOf A ws → AgreeEach l vs ws → AgreeEach m (renamed_each h vs) (renamed_each h ws)
  agree_each_led h l m A f none none p q e = tt
  agree_each_led h l m A f (more v vs) (more w ws) p q e =
      (agree_led h l m A f v w p.0 q.0 e.0, agree_each_led h l m A f vs ws p.1 q.1 e.1)
  agree_each_led h l m A f _ _ p q e = absurd e

-- a reordering of renamed values is made of renamed values
pub reordering_of_renamed : (h : ℕ → ℕ) {us xs : Values} → IsReordering us xs → (ws : Values) → xs ≡ renamed_each h ws
    → (vs : Values) × IsReordering vs ws × (us ≡ renamed_each h vs)
reordering_of_renamed h (unchanged us) ws e = (ws, unchanged ws, e)
reordering_of_renamed h (kept v r) none e = absurd (cc)
reordering_of_renamed h (kept v r) (more w ws) e =
    let rest = reordering_of_renamed h r ws (cc) in (more w rest.0, kept w rest.1, cc)
reordering_of_renamed h (swapped v w xs) none e = absurd (cc)
reordering_of_renamed h (swapped v w xs) (more a none) e = absurd (cc)
reordering_of_renamed h (swapped v w xs) (more a (more b ws)) e = (more b (more a ws), swapped b a ws, cc)
reordering_of_renamed h (joined r s) ws e =
    let second = reordering_of_renamed h s ws e in
    let first = reordering_of_renamed h r second.0 second.2 in
    (first.0, joined first.1 second.1, first.2)

-- Values agree under l where they are renamed to values that agree under m: where m passes the images of two names,
-- l passes the names, and in bags names with one image are one.
mutual
  pub reflected : (h : ℕ → ℕ) (B P : ℕ → Type 0) → ((y z : ℕ) → B y → P z → h y ≡ h z → y ≡ z)
      → (m l : ℕ → ℕ → Bool) (A : ℕ → Type 0) → ((y z : ℕ) → A y → P z → m (h y) (h z) ≡ true → l y z ≡ true)
      → (v w : Value) → EachReference A v → EachBagReference B v → EachReference P w
      → Agree m (renamed h v) (renamed h w) → Agree l v w
  reflected h B P g m l A f (leaf a) (leaf b) p q r e = e
  reflected h B P g m l A f (reference y) (reference z) p q r e = f y z p r e
  reflected h B P g m l A f (typed n v) (typed k w) p q r e = (e.0, reflected h B P g m l A f v w p q r e.1)
  reflected h B P g m l A f (sequence vs) (sequence ws) p q r e = reflected_each h B P g m l A f vs ws p q r e
  reflected h B P g m l A f (bag vs) (bag ws) p q r e =
      both_sized (is_crowd vs) (moved _ _ (is_crowd (renamed_each h vs)) (is_crowd vs) (crowd_renamed h vs) e) q (λ s b.
      let found = reordering_of_renamed h s.1 ws refl in
      let pairs : AgreeEach (◌==◌) (renamed_each h vs) (renamed_each h found.0) =
      subst (λ us. AgreeEach (◌==◌) (renamed_each h vs) us) found.2 s.2 in (
        found.0,
        found.1,
        reflected_each h B P g (◌==◌) (◌==◌) B
            (λ y z a c d. eq-eqb y z (g y z a c (eqb-true (h y) (h z) d))) vs found.0 b (each_in_bag_of B vs b)
            (each_reordered P found.1 r) pairs,
      )) (λ s b. reflected_each h B P g m l A f vs ws p b r s)
  reflected h B P g m l A f _ _ p q r e = absurd e

  pub reflected_each : (h : ℕ → ℕ) (B P : ℕ → Type 0) → ((y z : ℕ) → B y → P z → h y ≡ h z → y ≡ z)
      → (m l : ℕ → ℕ → Bool) (A : ℕ → Type 0) → ((y z : ℕ) → A y → P z → m (h y) (h z) ≡ true → l y z ≡ true)
      → (vs ws : Values) → EachReferenceOf A vs → EachBagReferenceOf B vs → EachReferenceOf P ws
      → AgreeEach m (renamed_each h vs) (renamed_each h ws) → AgreeEach l vs ws
  reflected_each h B P g m l A f none none p q r e = tt
  reflected_each h B P g m l A f (more v vs) (more w ws) p q r e = (
    reflected h B P g m l A f v w p.0 q.0 r.0 e.0,
    reflected_each h B P g m l A f vs ws p.1 q.1 r.1 e.1,
  )
  reflected_each h B P g m l A f _ _ p q r e = absurd e
