-- The first of a class.
use Rattle.std.proofs.Common.{◌≡◌, ℕ, Bool, true, false, cond, List, [], ◌∷◌, refl, sym, subst, ◌⊎◌, inl, inr}
use Rattle.value_equality.specs.Rows.{Row, names, IsName}
use Rattle.value_equality.specs.Images.{head_of}
use Rattle.value_equality.proofs.Lookup.{row_cases, name_here, name_later}

-- where some instance is in the class of x, the first is an instance of it
pub head_found : (E : ℕ → ℕ → Bool) (rows : List Row) (x y : ℕ) → IsName rows y → E y x ≡ true
    → (E (head_of (names rows) E x) x ≡ true) × IsName rows (head_of (names rows) E x)
head_found E [] x y n h = absurd (let e = n.1 in cc)
head_found E (r ∷ rows) x y n h =
    go (E r.name x) refl (elim (row_cases r rows y n.0 n.1) [
      | inl here ↦ inl (subst (λ w. E w x ≡ true) (sym here.0) h)
      | inr there ↦ inr (head_found E rows x y (n.0, there.1) h)
    ])
  where
    go : (b : Bool) → E r.name x ≡ b → (E r.name x ≡ true) ⊎ ((E (head_of (names rows) E x) x ≡ true)
        × IsName rows (head_of (names rows) E x)) → (E (cond b r.name (head_of (names rows) E x)) x ≡ true)
        × IsName (r ∷ rows) (cond b r.name (head_of (names rows) E x))
    go true e found = (e, name_here r rows)
    go false e (inl here) = absurd (cc)
    go false e (inr there) = (there.0, name_later r rows (head_of (names rows) E x) there.1)

-- names of the same classes have one first
pub heads_same : (E : ℕ → ℕ → Bool) (rows : List Row) (x z : ℕ) → ((y : ℕ) → E y x ≡ E y z) → (y : ℕ) → IsName rows y
    → E y x ≡ true → head_of (names rows) E x ≡ head_of (names rows) E z
heads_same E [] x z f y n h = absurd (let e = n.1 in cc)
heads_same E (r ∷ rows) x z f y n h =
    go (E r.name x) (E r.name z) refl (sym (f r.name)) (elim (row_cases r rows y n.0 n.1) [
      | inl here ↦ inl (subst (λ w. E w x ≡ true) (sym here.0) h)
      | inr there ↦ inr (heads_same E rows x z f y (n.0, there.1) h)
    ])
  where
    go : (b c : Bool) → E r.name x ≡ b → c ≡ E r.name x → (E r.name x ≡ true)
        ⊎ (head_of (names rows) E x ≡ head_of (names rows) E z) → cond b r.name (head_of (names rows) E x) ≡ cond c
        r.name (head_of (names rows) E z)
    go true true e d found = refl
    go true false e d found = absurd (cc)
    go false true e d found = absurd (cc)
    go false false e d (inl here) = absurd (cc)
    go false false e d (inr there) = there

-- a first stays one where classes part
pub head_stays : (E F : ℕ → ℕ → Bool) → ((a b : ℕ) → F a b ≡ true → E a b ≡ true) → (ys : List ℕ) (y : ℕ) → F y y ≡ true
    → head_of ys E y ≡ y → head_of ys F y ≡ y
head_stays E F f [] y s h = refl
head_stays E F f (a ∷ ys) y s h = go (E a y) (F a y) refl refl h (head_stays E F f ys y s)
  where
    go : (b c : Bool) → E a y ≡ b → F a y ≡ c → cond b a (head_of ys E y) ≡ y
        → (head_of ys E y ≡ y → head_of ys F y ≡ y) → cond c a (head_of ys F y) ≡ y
    go true true e k l ih = l
    go true false e k l ih = absurd (let t : F a y ≡ true = subst (λ b. F b y ≡ true) (sym l) s in cc)
    go false true e k l ih = absurd (let t : E a y ≡ true = f a y k in cc)
    go false false e k l ih = ih l

pub same_bool : (a b : Bool) → (a ≡ true → b ≡ true) → (b ≡ true → a ≡ true) → a ≡ b
same_bool true b f g = sym (f refl)
same_bool false true f g = g refl
same_bool false false f g = refl

-- the classes of a symmetric and transitive relation have one first each
module _ (rows : List Row) (E : ℕ → ℕ → Bool) (back : (x z : ℕ) → E x z ≡ true → E z x ≡ true) (through : (x y z : ℕ)
    → E x y ≡ true → E y z ≡ true → E x z ≡ true) where
  pub one_head : (x z : ℕ) → IsName rows x → E x z ≡ true → head_of (names rows) E x ≡ head_of (names rows) E z
  one_head x z n h =
      heads_same E rows x z (λ y. same_bool (E y x) (E y z) (λ k. through y x z k h)
      (λ k. through y z x k (back x z h))) x n (through x z x h (back x z h))

  pub head_head : (x : ℕ) → IsName rows x → E x x ≡ true → head_of (names rows) E (head_of (names rows) E x) ≡ head_of
      (names rows) E x
  head_head x n h = let found = head_found E rows x x n h in one_head (head_of (names rows) E x) x found.1 found.0

  pub one_class : (x z : ℕ) → IsName rows x → IsName rows z → E x x ≡ true → E z z ≡ true
      → head_of (names rows) E x ≡ head_of (names rows) E z → E x z ≡ true
  one_class x z n m h k e =
      let fx = head_found E rows x x n h in
      let fz = head_found E rows z z m k in
      through x (head_of (names rows) E x) z (back (head_of (names rows) E x) x fx.0)
      (subst (λ w. E w z ≡ true) (sym e) fz.0)
