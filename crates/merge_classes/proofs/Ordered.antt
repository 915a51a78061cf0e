-- There is one list of births, by round and place.
use Rattle.std.proofs.Common.{◌≡◌, ◌<◌, ℕ, zero, suc, List, [], ◌∷◌, Some, refl, sym, ◌∙◌, ap, subst, inl, inr, arith}
use Rattle.std.specs.Prelude.{◌⊎◌, slice_get}

-- an earlier round, or the same one and a lesser place (as IsBefore of value_equality's proofs/Unique)
abbrev pub IsEarlier : ℕ × ℕ → ℕ × ℕ → Type 0
IsEarlier a b = (a.0 < b.0) ⊎ ((a.0 ≡ b.0) × (a.1 < b.1))

pub record AreOrdered (L : List (ℕ × ℕ)) : Type 0 where
  pub rises : (c d : ℕ) (a b : ℕ × ℕ) → c < d → slice_get L c ≡ Some a → slice_get L d ≡ Some b → IsEarlier a b

abbrev pub IsIn : List (ℕ × ℕ) → ℕ × ℕ → Type 0
IsIn L a = (c : ℕ) × (slice_get L c ≡ Some a)

not_itself : (a : ℕ × ℕ) → IsEarlier a a → ⊥
not_itself a h = elim h [ inl l ↦ omega arith | inr s ↦ let l = s.1 in omega arith ]

not_both : (a b : ℕ × ℕ) → IsEarlier a b → IsEarlier b a → ⊥
not_both a b h k = elim h [
  | inl l ↦ elim k [ inl m ↦ omega arith | inr s ↦ let e = s.0 in omega arith ]
  | inr s ↦ let e = s.0 in let l = s.1 in elim k [ inl m ↦ omega arith | inr t ↦ let m = t.1 in omega arith ]
]

rest_ordered : (a : ℕ × ℕ) (L : List (ℕ × ℕ)) → AreOrdered (a ∷ L) → AreOrdered L
rest_ordered a L o = record { rises = λ c d x y l e f. o.rises (suc c) (suc d) x y (omega arith) e f }

first_least : (a b : ℕ × ℕ) (L : List (ℕ × ℕ)) → AreOrdered (a ∷ L) → IsIn (a ∷ L) b → (a ≡ b) ⊎ IsEarlier a b
first_least a b L o h = go h.0 h.1
  where
    go : (c : ℕ) → slice_get (a ∷ L) c ≡ Some b → (a ≡ b) ⊎ IsEarlier a b
    go zero e = inl (cc)
    go (suc c) e = inr (o.rises 0 (suc c) a b (omega arith) refl e)

same_first : (a b : ℕ × ℕ) (K L : List (ℕ × ℕ)) → AreOrdered (a ∷ K) → AreOrdered (b ∷ L) → IsIn (b ∷ L) a
    → IsIn (a ∷ K) b → a ≡ b
same_first a b K L o u h k = elim (first_least a b K o k) [
  | inl e ↦ e
  | inr l ↦ elim (first_least b a L u h) [ inl e ↦ sym e | inr m ↦ absurd (not_both a b l m) ]
]

-- what is in the rest of the one is in the rest of the other
rest_in : (a x : ℕ × ℕ) (K L : List (ℕ × ℕ)) → AreOrdered (a ∷ K) → ((y : ℕ × ℕ) → IsIn (a ∷ K) y → IsIn (a ∷ L) y)
    → IsIn K x → IsIn L x
rest_in a x K L o f h =
    let later : IsEarlier a x = o.rises 0 (suc h.0) a x (omega arith) refl h.1 in
    let there = f x (suc h.0, h.1) in
    go there.0 there.1 later
  where
    go : (c : ℕ) → slice_get (a ∷ L) c ≡ Some x → IsEarlier a x → IsIn L x
    go zero e l = absurd (not_itself a (subst (IsEarlier a) (sym (let same : a ≡ x = cc in same)) l))
    go (suc c) e l = (c, e)

pub ordered_once : (K L : List (ℕ × ℕ)) → AreOrdered K → AreOrdered L → ((x : ℕ × ℕ) → IsIn K x → IsIn L x)
    → ((x : ℕ × ℕ) → IsIn L x → IsIn K x) → K ≡ L
ordered_once [] [] o u f g = refl
ordered_once [] (b ∷ L) o u f g = absurd (let h = (g b (0, refl)).1 in cc)
ordered_once (a ∷ K) [] o u f g = absurd (let h = (f a (0, refl)).1 in cc)
ordered_once (a ∷ K) (b ∷ L) o u f g =
    let same : a ≡ b = same_first a b K L o u (f a (0, refl)) (g b (0, refl)) in
    let u2 : AreOrdered (a ∷ L) = subst (λ c. AreOrdered (c ∷ L)) (sym same) u in
    let f2 : (x : ℕ × ℕ) → IsIn (a ∷ K) x → IsIn (a ∷ L) x = λ x h. subst (λ c. IsIn (c ∷ L) x) (sym same) (f x h) in
    let g2 : (x : ℕ × ℕ) → IsIn (a ∷ L) x → IsIn (a ∷ K) x = λ x h. g x (subst (λ c. IsIn (c ∷ L) x) same h) in
    let rest : K ≡ L = ordered_once K L (rest_ordered a K o) (rest_ordered b L u)
    (λ x h. rest_in a x K L o f2 h) (λ x h. rest_in a x L K u2 g2 h) in
    ap (λ c. c ∷ K) same ∙ ap (λ M. b ∷ M) rest
