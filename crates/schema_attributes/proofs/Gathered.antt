-- What is added to what is said of attributes.
use Rattle.std.specs.Prelude.{◌≡◌, ℕ, ◌+◌, ◌<◌, suc, Bool, true, false, eqb, List, [], ◌∷◌, Option, None, Some, map, flat_map, take, length, slice_get, get_or, ◌⊎◌, ◌↔◌}
use Rattle.std.proofs.Common.{refl, inl, inr, ap, sym, subst, ◌∙◌, arith, zero}
use Rattle.std.proofs.lemmas.Bool.Decides.{nat_tests}
use Rattle.std.proofs.lemmas.List.{append-nil, length-append}
use Rattle.std.proofs.lemmas.Option.{slice_get_within}
use Rattle.schema_semantics.specs.Names.{Name}
use Rattle.schema_attributes.specs.declared.attributes.Attributes.{Attributes}
use Rattle.schema_attributes.specs.declared.declaration.AttributeDeclaration.{AttributeDeclaration}
use Rattle.schema_attributes.specs.steps.Gathering.{Holds, AddsAll, AreNth}

abbrev pub Saying : Type 1
Saying = Name → AttributeDeclaration → Type 0

pub adds-nothing : (old : Attributes) (P : Saying) → ((a : Name) (x : AttributeDeclaration) → P a x → ⊥)
    → AddsAll old P old
adds-nothing old P none a x = (inl, back)
  where
    back : Holds old a x ⊎ P a x → Holds old a x
    back (inl h) = h
    back (inr p) = absurd (none a x p)

pub adds-alike : (old new : Attributes) (P Q : Saying) → ((a : Name) (x : AttributeDeclaration) → P a x ↔ Q a x)
    → AddsAll old P new → AddsAll old Q new
adds-alike old new P Q is h a x = (λ k. forth ((h a x).0 k), λ k. (h a x).1 (back k))
  where
    forth : Holds old a x ⊎ P a x → Holds old a x ⊎ Q a x
    forth (inl k) = inl k
    forth (inr p) = inr ((is a x).0 p)

    back : Holds old a x ⊎ Q a x → Holds old a x ⊎ P a x
    back (inl k) = inl k
    back (inr q) = inr ((is a x).1 q)

pub adds-both : (f g h : Attributes) (P Q : Saying) → AddsAll f P g → AddsAll g Q h
    → AddsAll f (λ a x. P a x ⊎ Q a x) h
adds-both f g h P Q j k a x = (λ m. forth ((k a x).0 m), back)
  where
    first : Holds f a x ⊎ P a x → Holds f a x ⊎ (P a x ⊎ Q a x)
    first (inl m) = inl m
    first (inr p) = inr (inl p)

    forth : Holds g a x ⊎ Q a x → Holds f a x ⊎ (P a x ⊎ Q a x)
    forth (inl m) = first ((j a x).0 m)
    forth (inr q) = inr (inr q)

    back : Holds f a x ⊎ (P a x ⊎ Q a x) → Holds h a x
    back (inl m) = (k a x).1 (inl ((j a x).1 (inl m)))
    back (inr (inl p)) = (k a x).1 (inl ((j a x).1 (inr p)))
    back (inr (inr q)) = (k a x).1 (inr q)

-- what is said by the first of a list
module _ {X : Type 0} (P : ℕ → X → Saying) (xs : List X) where
  abbrev pub UpTo : ℕ → Saying
  UpTo m a d = (n : ℕ) × (n < m) × (x : X) × (slice_get xs n ≡ Some x) × P n x a d

  pub none-yet : (old : Attributes) → AddsAll old (UpTo 0) old
  none-yet old = adds-nothing old (UpTo 0) none
    where
      none : (a : Name) (d : AttributeDeclaration) → UpTo 0 a d → ⊥
      none a d (n, lt, x, at, p) = absurd (omega (arith, lt))

  pub one-more : (m : ℕ) (x : X) (old mid new : Attributes) → slice_get xs m ≡ Some x → AddsAll old (UpTo m) mid
      → AddsAll mid (P m x) new → AddsAll old (UpTo (m + 1)) new
  one-more m x old mid new here h k =
      adds-alike old new (λ a d. UpTo m a d ⊎ P m x a d) (UpTo (m + 1)) is
      (adds-both old mid new (UpTo m) (P m x) h k)
    where
      is-it : (y : X) → slice_get xs m ≡ Some y → y ≡ x
      is-it y at = let q = sym at ∙ here in cc

      which : (n : ℕ) → n < m + 1 → (n < m) ⊎ (n ≡ m)
      which n lt = by (eqb n m) refl
        where
          by : (c : Bool) → eqb n m ≡ c → (n < m) ⊎ (n ≡ m)
          by true e = inr (grind (arith, nat_tests))
          by false e = inl (grind (arith, nat_tests))

      forth : (a : Name) (d : AttributeDeclaration) → UpTo m a d ⊎ P m x a d → UpTo (m + 1) a d
      forth a d (inl (n, lt, y, at, p)) = (n, omega (arith, lt), y, at, p)
      forth a d (inr p) = (m, omega arith, x, here, p)

      sort : (a : Name) (d : AttributeDeclaration) (n : ℕ) (y : X) → slice_get xs n ≡ Some y → P n y a d
          → (n < m) ⊎ (n ≡ m) → UpTo m a d ⊎ P m x a d
      sort a d n y at p (inl lt) = inl (n, lt, y, at, p)
      sort a d n y at p (inr e) =
          inr (subst (λ z. P m z a d) (is-it y (subst (λ i. slice_get xs i ≡ Some y) e at)) (subst (λ i. P i y a d) e
          p))

      back : (a : Name) (d : AttributeDeclaration) → UpTo (m + 1) a d → UpTo m a d ⊎ P m x a d
      back a d (n, lt, y, at, p) = sort a d n y at p (which n lt)

      is : (a : Name) (d : AttributeDeclaration) → (UpTo m a d ⊎ P m x a d) ↔ UpTo (m + 1) a d
      is a d = (forth a d, back a d)

  pub at-length : (m : ℕ) (old new : Attributes) → m ≡ length xs → AddsAll old (UpTo m) new
      → AddsAll old (AreNth P xs) new
  at-length m old new e h = adds-alike old new (UpTo m) (AreNth P xs) is h
    where
      is : (a : Name) (d : AttributeDeclaration) → UpTo m a d ↔ AreNth P xs a d
      is a d = (
        (λ (n, lt, x, at, p). (n, x, at, p)),
        (λ (n, x, at, p). let lt = slice_get_within xs n x at in (n, omega (arith, lt, e), x, at, p)),
      )

-- what stands in a list that is seen otherwise
pub seen : {V X : Type 0} (f : V → X) (vs : List V) (n : ℕ) (v : V) → n < length vs → v ≡ get_or vs n v
    → slice_get (map f vs) n ≡ Some (f v)
seen f [] n v lt at = absurd (omega (arith, lt))
seen f (w ∷ vs) zero v lt at = ap (λ z. Some (f z)) (sym at)
seen f (w ∷ vs) (suc n) v lt at = seen f vs n v (omega (arith, lt)) at

-- where a data type has a number
pub with-number : (Q : ℕ → Saying) (o : Option ℕ) (k : ℕ) → o ≡ Some k → (a : Name) (x : AttributeDeclaration)
    → Q k a x ↔ ((j : ℕ) × (o ≡ Some j) × Q j a x)
with-number Q o k e a x = ((λ h. (k, e, h)), back)
  where
    some-is : (j : ℕ) → o ≡ Some j → j ≡ k
    some-is j h = let q = sym h ∙ e in cc

    back : (j : ℕ) × (o ≡ Some j) × Q j a x → Q k a x
    back (j, h, q) = subst (λ i. Q i a x) (some-is j h) q

pub without-number : (Q : ℕ → Saying) (o : Option ℕ) → o ≡ None → (a : Name) (x : AttributeDeclaration)
    → ((j : ℕ) × (o ≡ Some j) × Q j a x) → ⊥
without-number Q o e a x (j, h, q) = let r = sym h ∙ e in absurd (cc)

-- how many come before the next
pub count-more : {A B : Type 0} (f : A → List B) (xs : List A) (n : ℕ) (x : A) → slice_get xs n ≡ Some x
    → length (flat_map f (take (n + 1) xs)) ≡ length (flat_map f (take n xs)) + length (f x)
count-more f [] n x h = absurd (cc)
count-more f (y ∷ xs) zero x h =
    let same : y ≡ x = cc in
    ap length (append-nil (f y)) ∙ ap (λ z. length (f z)) same ∙ none-before (length (f x))
  where
    none-before : (m : ℕ) → m ≡ 0 + m
    none-before m = omega arith
count-more f (y ∷ xs) (suc n) x h =
    ap (λ k. length (flat_map f (take k (y ∷ xs)))) next
    ∙ length-append (f y) (flat_map f (take (n + 1) xs))
    ∙ ap (λ m. length (f y) + m) (count-more f xs n x h)
    ∙ omega-sum (length (f y)) (length (flat_map f (take n xs))) (length (f x))
    ∙ ap (λ m. m + length (f x)) (sym (length-append (f y) (flat_map f (take n xs))))
  where
    next : suc n + 1 ≡ suc (n + 1)
    next = omega arith

    omega-sum : (a b c : ℕ) → a + (b + c) ≡ a + b + c
    omega-sum a b c = omega arith
