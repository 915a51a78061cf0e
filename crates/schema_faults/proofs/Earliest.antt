-- The first of a list, and the number of the first declaration of a name.
use Rattle.std.specs.Prelude.{◌≡◌, ℕ, ◌+◌, ◌<◌, ◌≤◌, Bool, true, false, cond, List, [], ◌∷◌, Option, None, Some, slice_get, filter_map}
use Rattle.std.specs.List.{cons_option}
use Rattle.std.proofs.Common.{refl, inl, inr, ap, sym, subst, ◌∙◌, arith, zero, suc}
use Rattle.std.proofs.lemmas.Slice.Eq.{bytes_eq-Decides}
use Rattle.express_syntax.specs.Schemas.{Declaration}
use Rattle.schema_semantics.specs.Names.{Name, IsFirst, declared_name, is_named}
use Rattle.schema_names.specs.Numbers.{number_from}

pub same-some : {A : Type 0} (x y : A) → Some x ≡ Some y → x ≡ y
same-some x y e = cc

named-so : (n : Name) (o : Option Name) → o ≡ Some n → is_named n o ≡ true
named-so n None e = absurd (cc)
named-so n (Some m) e = (bytes_eq-Decides m n).1 (same-some m n e)

-- the number of a name is at most that of each declaration that has it
pub earliest : (k : ℕ) (ds : List Declaration) (i : ℕ) (d : Declaration) (n : Name) → slice_get ds i ≡ Some d
    → declared_name d ≡ Some n → (j : ℕ) × (number_from k ds n ≡ Some j) × (j ≤ k + i)
earliest k [] i d n at named = absurd (cc)
earliest k (x ∷ ds) zero d n at named =
    let same : x ≡ d = same-some x d at in
    let is = named-so n (declared_name x) (ap declared_name same ∙ named) in
    (k, ap (λ b. cond b (Some k) (number_from (k + 1) ds n)) is, omega arith)
earliest k (x ∷ ds) (suc i) d n at named =
    test (is_named n (declared_name x)) refl (earliest (k + 1) ds i d n at named)
  where
    test : (b : Bool) → is_named n (declared_name x) ≡ b
        → (j : ℕ) × (number_from (k + 1) ds n ≡ Some j) × (j ≤ k + 1 + i)
        → (j : ℕ) × (number_from k (x ∷ ds) n ≡ Some j) × (j ≤ k + suc i)
    test true e more = (k, ap (λ b. cond b (Some k) (number_from (k + 1) ds n)) e, omega arith)
    test false e (j, h, le) =
        (j, ap (λ b. cond b (Some k) (number_from (k + 1) ds n)) e ∙ h, omega (arith, le))

-- the first of the names that declarations have
module _ {A : Type 0} (called : A → Option Name) (P : Name → Type 0) where
  abbrev pub NoneBefore : List A → ℕ → Type 0
  NoneBefore xs i = (j : ℕ) (y : A) (m : Name) → j < i → slice_get xs j ≡ Some y → called y ≡ Some m → P m → ⊥

  in-front : (o : Option Name) (ns : List Name) (n : Name) → ((m : Name) → o ≡ Some m → P m → ⊥) → IsFirst P ns n
      → IsFirst P (cons_option o ns) n
  in-front None ns n none h = h
  in-front (Some m) ns n none h = inr (none m refl, h)

  here : (o : Option Name) (ns : List Name) (n : Name) → o ≡ Some n → P n → IsFirst P (cons_option o ns) n
  here None ns n e p = absurd (cc)
  here (Some m) ns n e p = let same = same-some m n e in inl (subst P (sym same) p, same)

  pub first-of : (xs : List A) (i : ℕ) (x : A) (n : Name) → slice_get xs i ≡ Some x → called x ≡ Some n → P n
      → NoneBefore xs i → IsFirst P (filter_map called xs) n
  first-of [] i x n at named p none = absurd (cc)
  first-of (y ∷ xs) zero x n at named p none =
      here (called y) (filter_map called xs) n (ap called (same-some y x at) ∙ named) p
  first-of (y ∷ xs) (suc i) x n at named p none =
      in-front (called y) (filter_map called xs) n (λ m e. none 0 y m (omega arith) refl e)
      (first-of xs i x n at named p (λ j z m lt. none (suc j) z m (omega (arith, lt))))
