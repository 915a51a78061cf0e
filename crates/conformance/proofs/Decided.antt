-- Facts that are decided, by a test that computes.
use Rattle.std.specs.Prelude.{◌≡◌, ℕ, ◌==◌, Bool, IsTrue, true, false, List, [], ◌∷◌, Option, Some, None, ◌⊎◌, ◌↔◌}
use Rattle.std.proofs.Common.{refl, sym, subst, inl, inr, eqb-true}
use Rattle.std.proofs.lemmas.Bool.{eqb-false}
use Rattle.schema_semantics.specs.Names.{OneOf}

abbrev pub Decided : Type 0 → Type 0
Decided P = P ⊎ (P → ⊥)

abbrev pub test : {P : Type 0} → Decided P → Bool
test (inl p) = true
test (inr n) = false

pub test_decides : {P : Type 0} (e : Decided P) → IsTrue (test e) ↔ P
test_decides (inl p) = ((λ h. p), (λ q. refl))
test_decides (inr n) = ((λ h. absurd (cc)), (λ p. absurd (n p)))

pub neither : {P Q : Type 0} → (P → ⊥) → (Q → ⊥) → P ⊎ Q → ⊥
neither f g (inl p) = f p
neither f g (inr q) = g q

abbrev pub either_decided : {P Q : Type 0} → Decided P → Decided Q → Decided (P ⊎ Q)
either_decided (inl p) e = inl (inl p)
either_decided (inr n) (inl q) = inl (inr q)
either_decided (inr n) (inr m) = inr (neither n m)

abbrev pub both_decided : {P Q : Type 0} → Decided P → Decided Q → Decided (P × Q)
both_decided (inl p) (inl q) = inl (p, q)
both_decided (inl p) (inr m) = inr (λ h. m h.1)
both_decided (inr n) e = inr (λ h. n h.0)

abbrev pub not_decided : {P : Type 0} → Decided P → Decided (P → ⊥)
not_decided (inl p) = inr (λ n. n p)
not_decided (inr n) = inl n

abbrev pub one_decided : {A : Type 0} (P : A → Type 0) → ((x : A) → Decided (P x)) → (xs : List A)
    → Decided (OneOf P xs)
one_decided P f [] = inr (λ h. h)
one_decided P f (x ∷ xs) = either_decided (f x) (one_decided P f xs)

pub apart : true ≡ false → ⊥
apart e = cc

pub apart_back : false ≡ true → ⊥
apart_back e = cc

abbrev pub true_decided : (b : Bool) → Decided (b ≡ true)
true_decided true = inl refl
true_decided false = inr apart_back

abbrev pub false_decided : (b : Bool) → Decided (b ≡ false)
false_decided true = inr apart
false_decided false = inl refl

abbrev same_by : (y z : ℕ) (b : Bool) → (y == z) ≡ b → Decided (y ≡ z)
same_by y z true e = inl (eqb-true y z e)
same_by y z false e = inr (eqb-false y z e)

abbrev pub same_decided : (y z : ℕ) → Decided (y ≡ z)
same_decided y z = same_by y z (y == z) refl

some_same : {A : Type 0} (y z : A) → Some y ≡ Some z → y ≡ z
some_same y z e = cc

-- there is such a one, which is the only one of its kind
pub none_is_none : {A : Type 0} (P : A → Type 0) → (x : A) × (None ≡ Some x) × P x → ⊥
none_is_none P h = let e = h.1 in absurd (cc)

pub some_is_one : {A : Type 0} (P : A → Type 0) (x : A) → (P x → ⊥) → (y : A) × (Some x ≡ Some y) × P y → ⊥
some_is_one P x n h = let e : x ≡ h.0 = some_same x h.0 h.1 in n (subst P (sym e) h.2)

abbrev some_by : {A : Type 0} (P : A → Type 0) (x : A) → Decided (P x)
    → Decided ((y : A) × (Some x ≡ Some y) × P y)
some_by P x (inl p) = inl (x, refl, p)
some_by P x (inr n) = inr (some_is_one P x n)

abbrev pub some_decided : {A : Type 0} (P : A → Type 0) → ((x : A) → Decided (P x)) → (o : Option A)
    → Decided ((x : A) × (o ≡ Some x) × P x)
some_decided P f None = inr (none_is_none P)
some_decided P f (Some x) = some_by P x (f x)
