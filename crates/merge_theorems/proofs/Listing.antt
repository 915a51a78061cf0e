-- What filters and maps keep.
use Rattle.std.specs.Prelude.{◌≡◌, Bool, true, false, cond, List, [], ◌∷◌}
use Rattle.std.specs.List.{filter}
use Rattle.std.proofs.Common.{refl, inl, inr}
use Rattle.std.proofs.lemmas.Bool.{both_ways}
use Rattle.schema_semantics.specs.Names.{Name, Among}
use Rattle.schema_semantics.proofs.Lists.{among-filter, from-filter}
use Rattle.schema_semantics.proofs.Recursion.{to-any, from-any}
use Rattle.conformance.specs.ParameterFits.{is_listed}

-- tests that say the same of each item keep the same
pub filter_same : {A : Type 0} (p q : A → Bool) (xs : List A) → ((x : A) → Among x xs → p x ≡ q x)
    → filter p xs ≡ filter q xs
filter_same p q [] f = refl
filter_same p q (x ∷ xs) f =
    let here = f x (inl refl) in
    let rest = filter_same p q xs (λ y m. f y (inr m)) in
    λ i. cond (here i) (x ∷ rest i) (rest i)

-- a test says of a name whether it is among those that are kept
same_test : (test : Name → Bool) (ns : List Name) (n : Name) → Among n ns → test n ≡ is_listed n (filter test ns)
same_test test ns n m = by (test n) refl (is_listed n (filter test ns)) refl
  where
    by : (a : Bool) → test n ≡ a → (b : Bool) → is_listed n (filter test ns) ≡ b → a ≡ b
    by true e true f = refl
    by false e false f = refl
    by true e false f =
        absurd (both_ways (is_listed n (filter test ns)) f (to-any n (filter test ns) (among-filter test n ns m e)))
    by false e true f = absurd (both_ways (test n) e (from-filter test n ns (from-any n (filter test ns) f)))

-- so names that are kept by a test are kept by themselves
pub filter_itself : (test : Name → Bool) (ns : List Name)
    → filter test ns ≡ filter (λ n. is_listed n (filter test ns)) ns
filter_itself test ns = filter_same test (λ n. is_listed n (filter test ns)) ns (same_test test ns)
