-- The numbers of derived attributes.
use Rattle.std.specs.Prelude.{◌≡◌, ℕ, zero, suc, ◌+◌, List, [], ◌∷◌, ◌++◌, Option, Some, MatchOption, flat_map, length, map, slice_get, take}
use Rattle.std.proofs.Common.{refl, ap, sym, subst, ◌∙◌, arith}
use Rattle.std.proofs.lemmas.List.{length-append, length-map}
use Rattle.express_syntax.specs.Schemas.{Schema, Declaration, entity, Entity, Derived}
use Rattle.express_syntax.specs.ExpressionViews.{capitals}
use Rattle.express_syntax.specs.declared.tree.Derived.{Derived as WrittenDerived}
use Rattle.express_syntax.specs.declared.tree.Entity.{Entity as WrittenEntity}
use Rattle.express_syntax.specs.declared.tree.Declaration.{Declaration as Written}
use Rattle.express_syntax.specs.declared.tree.Declaration.TheVariants as declarations
use Rattle.express_syntax.specs.Views.{derived_of, entity_of, declaration_of}
use Rattle.schema_semantics.specs.Names.{Name, listed, IsEntityAt}
use Rattle.schema_semantics.specs.Attributes.{Derivation, IsNth, IsDerivation}
use Rattle.schema_names.specs.Numbers.{IsAt}
use Rattle.schema_names.proofs.Clauses.{clause-listed}
use Rattle.schema_attributes.specs.Derivations.{derivations_from, derivations_in, all_derivations, HasDerivation}
use Rattle.schema_unchecked.specs.steps.Places.{derivations_before, AreDerivationsFrom}

-- behind a list stands another
behind : {A : Type 0} (xs ys : List A) (i n : ℕ) → n ≡ length xs + i → slice_get (xs ++ ys) n ≡ slice_get ys i
behind [] ys i n e = let same : n ≡ i = omega (arith, e) in ap (slice_get ys) same
behind (x ∷ xs) ys i n e =
    let on : n ≡ suc (length xs + i) = omega (arith, e) in
    ap (slice_get (x ∷ xs ++ ys)) on ∙ behind xs ys i (length xs + i) refl

before : {A : Type 0} (xs ys : List A) (i : ℕ) (x : A) → slice_get xs i ≡ Some x → slice_get (xs ++ ys) i ≡ Some x
before [] ys i x h = absurd (cc)
before (y ∷ xs) ys zero x h = h
before (y ∷ xs) ys (suc i) x h = before xs ys i x h

-- those of a declaration stand behind those of the declarations before it
flat-at : {A B : Type 0} (f : A → List B) (xs : List A) (i : ℕ) (x : A) → slice_get xs i ≡ Some x → (j : ℕ) (b : B)
    → slice_get (f x) j ≡ Some b → (n : ℕ) → n ≡ length (flat_map f (take i xs)) + j
    → slice_get (flat_map f xs) n ≡ Some b
flat-at f [] i x h j b m n e = absurd (cc)
flat-at f (y ∷ xs) zero x h j b m n e =
    let same : y ≡ x = cc in
    let none : n ≡ j = omega (arith, e) in
    ap (slice_get (f y ++ flat_map f xs)) none
    ∙ before (f y) (flat_map f xs) j b (subst (λ z. slice_get (f z) j ≡ Some b) (sym same) m)
flat-at f (y ∷ xs) (suc i) x h j b m n e =
    let long = length-append (f y) (flat_map f (take i xs)) in
    let sum : n ≡ length (f y) + (length (flat_map f (take i xs)) + j) = omega (arith, long, e) in
    behind (f y) (flat_map f xs) (length (flat_map f (take i xs)) + j) n sum
    ∙ flat-at f xs i x h j b m (length (flat_map f (take i xs)) + j) refl

from-nth : (e : Name) (n : ℕ) (ds : List Derived) (i : ℕ) (d : Derived) → slice_get ds i ≡ Some d
    → slice_get (derivations_from e n ds) i ≡ Some (e, n + i)
from-nth e n [] i d h = absurd (cc)
from-nth e n (x ∷ ds) zero d h =
    let same : n ≡ n + 0 = omega arith in ap (λ m. Some (e, m)) same
from-nth e n (x ∷ ds) (suc i) d h =
    let same : n + 1 + i ≡ n + suc i = omega arith in
    from-nth e (n + 1) ds i d h ∙ ap (λ m. Some (e, m)) same

is-nth : {A : Type 0} (xs : List A) (i : ℕ) (x : A) → slice_get xs i ≡ Some x → IsNth xs i x
is-nth [] i x h = absurd (cc)
is-nth (y ∷ xs) zero x h = cc
is-nth (y ∷ xs) (suc i) x h = is-nth xs i x h

pub derivations-of : (s : Schema) (i first : ℕ) (e : Entity) → IsAt s i (entity e) → IsEntityAt s e.name e
    → first ≡ derivations_before s i → AreDerivationsFrom s e.name first (listed e.derived)
derivations-of s i first e at stands is j d h =
    let none : 0 + j ≡ j = omega arith in (
      flat-at derivations_in s.declarations i (entity e) at j (e.name, j)
          (from-nth e.name 0 (listed e.derived) j d h ∙ ap (λ n. Some (e.name, n)) none) (first + j)
          (ap (λ n. n + j) is),
      (e, stands, is-nth (listed e.derived) j d h),
    )

-- one declaration more
flat-more : {A B : Type 0} (f : A → List B) (xs : List A) (i : ℕ) (x : A) → slice_get xs i ≡ Some x
    → length (flat_map f (take (i + 1) xs)) ≡ length (flat_map f (take i xs)) + length (f x)
flat-more f [] i x h = absurd (cc)
flat-more f (y ∷ xs) zero x h =
    let same : y ≡ x = cc in
    let long : length (f y ++ []) ≡ length (f y) + 0 = length-append (f y) [] in
    subst (λ z. length (f y ++ []) ≡ 0 + length (f z)) same (omega (arith, long))
flat-more f (y ∷ xs) (suc i) x h =
    let shape : suc i + 1 ≡ suc (i + 1) = omega arith in
    let some = length-append (f y) (flat_map f (take i xs)) in
    let all = length-append (f y) (flat_map f (take (i + 1) xs)) in
    let on = flat-more f xs i x h in
    subst (λ n. length (flat_map f (take n (y ∷ xs))) ≡ length (f y ++ flat_map f (take i xs)) + length (f x))
    (sym shape) (omega (arith, some, all, on))

pub before-more : (s : Schema) (i first next : ℕ) (d : Declaration) → IsAt s i d → first ≡ derivations_before s i
    → next ≡ first + length (derivations_in d) → next ≡ derivations_before s (i + 1)
before-more s i first next d at is more =
    let on = flat-more derivations_in s.declarations i d at in omega (arith, is, more, on)

from-length : (e : Name) (n : ℕ) (ds : List Derived) → length (derivations_from e n ds) ≡ length ds
from-length e n [] = refl
from-length e n (d ∷ ds) = ap suc (from-length e (n + 1) ds)

-- as many as DERIVE lists
pub entity-count : (d : Written) (e : WrittenEntity) (ds : List WrittenDerived) → d ≡ declarations.Entity e
    → MatchOption e.derived (ds ≡ []) (λ v. ds ≡ v.items)
    → length ds ≡ length (derivations_in (declaration_of d))
entity-count d e ds is are =
    let these = clause-listed derived_of e.derived ds are in
    sym (length-map ds derived_of) ∙ ap length these
    ∙ sym (from-length (capitals e.name) 0 (listed (entity_of e).derived))
    ∙ ap (λ x. length (derivations_in (declaration_of x))) (sym is)
