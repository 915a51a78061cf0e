-- The numbers of derived attributes.
use Rattle.std.specs.Prelude.{◌≡◌, ℕ, ◌+◌, List, [], ◌∷◌, ◌++◌, Some, length, take, slice_get, flat_map, ◌⊎◌}
use Rattle.std.proofs.Common.{refl, inl, inr, ap, sym, subst, ◌∙◌, arith, zero, suc}
use Rattle.std.proofs.lemmas.List.{length-append}
use Rattle.express_syntax.specs.Schemas.{Schema, Declaration, type, entity, skipped, Entity, Derived}
use Rattle.schema_semantics.specs.Names.{Name, listed}
use Rattle.schema_semantics.specs.Faults.{IsResolved}
use Rattle.schema_semantics.specs.Attributes.{Derivation, IsNth, IsDerivation}
use Rattle.schema_semantics.proofs.Supertypes.{entity-name}
use Rattle.schema_names.specs.Numbers.{HasNumber, IsAt}
use Rattle.schema_names.proofs.Numbers.{stands-at, each-number}
use Rattle.schema_names.proofs.Items.{stays}
use Rattle.schema_explicit_attributes.proofs.OwnNumbers.{own-number-of}
use Rattle.schema_attributes.specs.Derivations.{derivations_from, derivations_in, HasDerivation}
use Rattle.schema_derived_attributes.specs.Firsts.{first_of}

-- joined lists
pub behind : {A : Type 0} (xs ys : List A) (j k : ℕ) (x : A) → j ≡ length xs + k → slice_get ys k ≡ Some x
    → slice_get (xs ++ ys) j ≡ Some x
behind [] ys j k x is h = subst (λ i. slice_get ys i ≡ Some x) (let same : k ≡ j = omega (arith, is) in same) h
behind (y ∷ xs) ys zero k x is h = absurd (omega (arith, is))
behind (y ∷ xs) ys (suc j) k x is h = behind xs ys j k x (omega (arith, is)) h

parted : {A : Type 0} (xs ys : List A) (j : ℕ) (x : A) → slice_get (xs ++ ys) j ≡ Some x → (slice_get xs j ≡ Some x)
    ⊎ ((k : ℕ) × (j ≡ length xs + k) × (slice_get ys k ≡ Some x))
parted [] ys j x h = inr (j, omega arith, h)
parted (y ∷ xs) ys zero x h = inl h
parted {A} (y ∷ xs) ys (suc j) x h = by (parted xs ys j x h)
  where
    by : (slice_get xs j ≡ Some x) ⊎ ((k : ℕ) × (j ≡ length xs + k) × (slice_get ys k ≡ Some x))
        → (slice_get xs j ≡ Some x) ⊎ ((k : ℕ) × (suc j ≡ length (y ∷ xs) + k) × (slice_get ys k ≡ Some x))
    by (inl here) = inl here
    by (inr (k, is, there)) = inr (k, omega (arith, is), there)

-- lists that are made of lists
module _ {A B : Type 0} (of : A → List B) where
  pub flat-at : (xs : List A) (i j n : ℕ) (x : A) (b : B) → slice_get xs i ≡ Some x → slice_get (of x) n ≡ Some b
      → j ≡ length (flat_map of (take i xs)) + n → slice_get (flat_map of xs) j ≡ Some b
  flat-at [] i j n x b at here is = absurd (cc)
  flat-at (y ∷ ys) zero j n x b at here is =
      let same : x ≡ y = cc in
      let place : n ≡ j = omega (arith, is) in
      stays (of y) (flat_map of ys) j b (subst (λ k. slice_get (of y) k ≡ Some b) place
      (subst (λ z. slice_get (of z) n ≡ Some b) same here))
  flat-at (y ∷ ys) (suc i) j n x b at here is =
      let long = length-append (of y) (flat_map of (take i ys)) in
      behind (of y) (flat_map of ys) j (length (flat_map of (take i ys)) + n) b (omega (arith, is, long))
      (flat-at ys i (length (flat_map of (take i ys)) + n) n x b at here refl)

  -- x is the i-th, and b the n-th of it, the j-th of all
  pub record StandsIn (xs : List A) (j : ℕ) (b : B) : Type 0 where
    pub place : ℕ
    pub item : A
    pub number : ℕ
    pub at : slice_get xs place ≡ Some item
    pub here : slice_get (of item) number ≡ Some b
    pub counted : j ≡ length (flat_map of (take place xs)) + number

  pub stands-in : (xs : List A) (j : ℕ) (b : B) → slice_get (flat_map of xs) j ≡ Some b → StandsIn xs j b
  stands-in [] j b h = absurd (cc)
  stands-in (y ∷ ys) j b h = by (parted (of y) (flat_map of ys) j b h) (stands-in ys)
    where
      by : (slice_get (of y) j ≡ Some b)
          ⊎ ((k : ℕ) × (j ≡ length (of y) + k) × (slice_get (flat_map of ys) k ≡ Some b))
          → ((k : ℕ) (c : B) → slice_get (flat_map of ys) k ≡ Some c → StandsIn ys k c) → StandsIn (y ∷ ys) j b
      by (inl first) more = record {
        place = 0;
        item = y;
        number = j;
        at = refl;
        here = first;
        counted = omega arith;
      }
      by (inr (k, is, there)) more =
          let r = more k b there in
          let counted = r.counted in
          let long = length-append (of y) (flat_map of (take r.place ys)) in
          record {
            place = suc r.place;
            item = r.item;
            number = r.number;
            at = r.at;
            here = r.here;
            counted = omega (arith, is, counted, long);
          }

-- those of an entity
pub from-at : (e : Name) (m : ℕ) (ds : List Derived) (n k : ℕ) (x : Derived) → IsNth ds n x → k ≡ m + n
    → slice_get (derivations_from e m ds) n ≡ Some (e, k)
from-at e m [] n k x h is = elim h [ ]
from-at e m (y ∷ ds) zero k x h is = ap (λ (i : ℕ). Some (e, i)) (let same : m ≡ k = omega (arith, is) in same)
from-at e m (y ∷ ds) (suc n) k x h is = from-at e (m + 1) ds n k x h (omega (arith, is))

at-from : (e : Name) (m : ℕ) (ds : List Derived) (n : ℕ) (d : Derivation)
    → slice_get (derivations_from e m ds) n ≡ Some d → (d.0 ≡ e) × (d.1 ≡ m + n) × ((x : Derived) × IsNth ds n x)
at-from e m [] n d h = absurd (cc)
at-from e m (y ∷ ds) zero d h =
    let name : d.0 ≡ e = front-name h in
    let number : d.1 ≡ m = front-number h in (name, omega (arith, number), (y, refl))
  where
    pair-is : (p q : Derivation) → Some p ≡ Some q → p ≡ q
    pair-is p q e = cc

    front-name : Some (e, m) ≡ Some d → d.0 ≡ e
    front-name k = ap (λ (p : Derivation). p.0) (sym (pair-is (e, m) d k))

    front-number : Some (e, m) ≡ Some d → d.1 ≡ m
    front-number k = ap (λ (p : Derivation). p.1) (sym (pair-is (e, m) d k))
at-from e m (y ∷ ds) (suc n) d h = let (name, number, nth) = at-from e (m + 1) ds n d h in
    (name, omega (arith, number), nth)

-- what stands at the number n of a declaration
pub record IsOfEntity (c : Declaration) (n : ℕ) (d : Derivation) : Type 0 where
  pub whose : Entity
  pub is : c ≡ entity whose
  pub name : d.0 ≡ whose.name
  pub number : d.1 ≡ n
  pub what : Derived
  pub nth : IsNth (listed whose.derived) n what

of-entity : (c : Declaration) (n : ℕ) (d : Derivation) → slice_get (derivations_in c) n ≡ Some d → IsOfEntity c n d
of-entity (type t) n d h = absurd (cc)
of-entity (skipped p) n d h = absurd (cc)
of-entity (entity e) n d h =
    let (name, number, (x, nth)) = at-from e.name 0 (listed e.derived) n d h in
    record { whose = e; is = refl; name = name; number = omega (arith, number); what = x; nth = nth }

-- of a schema
pub record IsNumbered (s : Schema) (j : ℕ) (d : Derivation) : Type 0 where
  pub place : ℕ
  pub owner : Entity
  pub at : IsAt s place (entity owner)
  pub named : HasNumber s d.0 place
  pub counted : j ≡ first_of s.declarations place + d.1
  pub what : Derived
  pub nth : IsNth (listed owner.derived) d.1 what

module _ (s : Schema) (r : IsResolved s) where
  pub numbered : (j : ℕ) (d : Derivation) → HasDerivation s j d → IsNumbered s j d
  numbered j d h =
      let a = stands-in derivations_in s.declarations j d h in
      let b = of-entity a.item a.number d a.here in
      let at : IsAt s a.place (entity b.whose) = a.at ∙ ap Some b.is in
      let counted = a.counted in
      let number = b.number in
      record {
        place = a.place;
        owner = b.whose;
        at = at;
        named = own-number-of s a.place (entity b.whose) d.0 r.once at (ap Some (sym b.name));
        counted = omega (arith, counted, number);
        what = b.what;
        nth = subst (λ n. IsNth (listed b.whose.derived) n b.what) (sym number) b.nth;
      }

  -- a number stands for what stands there
  pub stands-there : (j : ℕ) (d : Derivation) → HasDerivation s j d → (x : Derived) × IsDerivation s d x
  stands-there j d h =
      let a = numbered j d h in (a.what, (a.owner, stands-at s d.0 a.place a.named ∙ a.at, a.nth))

  pub one-number : (j k : ℕ) (d : Derivation) → HasDerivation s j d → HasDerivation s k d → j ≡ k
  one-number j k d h g =
      let a = numbered j d h in
      let b = numbered k d g in
      let same : a.place ≡ b.place = some-is a.place b.place (sym a.named ∙ b.named) in
      let firsts : first_of s.declarations a.place ≡ first_of s.declarations b.place =
      ap (first_of s.declarations) same in
      let one = a.counted in
      let other = b.counted in
      omega (arith, firsts, one, other)
    where
      some-is : (m n : ℕ) → Some m ≡ Some n → m ≡ n
      some-is m n e = cc

-- the number of what stands there
pub number-at : (s : Schema) (i j n : ℕ) (e : Entity) (x : Derived) → IsAt s i (entity e)
    → IsNth (listed e.derived) n x → j ≡ first_of s.declarations i + n → HasDerivation s j (e.name, n)
number-at s i j n e x at nth is =
    flat-at derivations_in s.declarations i j n (entity e) (e.name, n) at
    (from-at e.name 0 (listed e.derived) n n x nth (omega arith)) is

pub has-number : (s : Schema) (d : Derivation) (x : Derived) → IsDerivation s d x → (j : ℕ) × HasDerivation s j d
has-number s d x (e, here, nth) =
    let (i, k) = each-number 0 s.declarations d.0 (entity e) here in
    let at : IsAt s i (entity e) = sym (stands-at s d.0 i k) ∙ here in
    let name : e.name ≡ d.0 = (entity-name s d.0 e here).1 in (
      first_of s.declarations i + d.1,
      subst (λ n. HasDerivation s (first_of s.declarations i + d.1) (n, d.1)) name
          (number-at s i (first_of s.declarations i + d.1) d.1 e x at nth refl),
    )
