-- Derived attributes that are asked for by name.
use Rattle.std.specs.Prelude.{◌≡◌, ℕ, ◌+◌, ◌<◌, ◌≤◌, Bool, true, false, cond, List, [], ◌∷◌, ◌++◌, Option, None, Some, length, map, take, get_or, slice_get, flat_map}
use Rattle.std.specs.List.{position_from}
use Rattle.std.proofs.Common.{refl, ap, sym, subst, ◌∙◌, arith, zero, suc, nat_lt}
use Rattle.std.proofs.lemmas.Bool.Decides.{nat_tests}
use Rattle.std.proofs.lemmas.List.{length-append, append-nil, length-map}
use Rattle.std.proofs.lemmas.Slice.Eq.{bytes_eq-Decides}
use Rattle.express_syntax.specs.Schemas.{Schema, Declaration, type, entity, skipped, Entity, Derived}
use Rattle.schema_semantics.specs.Names.{Name, listed, IsEntityAt}
use Rattle.schema_semantics.specs.Attributes.{Derivation, IsNth}
use Rattle.schema_semantics.specs.Ranks.{derived_name, IsFirstFor, IsDerivedAt, IsSetAside, IsRankAt}
use Rattle.schema_semantics.proofs.Supertypes.{entity-name}
use Rattle.schema_names.specs.Numbers.{HasNumber, IsAt}
use Rattle.schema_names.proofs.Numbers.{stands-at}
use Rattle.schema_names.proofs.Rows.{flat-joined, take-more}
use Rattle.schema_attributes.specs.Derivations.{derivations_from, derivations_in, all_derivations, HasDerivation}
use Rattle.schema_derived_attributes.specs.Firsts.{first_of}
use Rattle.schema_derived_attributes.specs.steps.Asked.{deriveds_in, derives, first_for}
use Rattle.schema_derived_attributes.specs.AttributeRanks.{AreRanksOf}
use Rattle.schema_derived_attributes.proofs.Numbering.{number-at}
use Rattle.schema_derived_attributes.proofs.Ranked.{below-end, stands-at as stands-below}

-- a list with one more
at-end-is : (xs : List ℕ) (y k : ℕ) → k ≡ length xs → get_or (xs ++ y ∷ []) k 0 ≡ y
at-end-is [] y zero e = refl
at-end-is [] y (suc k) e = absurd (omega (arith, e))
at-end-is (x ∷ xs) y zero e = absurd (omega (arith, e))
at-end-is (x ∷ xs) y (suc k) e = at-end-is xs y k (omega (arith, e))

get_or-append-left : (xs ys : List ℕ) (k d : ℕ) → k < length xs → get_or (xs ++ ys) k d ≡ get_or xs k d
get_or-append-left [] ys k d lt = absurd (omega (arith, lt))
get_or-append-left (x ∷ xs) ys zero d lt = refl
get_or-append-left (x ∷ xs) ys (suc k) d lt = get_or-append-left xs ys k d (omega (arith, lt))

-- what stands in a mapped list
pub seen-there : {A B : Type 0} (f : A → B) (xs : List A) (i : ℕ) (x : A) → i < length xs → x ≡ get_or xs i x
    → slice_get (map f xs) i ≡ Some (f x)
seen-there f [] i x lt at = absurd (omega (arith, lt))
seen-there f (y ∷ xs) zero x lt at = ap (λ z. Some (f z)) (sym at)
seen-there f (y ∷ xs) (suc i) x lt at = seen-there f xs i x (omega (arith, lt)) at

pub none-past : {A : Type 0} (xs : List A) (i : ℕ) → slice_get xs i ≡ None → length xs ≤ i
none-past [] i at = omega arith
none-past (y ∷ xs) zero at = absurd (cc)
none-past (y ∷ xs) (suc i) at = let more = none-past xs i at in omega (arith, more)

-- counts
from-count : (e : Name) (n : ℕ) (ds : List Derived) → length (derivations_from e n ds) ≡ length ds
from-count e n [] = refl
from-count e n (d ∷ ds) = ap suc (from-count e (n + 1) ds)

pub count-of : (d : Declaration) → length (derivations_in d) ≡ length (deriveds_in d)
count-of (type t) = refl
count-of (entity e) = from-count e.name 0 (listed e.derived)
count-of (skipped p) = refl

module _ {A : Type 0} (seen : A → Declaration) where
  pub first-next : (xs : List A) (i : ℕ) (x : A) → i < length xs → x ≡ get_or xs i x
      → first_of (map seen xs) (i + 1) ≡ first_of (map seen xs) i + length (derivations_in (seen x))
  first-next xs i x lt at =
      ap (λ ds. length (flat_map derivations_in ds)) (take-more (map seen xs) i (seen x) below here)
      ∙ ap length (flat-joined derivations_in (take i (map seen xs)) (seen x ∷ []))
      ∙ length-append (flat_map derivations_in (take i (map seen xs))) (flat_map derivations_in (seen x ∷ []))
      ∙ ap (λ ys. first_of (map seen xs) i + length ys) (append-nil (derivations_in (seen x)))
    where
      below : i < length (map seen xs)
      below = let same = length-map xs seen in omega (arith, lt, same)

      mapped-at : (ys : List A) (k : ℕ) (y : A) → k < length ys → y ≡ get_or ys k y
          → seen y ≡ get_or (map seen ys) k (seen y)
      mapped-at [] k y l e = absurd (omega (arith, l))
      mapped-at (z ∷ ys) zero y l e = ap seen e
      mapped-at (z ∷ ys) (suc k) y l e = mapped-at ys k y (omega (arith, l)) e

      here : seen x ≡ get_or (map seen xs) i (seen x)
      here = mapped-at xs i x lt at

  -- one more is counted
  pub counted-next : (xs : List A) (i : ℕ) (x : A) (old new : List ℕ) (count : ℕ) → i < length xs
      → x ≡ get_or xs i x → length old ≡ i → ((k : ℕ) → k < i → get_or old k 0 ≡ first_of (map seen xs) k)
      → count ≡ first_of (map seen xs) i → new ≡ old ++ count ∷ []
      → (k : ℕ) → k < i + 1 → get_or new k 0 ≡ first_of (map seen xs) k
  counted-next xs i x old new count lt at long each is more k below = by (nat_lt k i) refl
    where
      by : (b : Bool) → nat_lt k i ≡ b → get_or new k 0 ≡ first_of (map seen xs) k
      by true e =
          let under : k < i = grind (arith, nat_tests) in
          ap (λ ys. get_or ys k 0) more ∙ get_or-append-left old (count ∷ []) k 0 (omega (arith, under, long))
          ∙ each k under
      by false e =
          let here : k ≡ i = grind (arith, nat_tests) in
          ap (λ ys. get_or ys k 0) more ∙ at-end-is old count k (omega (arith, here, long)) ∙ is
          ∙ ap (first_of (map seen xs)) (sym here)

-- the first of a name
pub position-mapped : {A B : Type 0} (f : A → B) (test : B → Bool) (i : ℕ) (xs : List A)
    → position_from (λ x. test (f x)) i xs ≡ position_from test i (map f xs)
position-mapped f test i [] = refl
position-mapped f test i (x ∷ xs) = ap (cond (test (f x)) (Some i)) (position-mapped f test (i + 1) xs)

first-some : (a : Name) (i : ℕ) (ds : List Derived) (n : ℕ) → position_from (derives a) i ds ≡ Some n → (k : ℕ)
    × (n ≡ i + k) × IsFirstFor a ds k
first-some a i [] n e = absurd (cc)
first-some a i (d ∷ ds) n e = by (derives a d) refl e (first-some a (i + 1) ds n)
  where
    by : (b : Bool) → derives a d ≡ b → cond b (Some i) (position_from (derives a) (i + 1) ds) ≡ Some n
        → (position_from (derives a) (i + 1) ds ≡ Some n → (k : ℕ) × (n ≡ i + 1 + k) × IsFirstFor a ds k)
        → (k : ℕ) × (n ≡ i + k) × IsFirstFor a (d ∷ ds) k
    by true is here more =
        let same : i ≡ n = cc in
        (0, omega (arith, same), (bytes_eq-Decides (derived_name d.attribute) a).0 is)
    by false is here more =
        let (k, at, first) = more here in (
          suc k,
          omega (arith, at),
          (
            (λ same. (let yes = (bytes_eq-Decides (derived_name d.attribute) a).1 same in absurd (cc))),
            first,
          ),
        )

first-none : (a : Name) (i : ℕ) (ds : List Derived) → position_from (derives a) i ds ≡ None → (k : ℕ)
    → IsFirstFor a ds k → ⊥
first-none a i [] e k f = f
first-none a i (d ∷ ds) e k f = by (derives a d) refl e k f (first-none a (i + 1) ds)
  where
    by : (b : Bool) → derives a d ≡ b → cond b (Some i) (position_from (derives a) (i + 1) ds) ≡ None → (k : ℕ)
        → IsFirstFor a (d ∷ ds) k
        → (position_from (derives a) (i + 1) ds ≡ None → (k : ℕ) → IsFirstFor a ds k → ⊥) → ⊥
    by true is none k f more = absurd (cc)
    by false is none zero f more = let yes = (bytes_eq-Decides (derived_name d.attribute) a).1 f in absurd (cc)
    by false is none (suc k) f more = more none k f.1

one-first : (a : Name) (ds : List Derived) (m n : ℕ) → IsFirstFor a ds m → IsFirstFor a ds n → m ≡ n
one-first a [] m n f g = elim f [ ]
one-first a (d ∷ ds) zero zero f g = refl
one-first a (d ∷ ds) zero (suc n) f g = absurd (g.0 f)
one-first a (d ∷ ds) (suc m) zero f g = absurd (f.0 g)
one-first a (d ∷ ds) (suc m) (suc n) f g = ap suc (one-first a ds m n f.1 g.1)

first-stands : (a : Name) (ds : List Derived) (n : ℕ) → IsFirstFor a ds n → (x : Derived) × IsNth ds n x
first-stands a [] n f = elim f [ ]
first-stands a (d ∷ ds) zero f = (d, refl)
first-stands a (d ∷ ds) (suc n) f = first-stands a ds n f.1

module _ (s : Schema) where
  pub first-of-name : (a : Name) (d : Declaration) (n : ℕ) → first_for a (deriveds_in d) ≡ Some n
      → IsFirstFor a (deriveds_in d) n
  first-of-name a d n e =
      let (k, at, f) = first-some a 0 (deriveds_in d) n e in
      subst (IsFirstFor a (deriveds_in d)) (let same : k ≡ n = omega (arith, at) in same) f

  -- the number of the first of a name
  pub asked-number : (i j n : ℕ) (a : Name) (d : Declaration) → IsAt s i d → first_for a (deriveds_in d) ≡ Some n
      → j ≡ first_of s.declarations i + n → (e : Entity) × (d ≡ entity e) × HasDerivation s j (e.name, n)
  asked-number i j n a d at e is = by d at (first-stands a (deriveds_in d) n (first-of-name a d n e))
    where
      by : (d : Declaration) → IsAt s i d → (x : Derived) × IsNth (deriveds_in d) n x → (e : Entity) × (d ≡ entity e)
          × HasDerivation s j (e.name, n)
      by (type t) at (x, nth) = elim nth [ ]
      by (skipped p) at (x, nth) = elim nth [ ]
      by (entity y) at (x, nth) = (y, refl, number-at s i j n y x at nth is)

  module _ (ranks : List (Option ℕ)) (r : AreRanksOf s ranks) where
    pub asked-within : (i j n : ℕ) (a : Name) (d : Declaration) → IsAt s i d
        → first_for a (deriveds_in d) ≡ Some n → j ≡ first_of s.declarations i + n → j < length ranks
    asked-within i j n a d at e is =
        let (y, same, h) = asked-number i j n a d at e is in
        let lt = below-end (all_derivations s) j (y.name, n) h in
        let long = r.same in
        omega (arith, lt, long)

    -- what is declared there is the entity that is meant
    only : (e a : Name) (x : Entity) (n : ℕ) → IsEntityAt s e x → IsFirstFor a (listed x.derived) n
        → (d : Derivation) → IsDerivedAt s (e, a) d → d ≡ (e, n)
    only e a x n at f d (name, (y, there, g)) =
        let same : y ≡ x = entity-is y x (sym there ∙ at) in
        let number : d.1 ≡ n =
        one-first a (listed x.derived) d.1 n (subst (λ z. IsFirstFor a (listed z.derived) d.1) same g) f in
        ap (λ (m : Name). (m, d.1)) name ∙ ap (λ (k : ℕ). (e, k)) number
      where
        entity-is : (y x : Entity) → Some (entity y) ≡ Some (entity x) → y ≡ x
        entity-is y x k = cc

    ranked : (e a : Name) (x : Entity) (j n : ℕ) → IsEntityAt s e x → IsFirstFor a (listed x.derived) n
        → HasDerivation s j (e, n) → (o : Option ℕ) → slice_get ranks j ≡ Some o → IsRankAt s (e, a) o
    ranked e a x j n at f h None is =
        λ d g. subst (IsSetAside s) (sym (only e a x n at f d g)) ((r.aside j (e, n) h).0 is)
    ranked e a x j n at f h (Some q) is = (
      (e, n),
      (refl, (x, at, f)),
      (λ away. apart ((r.aside j (e, n) h).1 away)),
      (r.ranks.0, r.ranks.1, r.ranks.2 j q (e, n) h is),
    )
      where
        apart : slice_get ranks j ≡ Some None → ⊥
        apart k = let same : Some None ≡ Some (Some q) = sym k ∙ is in absurd (cc)

    pub asked-some : (i j n : ℕ) (a : Name) (d : Declaration) (o : Option ℕ) → IsAt s i d
        → first_for a (deriveds_in d) ≡ Some n → j ≡ first_of s.declarations i + n → o ≡ get_or ranks j None
        → (e : Name) → HasNumber s e i → IsRankAt s (e, a) o
    asked-some i j n a d o at first is value e k =
        let (x, same, h) = asked-number i j n a d at first is in
        let here : IsEntityAt s e x = stands-at s e i k ∙ at ∙ ap Some same in
        let name : x.name ≡ e = (entity-name s e x here).1 in
        let f : IsFirstFor a (listed x.derived) n =
        subst (λ y. IsFirstFor a (deriveds_in y) n) same (first-of-name a d n first) in
        ranked e a x j n here f (subst (λ m. HasDerivation s j (m, n)) name h) o
        (stands-below ranks j None (asked-within i j n a d at first is) ∙ ap Some (sym value))

    pub asked-none : (i : ℕ) (a : Name) (d : Declaration) → IsAt s i d → first_for a (deriveds_in d) ≡ None
        → (e : Name) → HasNumber s e i → IsRankAt s (e, a) None
    asked-none i a d at none e k u (name, (x, there, f)) =
        let same : entity x ≡ d = declared (entity x) d (sym there ∙ stands-at s e i k ∙ at) in
        absurd (first-none a 0 (deriveds_in d) none u.1 (subst (λ y. IsFirstFor a (deriveds_in y) u.1) same f))
      where
        declared : (y z : Declaration) → Some y ≡ Some z → y ≡ z
        declared y z l = cc
