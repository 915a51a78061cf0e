-- Trees that fit the data type at a number: they are alike as far as the table goes. From numbers that are alike to
-- trees that are.
use Rattle.std.specs.Prelude.{◌≡◌, ℕ, ◌<◌, Bool, true, false, ◌&&◌, ◌||◌, List, Option, None, Some, length, slice_get, get_or, eqb, bytes_eq}
use Rattle.std.proofs.Common.{refl, inl, inr, ap, sym, subst, ◌∙◌, zero, suc, arith}
use Rattle.std.proofs.lemmas.Bool.Decides.{nat_tests}
use Rattle.std.proofs.lemmas.Slice.Eq.{bytes_eq-Decides}
use Rattle.std.proofs.lemmas.Option.{get_or_from_slice_get}
use Rattle.express_syntax.specs.Schemas.{Schema, Declaration, type, entity, skipped, DataType, integer, number, boolean, logical, real, string, binary, named, array, list, bag, set}
use Rattle.schema_semantics.specs.Names.{Name, declaration_of}
use Rattle.schema_semantics.specs.Faults.{IsMet, IsResolved, a_type}
use Rattle.schema_semantics.specs.Shapes.{TypeShape, of_numbers, of_logicals, of_strings, of_binaries, of_arrays, of_lists, of_collections, IsShapeAt, HasShape, KeepsShapes, AreAlikeTypes}
use Rattle.schema_semantics.proofs.Bools.{both-hold, or-left, or-right}
use Rattle.schema_names.proofs.Edges.{within}
use Rattle.schema_data_types.specs.NumberedTypes.{all_data_types}
use Rattle.schema_data_types.specs.declared.shapes.Shape.{Shape as NumberedShape}
use Rattle.schema_data_types.specs.declared.shapes.Shape.TheVariants.{Numbers}
use Rattle.schema_data_types.specs.steps.Alike.{AreAlikeAt}
use Rattle.schema_data_types.specs.steps.Comparing.{kind, element, kind_at, onward, next, agree}
use Rattle.schema_data_types.proofs.Walks.{first-kind, later-agree, stays, next-below, agree-laws}
use Rattle.schema_data_types.proofs.Relations.{alike-agree}
use Rattle.schema_data_types.specs.ShapeTables.{IsKnown, AreShapes}
use Rattle.schema_data_types.proofs.Parts.{kind_of, part, kind-shown, part-shown, one, own-shape, part-known}

-- p holds of a number below n
any_below : ℕ → (ℕ → Bool) → Bool
any_below zero p = false
any_below (suc n) p = p n || any_below n p

any-made : (n i : ℕ) (p : ℕ → Bool) → i < n → p i ≡ true → any_below n p ≡ true
unfolding any_below
any-made zero i p lt h = absurd (omega arith)
any-made (suc n) i p lt h = by (eqb i n) refl (λ low. any-made n i p low h)
  where
    by : (b : Bool) → eqb i n ≡ b → (i < n → any_below n p ≡ true) → (p n || any_below n p) ≡ true
    by true e more = let same : i ≡ n = grind (arith, nat_tests) in
        or-left (p n) (any_below n p) (subst (λ (j : ℕ). p j ≡ true) same h)
    by false e more = or-right (p n) (any_below n p) (more (grind (arith, nat_tests)))

any-found : (n : ℕ) (p : ℕ → Bool) → any_below n p ≡ true → (i : ℕ) × (i < n) × (p i ≡ true)
unfolding any_below
any-found zero p h = absurd (cc)
any-found (suc n) p h = by (p n) refl h (any-found n p)
  where
    by : (b : Bool) → p n ≡ b → (b || any_below n p) ≡ true
        → (any_below n p ≡ true → (i : ℕ) × (i < n) × (p i ≡ true)) → (i : ℕ) × (i < suc n) × (p i ≡ true)
    by true e k more = (n, omega arith, e)
    by false e k more = let (i, lt, found) = more k in (i, omega arith, found)

-- a name stands there
is_name : Name → Option DataType → Bool
is_name n (Some (named m)) = bytes_eq m n
is_name n o = false

name-found : (n : Name) (o : Option DataType) → is_name n o ≡ true → o ≡ Some (named n)
unfolding is_name
name-found n None h = absurd (cc)
name-found n (Some (named m)) h = ap (λ (x : Name). Some (named x)) ((bytes_eq-Decides m n).0 h)
name-found n (Some k) h = absurd (cc)

name-stands : (n : Name) (o : Option DataType) → o ≡ Some (named n) → is_name n o ≡ true
unfolding is_name
name-stands n o h = subst (λ x. is_name n x ≡ true) (sym h) ((bytes_eq-Decides n n).1 refl)

-- a type or an entity
pub is_known : Option Declaration → Bool
is_known (Some (type t)) = true
is_known (Some (entity e)) = true
is_known o = false

pub known-met : (s : Schema) (n : Name) (o : Option Declaration) → declaration_of s.declarations n ≡ o
    → is_known o ≡ true → IsMet s (a_type n)
unfolding is_known
known-met s n None e h = absurd (cc)
known-met s n (Some (type t)) e h = inl (t, e)
known-met s n (Some (entity x)) e h = inr (x, e)
known-met s n (Some (skipped p)) e h = absurd (cc)

pub met-known : (s : Schema) (n : Name) → IsMet s (a_type n) → is_known (declaration_of s.declarations n) ≡ true
unfolding is_known
met-known s n (inl (t, e)) = ap is_known e
met-known s n (inr (x, e)) = ap is_known e

pub both : (p q : Bool) → p ≡ true → q ≡ true → (p && q) ≡ true
both true q h k = k
both false q h k = absurd (cc)

module _ (s : Schema) (r : IsResolved s) (shapes : List NumberedShape) (t : AreShapes s shapes) where
  abbrev agreed : ℕ → ℕ → Bool
  agreed m n = agree shapes (length shapes) m n

  fits : DataType → ℕ → Bool
  fits integer n = eqb (kind_at shapes n) 0
  fits number n = eqb (kind_at shapes n) 0
  fits boolean n = eqb (kind_at shapes n) 1
  fits logical n = eqb (kind_at shapes n) 1
  fits (real w) n = eqb (kind_at shapes n) 0
  fits (string w) n = eqb (kind_at shapes n) 2
  fits (binary w) n = eqb (kind_at shapes n) 3
  fits (array b o u k) n = eqb (kind_at shapes n) 6 && fits k (next shapes n)
  fits (list b u k) n = eqb (kind_at shapes n) 7 && fits k (next shapes n)
  fits (bag b k) n = eqb (kind_at shapes n) 8 && fits k (next shapes n)
  fits (set b k) n = eqb (kind_at shapes n) 8 && fits k (next shapes n)
  fits (named m) n =
      is_known (declaration_of s.declarations m)
      && any_below (length shapes) (λ b. is_name m (slice_get (all_data_types s) b) && agree shapes (length shapes) b n)

  -- what the table says of a data type at a number
  record TableAt (m : ℕ) (k : DataType) : Type 0 where
    shape : TypeShape
    has : HasShape s k shape
    kinds : kind_at shapes m ≡ kind_of shape
    parts : (e : DataType) → part shape ≡ Some e → slice_get (all_data_types s) (next shapes m) ≡ Some e

  table-at : (m : ℕ) (k : DataType) → slice_get (all_data_types s) m ≡ Some k → IsKnown s k → TableAt m k
  table-at m k at known =
      let (x, there, of) = t.each m k at known in
      let (f, has, shown) = of in
      let is : get_or shapes m Numbers ≡ x = get_or_from_slice_get shapes m x Numbers there in
      record {
        shape = f;
        has = has;
        kinds = ap kind is ∙ kind-shown (all_data_types s) x f shown;
        parts = λ e p.
            (let (c, el, found) = part-shown (all_data_types s) x f e shown p in
            let to : next shapes m ≡ c = ap (λ (y : NumberedShape). onward (element y) m) is
            ∙ ap (λ (o : Option ℕ). onward o m) el in
            ap (slice_get (all_data_types s)) to ∙ found);
      }

  number-below : (m : ℕ) (k : DataType) → slice_get (all_data_types s) m ≡ Some k → m < length shapes
  number-below m k at = let lt = within (all_data_types s) m k at in let same = t.same in omega (arith, lt, same)

  step : (m n : ℕ) → m < length shapes → n < length shapes → agreed m n ≡ true
      → (kind_at shapes m ≡ kind_at shapes n) × (agreed (next shapes m) (next shapes n) ≡ true)
  step m n ml nl h =
      let more = stays shapes t.table m n ml nl h in
      (first-kind shapes (length shapes) m n more, later-agree shapes (length shapes) m n more)

  kind-test : (k c : ℕ) → k ≡ c → eqb k c ≡ true
  kind-test k c h = grind (arith, nat_tests)

  test-kind : (k c : ℕ) → eqb k c ≡ true → k ≡ c
  test-kind k c h = grind (arith, nat_tests)

  leaf-fits : (k : DataType) (f : TypeShape) (m n : ℕ) → ((g : TypeShape) → HasShape s k g → g ≡ f)
      → slice_get (all_data_types s) m ≡ Some k → IsKnown s k → n < length shapes → agreed m n ≡ true
      → eqb (kind_at shapes n) (kind_of f) ≡ true
  leaf-fits k f m n only at known lt h =
      let a = table-at m k at known in
      let (kinds, on) = step m n (number-below m k at) lt h in
      kind-test (kind_at shapes n) (kind_of f) (sym kinds ∙ a.kinds ∙ ap kind_of (only a.shape a.has))

  over-fits : (k e : DataType) (f : TypeShape) (m n : ℕ) → ((g : TypeShape) → HasShape s k g → g ≡ f) → part f ≡ Some e
      → slice_get (all_data_types s) m ≡ Some k → IsKnown s k → n < length shapes → agreed m n ≡ true
      → ((i j : ℕ) → slice_get (all_data_types s) i ≡ Some e → j < length shapes → agreed i j ≡ true → fits e j ≡ true)
      → (eqb (kind_at shapes n) (kind_of f) && fits e (next shapes n)) ≡ true
  over-fits k e f m n only p at known lt h more =
      let a = table-at m k at known in
      let (kinds, on) = step m n (number-below m k at) lt h in
      both (eqb (kind_at shapes n) (kind_of f)) (fits e (next shapes n))
      (leaf-fits k f m n only at known lt h)
      (more (next shapes m) (next shapes n) (a.parts e (ap part (only a.shape a.has) ∙ p))
      (next-below shapes n t.table lt) on)

  all-fit : (k : DataType) (m n : ℕ) → slice_get (all_data_types s) m ≡ Some k → IsKnown s k → n < length shapes
      → agreed m n ≡ true → fits k n ≡ true
  unfolding fits
  all-fit integer m n at known lt h =
      leaf-fits integer of_numbers m n (λ g. own-shape s integer g (λ l c. c)) at known lt h
  all-fit number m n at known lt h =
      leaf-fits number of_numbers m n (λ g. own-shape s number g (λ l c. c)) at known lt h
  all-fit boolean m n at known lt h =
      leaf-fits boolean of_logicals m n (λ g. own-shape s boolean g (λ l c. c)) at known lt h
  all-fit logical m n at known lt h =
      leaf-fits logical of_logicals m n (λ g. own-shape s logical g (λ l c. c)) at known lt h
  all-fit (real w) m n at known lt h =
      leaf-fits (real w) of_numbers m n (λ g. own-shape s (real w) g (λ l c. c)) at known lt h
  all-fit (string w) m n at known lt h =
      leaf-fits (string w) of_strings m n (λ g. own-shape s (string w) g (λ l c. c)) at known lt h
  all-fit (binary w) m n at known lt h =
      leaf-fits (binary w) of_binaries m n (λ g. own-shape s (binary w) g (λ l c. c)) at known lt h
  all-fit (array b o u k) m n at known lt h =
      over-fits (array b o u k) k (of_arrays k) m n (λ g. own-shape s (array b o u k) g (λ l c. c)) refl at known lt h
      (λ i j there low a. all-fit k i j there known low a)
  all-fit (list b u k) m n at known lt h =
      over-fits (list b u k) k (of_lists k) m n (λ g. own-shape s (list b u k) g (λ l c. c)) refl at known lt h
      (λ i j there low a. all-fit k i j there known low a)
  all-fit (bag b k) m n at known lt h =
      over-fits (bag b k) k (of_collections k) m n (λ g. own-shape s (bag b k) g (λ l c. c)) refl at known lt h
      (λ i j there low a. all-fit k i j there known low a)
  all-fit (set b k) m n at known lt h =
      over-fits (set b k) k (of_collections k) m n (λ g. own-shape s (set b k) g (λ l c. c)) refl at known lt h
      (λ i j there low a. all-fit k i j there known low a)
  all-fit (named x) m n at known lt h =
      both (is_known (declaration_of s.declarations x)) (any_below (length shapes) test) (met-known s x known.0)
      (any-made (length shapes) m test (number-below m (named x) at)
      (both (is_name x (slice_get (all_data_types s) m)) (agree shapes (length shapes) m n)
      (name-stands x (slice_get (all_data_types s) m) at) h))
    where
      test : ℕ → Bool
      test b = is_name x (slice_get (all_data_types s) b) && agree shapes (length shapes) b n

  -- what a tree that fits has, by the number that it fits
  record Found (k : DataType) (n : ℕ) : Type 0 where
    shape : TypeShape
    has : HasShape s k shape
    kinds : kind_at shapes n ≡ kind_of shape
    parts : (e : DataType) → part shape ≡ Some e → fits e (next shapes n) ≡ true

  leaf-found : (k : DataType) (f : TypeShape) (n : ℕ) → IsShapeAt s k f → part f ≡ None
      → eqb (kind_at shapes n) (kind_of f) ≡ true → Found k n
  leaf-found k f n h none e = record {
    shape = f;
    has = (k, inl refl, h);
    kinds = test-kind (kind_at shapes n) (kind_of f) e;
    parts = λ d p. absurd (cc);
  }

  over-found : (k d : DataType) (f : TypeShape) (n : ℕ) → IsShapeAt s k f → part f ≡ Some d
      → (eqb (kind_at shapes n) (kind_of f) && fits d (next shapes n)) ≡ true → Found k n
  over-found k d f n h is e =
      let parted = both-hold (eqb (kind_at shapes n) (kind_of f)) (fits d (next shapes n)) e in
      record {
        shape = f;
        has = (k, inl refl, h);
        kinds = test-kind (kind_at shapes n) (kind_of f) parted.0;
        parts = λ x p. (let same : d ≡ x = cc in subst (λ (y : DataType). fits y (next shapes n) ≡ true) same parted.1);
      }

  name-shape : (x : Name) (b n : ℕ) → IsMet s (a_type x) → b < length shapes → n < length shapes
      → slice_get (all_data_types s) b ≡ Some (named x) → agreed b n ≡ true → Found (named x) n
  name-shape x b n met low lt at h =
      let a = table-at b (named x) at (met, tt) in
      let (kinds, on) = step b n low lt h in
      record {
        shape = a.shape;
        has = a.has;
        kinds = sym kinds ∙ a.kinds;
        parts = λ e p.
            all-fit e (next shapes b) (next shapes n) (a.parts e p)
            (part-known s r (named x) e a.shape (met, tt) a.has p) (next-below shapes n t.table lt) on;
      }

  found-at : (k : DataType) (n : ℕ) → n < length shapes → fits k n ≡ true → Found k n
  unfolding fits
  found-at integer n lt h = leaf-found integer of_numbers n refl refl h
  found-at number n lt h = leaf-found number of_numbers n refl refl h
  found-at boolean n lt h = leaf-found boolean of_logicals n refl refl h
  found-at logical n lt h = leaf-found logical of_logicals n refl refl h
  found-at (real w) n lt h = leaf-found (real w) of_numbers n refl refl h
  found-at (string w) n lt h = leaf-found (string w) of_strings n refl refl h
  found-at (binary w) n lt h = leaf-found (binary w) of_binaries n refl refl h
  found-at (array b o u k) n lt h = over-found (array b o u k) k (of_arrays k) n refl refl h
  found-at (list b u k) n lt h = over-found (list b u k) k (of_lists k) n refl refl h
  found-at (bag b k) n lt h = over-found (bag b k) k (of_collections k) n refl refl h
  found-at (set b k) n lt h = over-found (set b k) k (of_collections k) n refl refl h
  found-at (named x) n lt h =
      let parted = both-hold (is_known (declaration_of s.declarations x)) (any_below (length shapes) test) h in
      let (b, low, found) = any-found (length shapes) test parted.1 in
      let tests = both-hold (is_name x (slice_get (all_data_types s) b)) (agree shapes (length shapes) b n) found in
      name-shape x b n (known-met s x (declaration_of s.declarations x) refl parted.0) low lt
      (name-found x (slice_get (all_data_types s) b) tests.0) tests.1
    where
      test : ℕ → Bool
      test b = is_name x (slice_get (all_data_types s) b) && agree shapes (length shapes) b n

  -- two trees fit one number
  related : DataType → DataType → Bool
  related k l = any_below (length shapes) (λ n. fits k n && fits l n)

  related-made : (k l : DataType) (n : ℕ) → n < length shapes → fits k n ≡ true → fits l n ≡ true → related k l ≡ true
  unfolding related
  related-made k l n lt h g = any-made (length shapes) n (λ m. fits k m && fits l m) lt (both (fits k n) (fits l n) h g)

  related-found : (k l : DataType) → related k l ≡ true
      → (n : ℕ) × (n < length shapes) × (fits k n ≡ true) × (fits l n ≡ true)
  unfolding related
  related-found k l h =
      let (n, lt, found) = any-found (length shapes) (λ m. fits k m && fits l m) h in
      let tests = both-hold (fits k n) (fits l n) found in (n, lt, tests.0, tests.1)

  related-keeps : KeepsShapes s related
  related-keeps k l h =
      let (n, lt, kn, ln) = related-found k l h in
      let a = found-at k n lt kn in
      let b = found-at l n lt ln in (
        a.shape,
        b.shape,
        a.has,
        b.has,
        one related a.shape b.shape (sym a.kinds ∙ b.kinds)
            (λ d e p q. related-made d e (next shapes n) (next-below shapes n t.table lt) (a.parts d p) (b.parts e q)),
      )

  pub trees-alike : (m n : ℕ) (k l : DataType) → slice_get (all_data_types s) m ≡ Some k
      → slice_get (all_data_types s) n ≡ Some l → IsKnown s k → IsKnown s l → AreAlikeAt shapes m n → AreAlikeTypes s k l
  trees-alike m n k l mk nl known other h =
      let low = number-below m k mk in
      let laws = agree-laws shapes (length shapes) in
      let turned : agree shapes (length shapes) n m ≡ true =
      laws.symm n m ∙ alike-agree shapes (length shapes) m n h in (
        related,
        related-made k l m low (all-fit k m m mk known low (laws.refl m)) (all-fit l n m nl other low turned),
        related-keeps,
      )
