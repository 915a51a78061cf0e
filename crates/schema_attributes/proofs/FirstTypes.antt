-- The first data type of an attribute stands at one place of the row of its entity.
use Rattle.std.specs.Prelude.{◌≡◌, ℕ, zero, suc, ◌+◌, ◌<◌, ◌≤◌, Bool, true, false, not, cond, ◌||◌, List, [], ◌∷◌, ◌++◌, ◌⊎◌, Option, None, Some, map, flat_map, drop, length, slice_get, nat_lt}
use Rattle.std.specs.List.{position, position_or_len}
use Rattle.std.specs.Option.{option_or}
use Rattle.std.proofs.Common.{refl, inl, inr, ap, sym, subst, ◌∙◌, arith}
use Rattle.std.proofs.lemmas.Bool.Decides.{nat_tests}
use Rattle.std.proofs.lemmas.List.{append_assoc, length-map}
use Rattle.express_syntax.specs.Schemas.{Schema, Declaration, type, entity, skipped, Entity, Attribute, own, redeclared, Explicit, Derived, Inverse, DataType}
use Rattle.schema_semantics.specs.Names.{Name, OneOf, Among, listed, own_names, attribute_names, explicit_names, derived_names, IsEntityAt}
use Rattle.schema_semantics.specs.Faults.{declared, declared_from, in_scope, enumerated_items, IsResolved}
use Rattle.schema_semantics.specs.Attributes.{collected, DeclaresAs, IsFirstType}
use Rattle.schema_semantics.proofs.Supertypes.{found}
use Rattle.schema_semantics.proofs.Lists.{among-left, among-right, among-map, AreFresh, are-fresh, fresh-right}
use Rattle.schema_names.specs.Numbers.{AreAt}
use Rattle.schema_names.proofs.Items.{front-at, back-at}
use Rattle.schema_names.proofs.Rows.{map-joined, flat-joined}
use Rattle.schema_explicit_attributes.specs.steps.Owned.{is_own}
use Rattle.schema_explicit_attributes.proofs.Owning.{own-listed}
use Rattle.schema_explicit_attributes.proofs.Having.{included, includes-it}
use Rattle.schema_data_types.specs.NumberedTypes.{attribute_types, explicit_types, derived_types, all_data_types}
use Rattle.schema_attributes.specs.steps.Redeclaring.{IsFirstTypeAt}
use Rattle.schema_attributes.specs.steps.Searching.{Typing, explicit_typing, derived_typing, inverse_typing, typings, types_own, number_where}

-- searching
pub where-mapped : {A B : Type 0} (f : A → B) (test : B → Bool) (row : List ℕ) (xs : List A)
    → number_where (λ x. test (f x)) row xs ≡ number_where test row (map f xs)
where-mapped f test [] xs = refl
where-mapped f test (n ∷ row) [] = refl
where-mapped f test (n ∷ row) (x ∷ xs) = ap (cond (test (f x)) (Some n)) (where-mapped f test row xs)

pub where-alike : {A : Type 0} (test other : A → Bool) → ((x : A) → test x ≡ other x) → (row : List ℕ) (xs : List A)
    → number_where test row xs ≡ number_where other row xs
where-alike test other h [] xs = refl
where-alike test other h (n ∷ row) [] = refl
where-alike test other h (n ∷ row) (x ∷ xs) =
    ap (λ b. cond b (Some n) (number_where test row xs)) (h x)
    ∙ ap (cond (other x) (Some n)) (where-alike test other h row xs)

-- what follows is searched in the rest of the row
pub where-joined : {A : Type 0} (test : A → Bool) (row : List ℕ) (xs ys : List A) → number_where test row (xs ++ ys)
    ≡ option_or (number_where test row xs) (number_where test (drop (length xs) row) ys)
where-joined test [] [] ys = refl
where-joined test [] (x ∷ xs) ys = refl
where-joined test (n ∷ row) [] ys = refl
where-joined test (n ∷ row) (x ∷ xs) ys = by (test x) (where-joined test row xs ys)
  where
    by : (b : Bool)
        → number_where test row (xs ++ ys)
        ≡ option_or (number_where test row xs) (number_where test (drop (length xs) row) ys)
        → cond b (Some n) (number_where test row (xs ++ ys))
        ≡ option_or (cond b (Some n) (number_where test row xs)) (number_where test (drop (length xs) row) ys)
    by true more = refl
    by false more = more

-- by the place of the first that passes
placed : {A : Type 0} (test : A → Bool) (row : List ℕ) (xs : List A) → position_or_len test xs < length xs
    → number_where test row xs ≡ slice_get row (position_or_len test xs)
placed test [] xs lt = refl
placed test (n ∷ row) [] lt = absurd (omega (arith, lt))
placed {A} test (n ∷ row) (x ∷ xs) lt = by (test x) (placed test row xs) lt
  where
    k : ℕ
    k = position_or_len test xs

    by : (b : Bool) → (k < length xs → number_where test row xs ≡ slice_get row k)
        → cond (not b) (1 + k) 0 < suc (length xs)
        → cond b (Some n) (number_where test row xs) ≡ slice_get (n ∷ row) (cond (not b) (1 + k) 0)
    by true more lt = refl
    by false more lt = let one : 1 + k ≡ suc k = omega arith in rw one (more (omega (arith, lt)))

unplaced : {A : Type 0} (test : A → Bool) (row : List ℕ) (xs : List A) → length xs ≤ position_or_len test xs
    → number_where test row xs ≡ None
unplaced test [] xs le = refl
unplaced test (n ∷ row) [] le = refl
unplaced {A} test (n ∷ row) (x ∷ xs) le = by (test x) (unplaced test row xs) le
  where
    k : ℕ
    k = position_or_len test xs

    by : (b : Bool) → (length xs ≤ k → number_where test row xs ≡ None) → suc (length xs) ≤ cond (not b) (1 + k) 0
        → cond b (Some n) (number_where test row xs) ≡ None
    by true more le = absurd (omega (arith, le))
    by false more le = more (omega (arith, le))

pub where-placed : {A : Type 0} (test : A → Bool) (row : List ℕ) (xs : List A) (i : ℕ) → Some i ≡ position test xs
    → slice_get row i ≡ number_where test row xs
where-placed {A} test row xs i e = by (nat_lt (position_or_len test xs) (length xs)) refl e
  where
    by : (b : Bool) → nat_lt (position_or_len test xs) (length xs) ≡ b
        → Some i ≡ cond b (Some (position_or_len test xs)) None → slice_get row i ≡ number_where test row xs
    by true t e =
        let lt : position_or_len test xs < length xs = grind (arith, nat_tests) in
        let same : i ≡ position_or_len test xs = cc in
        ap (slice_get row) same ∙ sym (placed test row xs lt)
    by false t e = absurd (cc)

pub where-unplaced : {A : Type 0} (test : A → Bool) (row : List ℕ) (xs : List A) → None ≡ position test xs
    → None ≡ number_where test row xs
where-unplaced {A} test row xs e = by (nat_lt (position_or_len test xs) (length xs)) refl e
  where
    by : (b : Bool) → nat_lt (position_or_len test xs) (length xs) ≡ b
        → None ≡ cond b (Some (position_or_len test xs)) None → None ≡ number_where test row xs
    by true t e = absurd (cc)
    by false t e =
        let le : length xs ≤ position_or_len test xs = grind (arith, nat_tests) in sym (unplaced test row xs le)

-- positions in a list that is mapped twice
module _ {X Y Z : Type 0} (f : X → Y) (g : Y → Z) (test : Z → Bool) (own : X → Bool)
    (same : (x : X) → own x ≡ test (g (f x))) (row : List ℕ) (xs : List X) where
  twice-mapped : number_where own row xs ≡ number_where test row (map g (map f xs))
  twice-mapped =
      where-alike own (λ x. test (g (f x))) same row xs ∙ where-mapped f (λ y. test (g y)) row xs
      ∙ where-mapped g test row (map f xs)

  pub sought-none : None ≡ position own xs → None ≡ number_where test row (map g (map f xs))
  sought-none e = where-unplaced own row xs e ∙ twice-mapped

  pub sought-some : (i : ℕ) → Some i ≡ position own xs → slice_get row i ≡ number_where test row (map g (map f xs))
  sought-some i e = where-placed own row xs i e ∙ twice-mapped

-- typings
pub types-own-alone : (a : Name) (x : Attribute) (k : DataType) → is_own a x ≡ types_own a (x ∷ [], k)
types-own-alone a x k = by (is_own a x)
  where
    by : (b : Bool) → b ≡ (b || false)
    by true = refl
    by false = refl

-- an attribute a is declared there, with the data type k
abbrev pub TypesAs : Name → DataType → Typing → Type 0
TypesAs a k t = Among (own a) t.0 × (t.1 ≡ k)

-- P holds of one where it holds of what one is mapped to
one-mapped : {A B : Type 0} (f : A → B) (P : B → Type 0) (xs : List A) → OneOf (λ x. P (f x)) xs
    → OneOf P (map f xs)
one-mapped f P [] h = elim h [ ]
one-mapped f P (x ∷ xs) (inl h) = inl h
one-mapped f P (x ∷ xs) (inr h) = inr (one-mapped f P xs h)

one-unmapped : {A B : Type 0} (f : A → B) (P : B → Type 0) (xs : List A) → OneOf P (map f xs)
    → OneOf (λ x. P (f x)) xs
one-unmapped f P [] h = elim h [ ]
one-unmapped f P (x ∷ xs) (inl h) = inl h
one-unmapped f P (x ∷ xs) (inr h) = inr (one-unmapped f P xs h)

one-kept : {A : Type 0} (P Q : A → Type 0) (xs : List A) → ((x : A) → P x → Q x) → OneOf P xs → OneOf Q xs
one-kept P Q [] k h = elim h [ ]
one-kept P Q (x ∷ xs) k (inl h) = inl (k x h)
one-kept P Q (x ∷ xs) k (inr h) = inr (one-kept P Q xs k h)

one-left : {A : Type 0} (P : A → Type 0) (xs ys : List A) → OneOf P xs → OneOf P (xs ++ ys)
one-left P [] ys h = elim h [ ]
one-left P (x ∷ xs) ys (inl h) = inl h
one-left P (x ∷ xs) ys (inr h) = inr (one-left P xs ys h)

one-right : {A : Type 0} (P : A → Type 0) (xs ys : List A) → OneOf P ys → OneOf P (xs ++ ys)
one-right P [] ys h = h
one-right P (x ∷ xs) ys h = inr (one-right P xs ys h)

one-either : {A : Type 0} (P : A → Type 0) (xs ys : List A) → OneOf P (xs ++ ys) → OneOf P xs ⊎ OneOf P ys
one-either P [] ys h = inr h
one-either P (x ∷ xs) ys (inl h) = inl (inl h)
one-either {A} P (x ∷ xs) ys (inr h) = put (one-either P xs ys h)
  where
    put : OneOf P xs ⊎ OneOf P ys → OneOf P (x ∷ xs) ⊎ OneOf P ys
    put (inl m) = inl (inr m)
    put (inr m) = inr m

module _ (a : Name) where
  own-name : (n : Name) → own n ≡ own a → n ≡ a
  own-name n h = cc

  own-among : (xs : List Attribute) → Among (own a) xs → Among a (own_names xs)
  own-among [] h = elim h [ ]
  own-among (own n ∷ xs) (inl h) = inl (own-name n h)
  own-among (own n ∷ xs) (inr h) = inr (own-among xs h)
  own-among (redeclared q n ∷ xs) (inl h) = absurd (cc)
  own-among (redeclared q n ∷ xs) (inr h) = own-among xs h

  among-own : (xs : List Attribute) → Among a (own_names xs) → Among (own a) xs
  among-own [] h = elim h [ ]
  among-own (own n ∷ xs) (inl h) = inl (ap own h)
  among-own (own n ∷ xs) (inr h) = inr (among-own xs h)
  among-own (redeclared q n ∷ xs) h = inr (among-own xs h)

  own-forth : (t : Typing) → types_own a t ≡ true → Among (own a) t.0
  own-forth t h = among-own t.0 (included (own_names t.0) a (sym (own-listed a t.0) ∙ h))

  own-back : (t : Typing) → Among (own a) t.0 → types_own a t ≡ true
  own-back t h = own-listed a t.0 ∙ includes-it (own_names t.0) a (own-among t.0 h)

  -- in a row that has their data types
  module _ (all : List DataType) where
    abbrev type-of : Typing → DataType
    type-of t = t.1

    some-typed : (row : List ℕ) (ts : List Typing) → AreAt all row (map type-of ts) → (n : ℕ)
        → Some n ≡ number_where (types_own a) row ts
        → (k : DataType) × (slice_get all n ≡ Some k) × OneOf (TypesAs a k) ts
    some-typed [] ts h n e = absurd (cc)
    some-typed (m ∷ row) [] h n e = absurd (cc)
    some-typed (m ∷ row) (t ∷ ts) h n e =
        by (types_own a t) refl e (some-typed row ts (back-at all m row t.1 (map type-of ts) h) n)
      where
        later : (k : DataType) × (slice_get all n ≡ Some k) × OneOf (TypesAs a k) ts
            → (k : DataType) × (slice_get all n ≡ Some k) × OneOf (TypesAs a k) (t ∷ ts)
        later (k, at, one) = (k, at, inr one)

        by : (b : Bool) → types_own a t ≡ b → Some n ≡ cond b (Some m) (number_where (types_own a) row ts)
            → (Some n ≡ number_where (types_own a) row ts
            → (k : DataType) × (slice_get all n ≡ Some k) × OneOf (TypesAs a k) ts)
            → (k : DataType) × (slice_get all n ≡ Some k) × OneOf (TypesAs a k) (t ∷ ts)
        by true c e more =
            let same : m ≡ n = cc in (
              t.1,
              subst (λ i. slice_get all i ≡ Some t.1) same (front-at all m row t.1 (map type-of ts) h),
              inl (own-forth t c, refl),
            )
        by false c e more = later (more e)

    none-typed : (row : List ℕ) (ts : List Typing) → AreAt all row (map type-of ts)
        → None ≡ number_where (types_own a) row ts → (k : DataType) → OneOf (TypesAs a k) ts → ⊥
    none-typed row [] h e k one = one
    none-typed [] (t ∷ ts) h e k one = absurd (cc)
    none-typed (m ∷ row) (t ∷ ts) h e k one =
        by (types_own a t) refl e one (none-typed row ts (back-at all m row t.1 (map type-of ts) h))
      where
        clash : types_own a t ≡ false → types_own a t ≡ true → ⊥
        clash x y = cc

        by : (b : Bool) → types_own a t ≡ b → None ≡ cond b (Some m) (number_where (types_own a) row ts)
            → OneOf (TypesAs a k) (t ∷ ts)
            → (None ≡ number_where (types_own a) row ts → (k : DataType) → OneOf (TypesAs a k) ts → ⊥) → ⊥
        by true c e one more = cc
        by false c e (inl (among, is)) more = clash c (own-back t among)
        by false c e (inr one) more = more e k one

  -- a name that is declared once has one data type
  abbrev pub names_typed : Typing → List Name
  names_typed t = own_names t.0

  typed-among : (k : DataType) (ts : List Typing) → OneOf (TypesAs a k) ts → Among a (flat_map names_typed ts)
  typed-among k [] h = elim h [ ]
  typed-among k (t ∷ ts) (inl (among, is)) =
      among-left a (own_names t.0) (flat_map names_typed ts) (own-among t.0 among)
  typed-among k (t ∷ ts) (inr one) = among-right a (own_names t.0) (flat_map names_typed ts) (typed-among k ts one)

  not-both : (ns ms : List Name) → AreFresh (ns ++ ms) → Among a ns → Among a ms → ⊥
  not-both [] ms f h k = h
  not-both (n ∷ ns) ms f (inl e) k = f.0 (among-right n ns ms (subst (λ x. Among x ms) (sym e) k))
  not-both (n ∷ ns) ms f (inr h) k = not-both ns ms f.1 h k

  typed-once : (ts : List Typing) → AreFresh (flat_map names_typed ts) → (k l : DataType) → OneOf (TypesAs a k) ts
      → OneOf (TypesAs a l) ts → l ≡ k
  typed-once [] f k l h g = elim h [ ]
  typed-once (t ∷ ts) f k l (inl (m, e)) (inl (n, d)) = sym d ∙ e
  typed-once (t ∷ ts) f k l (inl (m, e)) (inr g) =
      absurd (not-both (own_names t.0) (flat_map names_typed ts) f (own-among t.0 m) (typed-among l ts g))
  typed-once (t ∷ ts) f k l (inr h) (inl (n, d)) =
      absurd (not-both (own_names t.0) (flat_map names_typed ts) f (own-among t.0 n) (typed-among k ts h))
  typed-once (t ∷ ts) f k l (inr h) (inr g) =
      typed-once ts (fresh-right (own_names t.0) (flat_map names_typed ts) f) k l h g

-- of an entity
module _ (e : Entity) where
  explicits : List Typing
  explicits = map explicit_typing e.explicits

  deriveds : List Typing
  deriveds = map derived_typing (listed e.derived)

  inverses : List Typing
  inverses = map inverse_typing (listed e.inverses)

  types-mapped : {X : Type 0} (f : X → Typing) (xs : List X)
      → map (λ (t : Typing). t.1) (map f xs) ≡ map (λ x. (f x).1) xs
  types-mapped f [] = refl
  types-mapped f (x ∷ xs) = ap (λ ks. (f x).1 ∷ ks) (types-mapped f xs)

  pub types-are : map (λ (t : Typing). t.1) (typings e) ≡ attribute_types e
  unfolding explicits deriveds inverses
  types-are =
      map-joined (λ (t : Typing). t.1) (explicits ++ deriveds) inverses
      ∙ ap (λ ks. ks ++ map (λ (t : Typing). t.1) inverses)
      (map-joined (λ (t : Typing). t.1) explicits deriveds
      ∙ ap (λ ks. ks ++ map (λ (t : Typing). t.1) deriveds) (types-mapped explicit_typing e.explicits)
      ∙ ap (λ ks. explicit_types e.explicits ++ ks) (types-mapped derived_typing (listed e.derived)))
      ∙ ap (λ ks. (explicit_types e.explicits ++ derived_types (listed e.derived)) ++ ks)
      (types-mapped inverse_typing (listed e.inverses))

  -- the names of a typing
  abbrev own_in : Typing → List Name
  own_in t = own_names t.0

  explicits-own : (xs : List Explicit) → flat_map own_in (map explicit_typing xs)
      ≡ flat_map (λ (x : Explicit). own_names x.attributes) xs
  explicits-own [] = refl
  explicits-own (x ∷ xs) = ap (λ ns. own_names x.attributes ++ ns) (explicits-own xs)

  one-more : (x : Attribute) (xs : List Attribute) → own_names (x ∷ []) ++ own_names xs ≡ own_names (x ∷ xs)
  one-more (own n) xs = refl
  one-more (redeclared q n) xs = refl

  alone-own : {X : Type 0} (f : X → Attribute) (k : X → DataType) (xs : List X)
      → flat_map own_in (map (λ x. (f x ∷ [], k x)) xs) ≡ own_names (map f xs)
  alone-own f k [] = refl
  alone-own f k (x ∷ xs) = ap (λ ns. own_names (f x ∷ []) ++ ns) (alone-own f k xs) ∙ one-more (f x) (map f xs)

  pub names-are : flat_map own_in (typings e) ≡ attribute_names e
  unfolding explicits deriveds inverses
  names-are =
      flat-joined own_in (explicits ++ deriveds) inverses
      ∙ ap (λ ns. ns ++ flat_map own_in inverses)
      (flat-joined own_in explicits deriveds
      ∙ ap (λ ns. ns ++ flat_map own_in deriveds) (explicits-own e.explicits)
      ∙ ap (λ ns. explicit_names e ++ ns)
      (alone-own (λ (d : Derived). d.attribute) (λ (d : Derived). d.data_type) (listed e.derived)))
      ∙ ap (λ ns. (explicit_names e ++ derived_names e) ++ ns)
      (alone-own (λ (i : Inverse). i.attribute) (λ (i : Inverse). collected i.collection i.entity)
      (listed e.inverses))

  module _ (a : Name) (k : DataType) where
    alone-forth : (x : Attribute) (l : DataType) → (x ≡ own a) × (l ≡ k) → TypesAs a k (x ∷ [], l)
    alone-forth x l (h, g) = (inl h, g)

    alone-back : (x : Attribute) (l : DataType) → TypesAs a k (x ∷ [], l) → (x ≡ own a) × (l ≡ k)
    alone-back x l (inl h, g) = (h, g)
    alone-back x l (inr h, g) = elim h [ ]

    pub declares-forth : DeclaresAs a k e → OneOf (TypesAs a k) (typings e)
    unfolding explicits deriveds inverses
    declares-forth (inl h) =
        one-left (TypesAs a k) (explicits ++ deriveds) inverses (one-left (TypesAs a k) explicits deriveds
        (one-mapped explicit_typing (TypesAs a k) e.explicits h))
    declares-forth (inr (inl h)) =
        one-left (TypesAs a k) (explicits ++ deriveds) inverses (one-right (TypesAs a k) explicits deriveds
        (one-mapped derived_typing (TypesAs a k) (listed e.derived)
        (one-kept (λ (d : Derived). (d.attribute ≡ own a) × (d.data_type ≡ k))
        (λ (d : Derived). TypesAs a k (derived_typing d)) (listed e.derived)
        (λ d. alone-forth d.attribute d.data_type) h)))
    declares-forth (inr (inr h)) =
        one-right (TypesAs a k) (explicits ++ deriveds) inverses
        (one-mapped inverse_typing (TypesAs a k) (listed e.inverses)
        (one-kept (λ (i : Inverse). (i.attribute ≡ own a) × (collected i.collection i.entity ≡ k))
        (λ (i : Inverse). TypesAs a k (inverse_typing i)) (listed e.inverses)
        (λ i. alone-forth i.attribute (collected i.collection i.entity)) h))

    pub declares-back : OneOf (TypesAs a k) (typings e) → DeclaresAs a k e
    unfolding explicits deriveds inverses
    declares-back h = by (one-either (TypesAs a k) (explicits ++ deriveds) inverses h)
      where
        front : OneOf (TypesAs a k) explicits ⊎ OneOf (TypesAs a k) deriveds → DeclaresAs a k e
        front (inl h) = inl (one-unmapped explicit_typing (TypesAs a k) e.explicits h)
        front (inr h) =
            inr (inl (one-kept (λ (d : Derived). TypesAs a k (derived_typing d))
            (λ (d : Derived). (d.attribute ≡ own a) × (d.data_type ≡ k)) (listed e.derived)
            (λ d. alone-back d.attribute d.data_type)
            (one-unmapped derived_typing (TypesAs a k) (listed e.derived) h)))

        by : OneOf (TypesAs a k) (explicits ++ deriveds) ⊎ OneOf (TypesAs a k) inverses → DeclaresAs a k e
        by (inl h) = front (one-either (TypesAs a k) explicits deriveds h)
        by (inr h) =
            inr (inr (one-kept (λ (i : Inverse). TypesAs a k (inverse_typing i))
            (λ (i : Inverse). (i.attribute ≡ own a) × (collected i.collection i.entity ≡ k)) (listed e.inverses)
            (λ i. alone-back i.attribute (collected i.collection i.entity))
            (one-unmapped inverse_typing (TypesAs a k) (listed e.inverses) h)))

-- The three parts of a row are searched in turn.
module _ (a : Name) (row : List ℕ) (e : Entity) (xs : List Explicit) (all-explicit : xs ≡ e.explicits) where
  joined : List Explicit → List Derived → List Inverse → List Typing
  joined xs ds is = map explicit_typing xs ++ (map derived_typing ds ++ map inverse_typing is)

  joined-are : typings e ≡ joined e.explicits (listed e.derived) (listed e.inverses)
  unfolding joined
  joined-are =
      append_assoc (map explicit_typing e.explicits) (map derived_typing (listed e.derived))
      (map inverse_typing (listed e.inverses))

  sought : List ℕ → List Typing → Option ℕ
  sought row ts = number_where (types_own a) row ts

  parted : (ds : List Derived) (is : List Inverse) → sought row (joined xs ds is)
      ≡ option_or (sought row (map explicit_typing xs))
      (sought (drop (length xs) row) (map derived_typing ds ++ map inverse_typing is))
  unfolding joined sought
  parted ds is =
      where-joined (types_own a) row (map explicit_typing xs) (map derived_typing ds ++ map inverse_typing is)
      ∙ ap (λ n. option_or (sought row (map explicit_typing xs))
      (sought (drop n row) (map derived_typing ds ++ map inverse_typing is))) (length-map xs explicit_typing)

  pub of-explicit : (n : ℕ) → Some n ≡ number_where (types_own a) row (map explicit_typing xs)
      → Some n ≡ number_where (types_own a) row (typings e)
  unfolding joined sought
  of-explicit n h =
      ap (λ o. option_or o
      (sought (drop (length xs) row)
      (map derived_typing (listed e.derived) ++ map inverse_typing (listed e.inverses)))) h
      ∙ sym (parted (listed e.derived) (listed e.inverses))
      ∙ ap (λ ys. sought row (joined ys (listed e.derived) (listed e.inverses))) all-explicit
      ∙ ap (sought row) (sym joined-are)

  module _ (none : None ≡ number_where (types_own a) row (map explicit_typing xs)) (rest : List ℕ)
      (behind : rest ≡ drop (length xs) row) (ds : List Derived) (all-derived : ds ≡ listed e.derived) where
    in-rest : (is : List Inverse)
        → sought rest (map derived_typing ds ++ map inverse_typing is) ≡ sought row (joined xs ds is)
    unfolding sought
    in-rest is =
        ap (λ r. sought r (map derived_typing ds ++ map inverse_typing is)) behind
        ∙ ap (λ o. option_or o (sought (drop (length xs) row) (map derived_typing ds ++ map inverse_typing is))) none
        ∙ sym (parted ds is)

    rest-parted : (is : List Inverse) → sought rest (map derived_typing ds ++ map inverse_typing is)
        ≡ option_or (sought rest (map derived_typing ds)) (sought (drop (length ds) rest) (map inverse_typing is))
    unfolding sought
    rest-parted is =
        where-joined (types_own a) rest (map derived_typing ds) (map inverse_typing is)
        ∙ ap (λ n. option_or (sought rest (map derived_typing ds)) (sought (drop n rest) (map inverse_typing is)))
        (length-map ds derived_typing)

    whole : sought row (joined xs ds (listed e.inverses)) ≡ sought row (typings e)
    whole =
        ap (λ ys. sought row (joined ys ds (listed e.inverses))) all-explicit
        ∙ ap (λ ys. sought row (joined e.explicits ys (listed e.inverses))) all-derived
        ∙ ap (sought row) (sym joined-are)

    pub of-derived : (n : ℕ) → Some n ≡ number_where (types_own a) rest (map derived_typing ds)
        → Some n ≡ number_where (types_own a) row (typings e)
    unfolding sought
    of-derived n h =
        ap (λ o. option_or o (sought (drop (length ds) rest) (map inverse_typing (listed e.inverses)))) h
        ∙ sym (rest-parted (listed e.inverses)) ∙ in-rest (listed e.inverses) ∙ whole

    pub of-inverse : None ≡ number_where (types_own a) rest (map derived_typing ds) → (last : List ℕ)
        → last ≡ drop (length ds) rest → (is : List Inverse) → is ≡ listed e.inverses → (o : Option ℕ)
        → o ≡ number_where (types_own a) last (map inverse_typing is)
        → o ≡ number_where (types_own a) row (typings e)
    unfolding sought
    of-inverse free last end is all-inverse o h =
        h ∙ ap (λ r. sought r (map inverse_typing is)) end
        ∙ ap (λ ys. sought (drop (length ds) rest) (map inverse_typing ys)) all-inverse
        ∙ ap (λ p. option_or p (sought (drop (length ds) rest) (map inverse_typing (listed e.inverses)))) free
        ∙ sym (rest-parted (listed e.inverses)) ∙ in-rest (listed e.inverses) ∙ whole

-- In a resolved schema an entity declares each attribute once.
fresh-left : {A : Type 0} (xs ys : List A) → AreFresh (xs ++ ys) → AreFresh xs
fresh-left [] ys h = tt
fresh-left (x ∷ xs) ys h = ((λ m. h.0 (among-left x xs ys m)), fresh-left xs ys h.1)

fresh-unmapped : {A B : Type 0} (f : A → B) (xs : List A) → AreFresh (map f xs) → AreFresh xs
fresh-unmapped f [] h = tt
fresh-unmapped f (x ∷ xs) h = ((λ m. h.0 (among-map f x xs m)), fresh-unmapped f xs h.1)

fresh-in : (k : ℕ) (ds : List Declaration) (e : Entity) → AreFresh (declared_from k ds) → Among (entity e) ds
    → AreFresh (attribute_names e)
fresh-in k [] e f m = elim m [ ]
fresh-in k (type t ∷ ds) e f (inl h) = absurd (cc)
fresh-in k (type t ∷ ds) e f (inr m) =
    fresh-in (k + 1) ds e (fresh-right (in_scope k (enumerated_items t.underlying)) (declared_from (k + 1) ds) f.1) m
fresh-in k (entity x ∷ ds) e f (inl h) =
    let same : x ≡ e = cc in
    subst (λ y. AreFresh (attribute_names y)) same
    (fresh-unmapped (λ (m : Name). (k, m)) (attribute_names x)
    (fresh-left (in_scope k (attribute_names x)) (declared_from (k + 1) ds) f.1))
fresh-in k (entity x ∷ ds) e f (inr m) =
    fresh-in (k + 1) ds e (fresh-right (in_scope k (attribute_names x)) (declared_from (k + 1) ds) f.1) m
fresh-in k (skipped p ∷ ds) e f (inl h) = absurd (cc)
fresh-in k (skipped p ∷ ds) e f (inr m) = fresh-in (k + 1) ds e f m

module _ (s : Schema) where
  pub names-fresh : IsResolved s → (p : Name) (e : Entity) → IsEntityAt s p e → AreFresh (attribute_names e)
  names-fresh r p e at =
      fresh-in 1 s.declarations e (are-fresh (declared s) r.once) (found s.declarations p (entity e) at).0

  entity-is : (x y : Entity) → Some (entity x) ≡ Some (entity y) → x ≡ y
  entity-is x y h = cc

  -- the number that stands in its row
  module _ (r : IsResolved s) (p a : Name) (e : Entity) (at : IsEntityAt s p e) where
    declared-as : (k : DataType) → IsFirstType s p a k → OneOf (TypesAs a k) (typings e)
    declared-as k (x, here, typed) =
        declares-forth e a k (subst (DeclaresAs a k) (entity-is x e (sym here ∙ at)) typed)

    pub first-type-at : (row : List ℕ) → AreAt (all_data_types s) row (attribute_types e) → (o : Option ℕ)
        → o ≡ number_where (types_own a) row (typings e) → IsFirstTypeAt s p a o
    first-type-at row h None is = λ k first.
        none-typed a (all_data_types s) row (typings e)
        (subst (AreAt (all_data_types s) row) (sym (types-are e)) h) is k (declared-as k first)
    first-type-at row h (Some n) is =
        by (some-typed a (all_data_types s) row (typings e)
        (subst (AreAt (all_data_types s) row) (sym (types-are e)) h) n is)
      where
        fresh : AreFresh (flat_map (names_typed a) (typings e))
        fresh = subst AreFresh (sym (names-are e)) (names-fresh r p e at)

        by : (k : DataType) × (slice_get (all_data_types s) n ≡ Some k) × OneOf (TypesAs a k) (typings e)
            → IsFirstTypeAt s p a (Some n)
        by (k, there, one) = (
          k,
          there,
          (e, at, declares-back e a k one),
          λ l other. typed-once a (typings e) fresh k l one (declared-as l other),
        )

-- an item within is there
pub not-none : {A : Type 0} (xs : List A) (i : ℕ) → i < length xs → slice_get xs i ≡ None → ⊥
not-none [] i lt e = absurd (omega (arith, lt))
not-none (x ∷ xs) zero lt e = absurd (cc)
not-none (x ∷ xs) (suc i) lt e = not-none xs i (omega (arith, lt)) e
