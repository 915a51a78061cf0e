-- What declarations say of attributes, by name.
use Rattle.std.specs.Prelude.{◌≡◌, ℕ, suc, List, [], ◌∷◌, ◌++◌, Option, None, Some, map, flat_map, ◌⊎◌}
use Rattle.std.proofs.Common.{refl, inl, inr, ap, sym, subst, ◌∙◌, zero}
use Rattle.express_syntax.specs.Schemas.{Schema, entity, Entity, Attribute, own, redeclared, Explicit, Derived, Inverse, DataType}
use Rattle.schema_semantics.specs.Names.{Name, OneOf, Among, IsFirst, listed, entities, IsEntityAt, IsEntity, Declares, own_names, explicit_names, derived_names, inverse_names, attribute_names}
use Rattle.schema_semantics.specs.Faults.{IsResolved}
use Rattle.schema_semantics.specs.Attributes.{collected, DeclaresAs, IsFirstType, IsRedeclaration, HasFirstShape, RedeclaresAs, MayHaveType, Derivation, IsNth, IsDerivation, Derives}
use Rattle.schema_semantics.proofs.Lists.{among-left, among-right, among-either, among-map, among-flat, from-flat, first-holds}
use Rattle.schema_semantics.proofs.Supertypes.{entity-name}
use Rattle.schema_attributes.specs.declared.attribute_collection.Class.{Class}
use Rattle.schema_attributes.specs.declared.attribute_collection.Class.TheVariants as classes

-- one of a list
pub one-of : {A : Type 0} (P : A → Type 0) (xs : List A) (x : A) → Among x xs → P x → OneOf P xs
one-of P [] x m p = elim m [ ]
one-of P (y ∷ xs) x (inl e) p = inl (subst P (sym e) p)
one-of P (y ∷ xs) x (inr m) p = inr (one-of P xs x m p)

behind : {A : Type 0} (P : A → Type 0) (y : A) (xs : List A) → (x : A) × Among x xs × P x → (x : A) × Among x (y ∷ xs) × P x
behind P y xs (x, m, p) = (x, inr m, p)

pub of-one : {A : Type 0} (P : A → Type 0) (xs : List A) → OneOf P xs → (x : A) × Among x xs × P x
of-one P [] h = elim h [ ]
of-one P (y ∷ xs) (inl p) = (y, inl refl, p)
of-one P (y ∷ xs) (inr h) = behind P y xs (of-one P xs h)

pub nth-among : {A : Type 0} (xs : List A) (n : ℕ) (x : A) → IsNth xs n x → Among x xs
nth-among [] n x h = elim h [ ]
nth-among (y ∷ xs) zero x h = inl h
nth-among (y ∷ xs) (suc n) x h = inr (nth-among xs n x h)

after : {A : Type 0} (y : A) (xs : List A) (x : A) → (n : ℕ) × IsNth xs n x → (n : ℕ) × IsNth (y ∷ xs) n x
after y xs x (n, h) = (suc n, h)

pub among-nth : {A : Type 0} (xs : List A) (x : A) → Among x xs → (n : ℕ) × IsNth xs n x
among-nth [] x h = elim h [ ]
among-nth (y ∷ xs) x (inl e) = (0, e)
among-nth (y ∷ xs) x (inr h) = after y xs x (among-nth xs x h)

-- own names
pub own-among : (ys : List Attribute) (a : Name) → Among (own a) ys → Among a (own_names ys)
own-among [] a h = elim h [ ]
own-among (own n ∷ ys) a (inl e) = inl (cc)
own-among (own n ∷ ys) a (inr h) = inr (own-among ys a h)
own-among (redeclared q n ∷ ys) a (inl e) = absurd (cc)
own-among (redeclared q n ∷ ys) a (inr h) = own-among ys a h

pub among-own : (ys : List Attribute) (a : Name) → Among a (own_names ys) → Among (own a) ys
among-own [] a h = elim h [ ]
among-own (own n ∷ ys) a (inl e) = inl (ap own e)
among-own (own n ∷ ys) a (inr h) = inr (among-own ys a h)
among-own (redeclared q n ∷ ys) a h = inr (among-own ys a h)

pub from-map : {A B : Type 0} (f : A → B) (xs : List A) (y : B) → Among y (map f xs) → (x : A) × Among x xs × (f x ≡ y)
from-map f [] y h = elim h [ ]
from-map f (x ∷ xs) y (inl e) = (x, inl refl, e)
from-map f (x ∷ xs) y (inr h) = behind (λ z. f z ≡ y) x xs (from-map f xs y h)

module _ (s : Schema) where
  -- with the data type k the a of p may be redeclared
  abbrev pub Lets : Class → DataType → Name → Name → Type 0
  Lets classes.Explicit k p a = HasFirstShape s p a k
  Lets classes.Derived k p a = Unit {0}
  Lets classes.Inverse k p a = ⊥

  -- an attribute that the entity n declares is the a of p, or redeclares it
  abbrev pub TellsOf : Class → Name → DataType → Attribute → Name → Name → Type 0
  TellsOf c e k (own n) a p = (n ≡ a) × (e ≡ p)
  TellsOf c e k (redeclared q n) a p = IsRedeclaration s (redeclared q n) p a × Lets c k p a

  -- e declares it with this data type, and gives it its value
  abbrev pub StandsIn : Entity → Class → Attribute → DataType → Option Derivation → Type 0
  StandsIn e classes.Explicit y k o =
      (x : Explicit) × Among x e.explicits × Among y x.attributes × (x.data_type ≡ k) × (o ≡ None)
  StandsIn e classes.Derived y k o =
      (n : ℕ) × (d : Derived) × IsNth (listed e.derived) n d × (d.attribute ≡ y) × (d.data_type ≡ k)
      × (o ≡ Some (e.name, n))
  StandsIn e classes.Inverse y k o =
      (i : Inverse) × Among i (listed e.inverses) × (i.attribute ≡ y) × (collected i.collection i.entity ≡ k)
      × (o ≡ None)

  abbrev pub Tells : Name → Name → DataType → Option Derivation → Type 0
  Tells a p k o =
      (e : Entity) × IsEntityAt s e.name e × (c : Class) × (y : Attribute) × StandsIn e c y k o × TellsOf c e.name k y a p

  -- what is redeclared is declared
  pub origin-declares : (x : Attribute) (p a : Name) → IsRedeclaration s x p a → Declares s p a
  origin-declares x p a (q, e, (ent, line, lines, first)) = first-holds (λ (n : Name). Declares s n a) (line q) p first

  at-name : (p : Name) (e : Entity) → IsEntityAt s p e → IsEntityAt s e.name e
  at-name p e at = subst (λ n. IsEntityAt s n e) (sym (entity-name s p e at).1) at

  own-stands : (e : Entity) (a : Name) (k : DataType) (c : Class) (o : Option Derivation) → StandsIn e c (own a) k o
      → DeclaresAs a k e
  own-stands e a k classes.Explicit o (x, m, l, t, q) =
      inl (one-of (λ (x : Explicit). Among (own a) x.attributes × (x.data_type ≡ k)) e.explicits x m (l, t))
  own-stands e a k classes.Derived o (n, d, at, y, t, q) =
      inr (inl (one-of (λ (d : Derived). (d.attribute ≡ own a) × (d.data_type ≡ k)) (listed e.derived) d
      (nth-among (listed e.derived) n d at) (y, t)))
  own-stands e a k classes.Inverse o (i, m, y, t, q) =
      inr (inr (one-of (λ (i : Inverse). (i.attribute ≡ own a) × (collected i.collection i.entity ≡ k))
      (listed e.inverses) i m (y, t)))

  stands-own : (e : Entity) (a : Name) (k : DataType) → DeclaresAs a k e → (c : Class) × (o : Option Derivation)
      × StandsIn e c (own a) k o
  stands-own e a k (inl h) =
      let (x, m, (l, t)) = of-one (λ (x : Explicit). Among (own a) x.attributes × (x.data_type ≡ k)) e.explicits h in
      (classes.Explicit, None, (x, m, l, t, refl))
  stands-own e a k (inr (inl h)) =
      let (d, m, (y, t)) = of-one (λ (d : Derived). (d.attribute ≡ own a) × (d.data_type ≡ k)) (listed e.derived) h in
      let (n, at) = among-nth (listed e.derived) d m in
      (classes.Derived, Some (e.name, n), (n, d, at, y, t, refl))
  stands-own e a k (inr (inr h)) =
      let (i, m, (y, t)) = of-one (λ (i : Inverse). (i.attribute ≡ own a) × (collected i.collection i.entity ≡ k))
      (listed e.inverses) h in
      (classes.Inverse, None, (i, m, y, t, refl))

  declares-name : (e : Entity) (a : Name) (k : DataType) → DeclaresAs a k e → Among a (attribute_names e)
  declares-name e a k (inl h) =
      let (x, m, (l, t)) = of-one (λ (x : Explicit). Among (own a) x.attributes × (x.data_type ≡ k)) e.explicits h in
      among-left a (explicit_names e ++ derived_names e) (inverse_names e)
      (among-left a (explicit_names e) (derived_names e)
      (among-flat (λ (x : Explicit). own_names x.attributes) x a e.explicits m (own-among x.attributes a l)))
  declares-name e a k (inr (inl h)) =
      let (d, m, (y, t)) = of-one (λ (d : Derived). (d.attribute ≡ own a) × (d.data_type ≡ k)) (listed e.derived) h in
      among-left a (explicit_names e ++ derived_names e) (inverse_names e)
      (among-right a (explicit_names e) (derived_names e)
      (own-among (map (λ (d : Derived). d.attribute) (listed e.derived)) a
      (subst (λ z. Among z (map (λ (d : Derived). d.attribute) (listed e.derived))) y
      (among-map (λ (d : Derived). d.attribute) d (listed e.derived) m))))
  declares-name e a k (inr (inr h)) =
      let (i, m, (y, t)) = of-one (λ (i : Inverse). (i.attribute ≡ own a) × (collected i.collection i.entity ≡ k))
      (listed e.inverses) h in
      among-right a (explicit_names e ++ derived_names e) (inverse_names e)
      (own-among (map (λ (i : Inverse). i.attribute) (listed e.inverses)) a
      (subst (λ z. Among z (map (λ (i : Inverse). i.attribute) (listed e.inverses))) y
      (among-map (λ (i : Inverse). i.attribute) i (listed e.inverses) m)))

  name-declares : (e : Entity) (a : Name) → Among a (attribute_names e) → (k : DataType) × DeclaresAs a k e
  name-declares e a h = which (among-either a (explicit_names e ++ derived_names e) (inverse_names e) h)
    where
      front : Among a (explicit_names e) ⊎ Among a (derived_names e) → (k : DataType) × DeclaresAs a k e
      front (inl m) =
          let (x, there, l) = from-flat (λ (x : Explicit). own_names x.attributes) a e.explicits m in (
            x.data_type,
            inl (one-of (λ (y : Explicit). Among (own a) y.attributes × (y.data_type ≡ x.data_type))
                e.explicits x there (among-own x.attributes a l, refl)),
          )
      front (inr m) =
          let (d, there, y) = from-map (λ (d : Derived). d.attribute) (listed e.derived) (own a)
          (among-own (map (λ (d : Derived). d.attribute) (listed e.derived)) a m) in (
            d.data_type,
            inr (inl (one-of (λ (b : Derived). (b.attribute ≡ own a) × (b.data_type ≡ d.data_type))
                (listed e.derived) d there (y, refl))),
          )

      which : Among a (explicit_names e ++ derived_names e) ⊎ Among a (inverse_names e) → (k : DataType)
          × DeclaresAs a k e
      which (inl m) = front (among-either a (explicit_names e) (derived_names e) m)
      which (inr m) =
          let (i, there, y) = from-map (λ (i : Inverse). i.attribute) (listed e.inverses) (own a)
          (among-own (map (λ (i : Inverse). i.attribute) (listed e.inverses)) a m) in (
            collected i.collection i.entity,
            inr (inr (one-of (λ (j : Inverse). (j.attribute ≡ own a)
                × (collected j.collection j.entity ≡ collected i.collection i.entity)) (listed e.inverses) i there (y, refl))),
          )

  -- the own ones
  first-told : (p a : Name) (k : DataType) → IsFirstType s p a k → (o : Option Derivation) × Tells a p k o
  first-told p a k (e, at, h) =
      let (c, o, stands) = stands-own e a k h in
      (o, (e, at-name p e at, c, own a, stands, (refl, (entity-name s p e at).1)))

  told-first : (e : Entity) (p a n : Name) (k : DataType) (c : Class) (o : Option Derivation) → IsEntityAt s e.name e
      → StandsIn e c (own n) k o → n ≡ a → e.name ≡ p → IsFirstType s p a k
  told-first e p a n k c o at h q r =
      (e, subst (λ m. IsEntityAt s m e) r at, subst (λ m. DeclaresAs m k e) q (own-stands e n k c o h))

  pub told-declares : (a p : Name) (k : DataType) (o : Option Derivation) → Tells a p k o → Declares s p a
  told-declares a p k o (e, at, c, own n, h, (q, r)) =
      let (x, there, d) = told-first e p a n k c o at h q r in (x, there, declares-name x a k d)
  told-declares a p k o (e, at, c, redeclared q n, h, (r, l)) = origin-declares (redeclared q n) p a r

  pub declares-told : (a p : Name) → Declares s p a → (k : DataType) × (o : Option Derivation) × Tells a p k o
  declares-told a p (e, at, m) =
      let (k, d) = name-declares e a m in
      let (o, t) = first-told p a k (e, at, d) in (k, o, t)

  redeclares-so : (e : Entity) (p a q n : Name) (k : DataType) (c : Class) (o : Option Derivation)
      → StandsIn e c (redeclared q n) k o → IsRedeclaration s (redeclared q n) p a → Lets c k p a → RedeclaresAs s p a k e
  redeclares-so e p a q n k classes.Explicit o (x, m, l, t, z) r shape =
      inl (one-of (λ (x : Explicit). OneOf (λ (y : Attribute). IsRedeclaration s y p a) x.attributes
      × (x.data_type ≡ k) × HasFirstShape s p a k) e.explicits x m
      (one-of (λ (y : Attribute). IsRedeclaration s y p a) x.attributes (redeclared q n) l r, t, shape))
  redeclares-so e p a q n k classes.Derived o (m, d, at, y, t, z) r shape =
      inr (one-of (λ (d : Derived). IsRedeclaration s d.attribute p a × (d.data_type ≡ k)) (listed e.derived) d
      (nth-among (listed e.derived) m d at) (subst (λ w. IsRedeclaration s w p a) (sym y) r, t))
  redeclares-so e p a q n k classes.Inverse o h r shape = absurd shape

  pub told-type : (a p : Name) (k : DataType) (o : Option Derivation) → Tells a p k o → MayHaveType s p a k
  told-type a p k o (e, at, c, own n, h, (q, r)) = inl (told-first e p a n k c o at h q r)
  told-type a p k o (e, at, c, redeclared q n, h, (r, l)) =
      inr (one-of (RedeclaresAs s p a k) (entities s) e (entity-name s e.name e at).0
      (redeclares-so e p a q n k c o h r l))

  -- a redeclaration stands as one
  told-again : (e : Entity) (p a : Name) (k : DataType) (c : Class) (o : Option Derivation) (y : Attribute)
      → IsEntityAt s e.name e → StandsIn e c y k o → IsRedeclaration s y p a → Lets c k p a → Tells a p k o
  told-again e p a k c o (own n) at h (q, is, more) l = absurd (cc)
  told-again e p a k c o (redeclared q n) at h r l = (e, at, c, redeclared q n, h, (r, l))

  redeclared-told : (e : Entity) (p a : Name) (k : DataType) → IsEntityAt s e.name e → RedeclaresAs s p a k e
      → (o : Option Derivation) × Tells a p k o
  redeclared-told e p a k at (inl h) =
      let (x, m, (some, t, shape)) = of-one (λ (x : Explicit). OneOf (λ (y : Attribute). IsRedeclaration s y p a) x.attributes
      × (x.data_type ≡ k) × HasFirstShape s p a k) e.explicits h in
      let (y, l, r) = of-one (λ (y : Attribute). IsRedeclaration s y p a) x.attributes some in
      (None, told-again e p a k classes.Explicit None y at (x, m, l, t, refl) r shape)
  redeclared-told e p a k at (inr h) =
      let (d, m, (r, t)) = of-one (λ (d : Derived). IsRedeclaration s d.attribute p a × (d.data_type ≡ k))
      (listed e.derived) h in
      let (n, nth) = among-nth (listed e.derived) d m in (
        Some (e.name, n),
        told-again e p a k classes.Derived (Some (e.name, n)) d.attribute at
            (n, d, nth, refl, t, refl) r tt,
      )

  pub type-told : ((e : Entity) → Among e (entities s) → IsEntityAt s e.name e) → (a p : Name) (k : DataType)
      → MayHaveType s p a k → (o : Option Derivation) × Tells a p k o
  type-told each a p k (inl h) = first-told p a k h
  type-told each a p k (inr h) =
      let (e, m, again) = of-one (RedeclaresAs s p a k) (entities s) h in redeclared-told e p a k (each e m) again

  -- what gives a value
  name-of : (x y : Name) (m n : ℕ) → ◌≡◌ {A = Option Derivation} (Some (x, m)) (Some (y, n)) → (x ≡ y) × (m ≡ n)
  name-of x y m n e = (ap name-or e, ap number-or e)
    where
      name-or : Option Derivation → Name
      name-or None = []
      name-or (Some d) = d.0

      number-or : Option Derivation → ℕ
      number-or None = 0
      number-or (Some d) = d.1

  value-of : (e : Entity) (c : Class) (y : Attribute) (k : DataType) (f : Name) (n : ℕ)
      → StandsIn e c y k (Some (f, n)) → (d : Derived) × IsNth (listed e.derived) n d × (d.attribute ≡ y) × (e.name ≡ f)
  value-of e classes.Explicit y k f n (x, m, l, t, z) = absurd (cc)
  value-of e classes.Derived y k f n (j, d, at, q, t, z) =
      let same = name-of f e.name n j z in
      (d, subst (λ i. IsNth (listed e.derived) i d) (sym same.1) at, q, sym same.0)
  value-of e classes.Inverse y k f n (i, m, q, t, z) = absurd (cc)

  derives-as : (y : Attribute) (e : Entity) (c : Class) (k : DataType) (a p : Name) → TellsOf c e.name k y a p
      → ((y ≡ own a) × (e.name ≡ p)) ⊎ IsRedeclaration s y p a
  derives-as (own n) e c k a p (q, r) = inl (ap own q, r)
  derives-as (redeclared q n) e c k a p (r, l) = inr r

  pub told-value : (a p : Name) (k : DataType) (d : Derivation) → Tells a p k (Some d) → Derives s p a d
  told-value a p k (f, n) (e, at, c, y, h, t) =
      let (d, nth, is, same) = value-of e c y k f n h in (
        d,
        (e, subst (λ m. IsEntityAt s m e) same at, nth),
        subst (λ m. ((d.attribute ≡ own a) × (m ≡ p)) ⊎ IsRedeclaration s d.attribute p a) same
            (derives-as d.attribute e c k a p (subst (λ w. TellsOf c e.name k w a p) (sym is) t)),
      )

  value-tells : (y : Attribute) (e : Name) (k : DataType) (a p : Name) → ((y ≡ own a) × (e ≡ p)) ⊎ IsRedeclaration s y p a
      → TellsOf classes.Derived e k y a p
  value-tells (own n) e k a p (inl (q, r)) = ((cc), r)
  value-tells (own n) e k a p (inr (q, is, more)) = absurd (cc)
  value-tells (redeclared q n) e k a p (inl (r, t)) = absurd (cc)
  value-tells (redeclared q n) e k a p (inr r) = (r, tt)

  pub value-told : (a p : Name) (d : Derivation) → Derives s p a d → (k : DataType) × Tells a p k (Some d)
  value-told a p (f, n) (d, (e, at, nth), h) =
      let same = (entity-name s f e at).1 in (
        d.data_type,
        (
          e,
          at-name f e at,
          classes.Derived,
          d.attribute,
          (n, d, nth, refl, refl, ap (λ (m : Name). Some (m, n)) (sym same)),
          value-tells d.attribute e.name d.data_type a p
              (subst (λ m. ((d.attribute ≡ own a) × (m ≡ p)) ⊎ IsRedeclaration s d.attribute p a) (sym same) h),
        ),
      )
