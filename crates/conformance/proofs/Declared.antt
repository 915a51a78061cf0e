-- The data types of an attribute, by the entity that declares it and by those that redeclare it, are all alike.
use Rattle.std.specs.Prelude.{◌≡◌, ℕ, ◌+◌, List, [], ◌∷◌, ◌++◌, map, flat_map, Some, ◌⊎◌}
use Rattle.std.proofs.Common.{refl, sym, ◌∙◌, ap, subst, inl, inr}
use Rattle.express_syntax.specs.Schemas.{Schema, Declaration, type, entity, skipped, Entity, Attribute, own, redeclared, Explicit, Derived, Inverse, DataType}
use Rattle.schema_semantics.specs.Names.{Name, OneOf, Among, listed, entities, entities_of, own_names, explicit_names, derived_names, inverse_names, attribute_names, IsEntityAt}
use Rattle.schema_semantics.specs.Faults.{IsResolved, declared, declared_from, in_scope, enumerated_items}
use Rattle.schema_semantics.specs.Shapes.{AreAlikeTypes}
use Rattle.schema_semantics.specs.Attributes.{collected, DeclaresAs, IsFirstType}
use Rattle.schema_semantics.proofs.Lists.{AreFresh, are-fresh, fresh-right, among-left, among-right, among-map, from-map, from-flat}
use Rattle.schema_semantics.proofs.Supertypes.{found, stands, entity-name}
use Rattle.conformance.specs.Bases.{Domain, base, IsDomain}
use Rattle.conformance.specs.ParameterFits.{entity_names}
use Rattle.conformance.specs.Entities.{Entities, AreThose, DeclaresSo, AreEntities, declarations_by, data_types}
use Rattle.conformance.proofs.ValueForms.{Like, IsLike, like_same, like_back, like_through}
use Rattle.conformance.proofs.Alike.{alike_are_like}

fresh_left : {A : Type 0} (xs ys : List A) → AreFresh (xs ++ ys) → AreFresh xs
fresh_left [] ys h = tt
fresh_left (x ∷ xs) ys h = ((λ m. h.0 (among-left x xs ys m)), fresh_left xs ys h.1)

fresh_before : {A B : Type 0} (f : A → B) (xs : List A) → AreFresh (map f xs) → AreFresh xs
fresh_before f [] h = tt
fresh_before f (x ∷ xs) h = ((λ m. h.0 (among-map f x xs m)), fresh_before f xs h.1)

apart : {A : Type 0} (x : A) (xs ys : List A) → AreFresh (xs ++ ys) → Among x xs → Among x ys → ⊥
apart x [] ys h m n = m
apart x (y ∷ xs) ys h (inl e) n = h.0 (subst (λ z. Among z (xs ++ ys)) (sym e) (among-right x xs ys n))
apart x (y ∷ xs) ys h (inr m) n = apart x xs ys h.1 m n

-- an entity declares each attribute once, where the names are resolved
fresh_in : (k : ℕ) (ds : List Declaration) (e : Entity) → AreFresh (declared_from k ds) → Among (entity e) ds
    → AreFresh (attribute_names e)
fresh_in k [] e f m = elim m [ ]
fresh_in k (type t ∷ ds) e f (inl h) = absurd (cc)
fresh_in k (type t ∷ ds) e f (inr m) =
    fresh_in (k + 1) ds e (fresh-right (in_scope k (enumerated_items t.underlying)) (declared_from (k + 1) ds) f.1) m
fresh_in k (entity x ∷ ds) e f (inl h) =
    let same : x ≡ e = cc in
    subst (λ y. AreFresh (attribute_names y)) same
    (fresh_before (λ (m : Name). (k, m)) (attribute_names x)
    (fresh_left (in_scope k (attribute_names x)) (declared_from (k + 1) ds) f.1))
fresh_in k (entity x ∷ ds) e f (inr m) =
    fresh_in (k + 1) ds e (fresh-right (in_scope k (attribute_names x)) (declared_from (k + 1) ds) f.1) m
fresh_in k (skipped p ∷ ds) e f (inl h) = absurd (cc)
fresh_in k (skipped p ∷ ds) e f (inr m) = fresh_in (k + 1) ds e f m

-- one of a list has the name, and this data type
module _ {A : Type 0} (names : A → List Name) (kind : A → DataType) (a : Name) where
  abbrev Says : DataType → List A → Type 0
  Says k xs = OneOf (λ x. Among a (names x) × (kind x ≡ k)) xs

  said_name : (k : DataType) (xs : List A) → Says k xs → Among a (flat_map names xs)
  said_name k [] h = elim h [ ]
  said_name k (x ∷ xs) (inl h) = among-left a (names x) (flat_map names xs) h.0
  said_name k (x ∷ xs) (inr h) = among-right a (names x) (flat_map names xs) (said_name k xs h)

  said_once : (k l : DataType) (xs : List A) → AreFresh (flat_map names xs) → Says k xs → Says l xs → k ≡ l
  said_once k l [] f h g = elim h [ ]
  said_once k l (x ∷ xs) f (inl h) (inl g) = sym h.1 ∙ g.1
  said_once k l (x ∷ xs) f (inl h) (inr g) =
      absurd (apart a (names x) (flat_map names xs) f h.0 (said_name l xs g))
  said_once k l (x ∷ xs) f (inr h) (inl g) =
      absurd (apart a (names x) (flat_map names xs) f g.0 (said_name k xs h))
  said_once k l (x ∷ xs) f (inr h) (inr g) =
      said_once k l xs (fresh-right (names x) (flat_map names xs) f) h g

own_among : (xs : List Attribute) (a : Name) → Among (own a) xs → Among a (own_names xs)
own_among [] a h = elim h [ ]
own_among (own n ∷ xs) a (inl h) = inl (cc)
own_among (own n ∷ xs) a (inr h) = inr (own_among xs a h)
own_among (redeclared q n ∷ xs) a (inl h) = absurd (cc)
own_among (redeclared q n ∷ xs) a (inr h) = own_among xs a h

-- one name at most
abbrev own_name : {A : Type 0} → (A → Attribute) → A → List Name
own_name attribute x = own_names (attribute x ∷ [])

own_names_flat : {A : Type 0} (attribute : A → Attribute) (xs : List A)
    → own_names (map attribute xs) ≡ flat_map (own_name attribute) xs
own_names_flat attribute [] = refl
own_names_flat attribute (x ∷ xs) = by (attribute x) (own_names_flat attribute xs)
  where
    by : (y : Attribute) → own_names (map attribute xs) ≡ flat_map (own_name attribute) xs
        → own_names (y ∷ map attribute xs) ≡ own_names (y ∷ []) ++ flat_map (own_name attribute) xs
    by (own n) same = ap (λ ns. n ∷ ns) same
    by (redeclared q n) same = same

one_of_other : {A : Type 0} {P Q : A → Type 0} → ((x : A) → P x → Q x) → (xs : List A) → OneOf P xs → OneOf Q xs
one_of_other f [] h = elim h [ ]
one_of_other f (x ∷ xs) (inl h) = inl (f x h)
one_of_other f (x ∷ xs) (inr h) = inr (one_of_other f xs h)

pub one_is : {A : Type 0} (P : A → Type 0) (x : A) (xs : List A) → Among x xs → P x → OneOf P xs
one_is P x [] m h = elim m [ ]
one_is P x (y ∷ ys) (inl e) h = inl (subst P (sym e) h)
one_is P x (y ∷ ys) (inr m) h = inr (one_is P x ys m h)

module _ (e : Entity) (a : Name) where
  explicit_says : (k : DataType) → OneOf (λ (x : Explicit). Among (own a) x.attributes × (x.data_type ≡ k)) e.explicits
      → Says (λ (x : Explicit). own_names x.attributes) (λ (x : Explicit). x.data_type) a k e.explicits
  explicit_says k h = one_of_other (λ x g. (own_among x.attributes a g.0, g.1)) e.explicits h

  derived_says : (k : DataType)
      → OneOf (λ (x : Derived). (x.attribute ≡ own a) × (x.data_type ≡ k)) (listed e.derived)
      → Says (own_name (λ (x : Derived). x.attribute)) (λ (x : Derived). x.data_type) a k (listed e.derived)
  derived_says k h =
      one_of_other (λ x g. (own_among (x.attribute ∷ []) a (inl g.0), g.1)) (listed e.derived) h

  inverse_says : (k : DataType)
      → OneOf (λ (x : Inverse). (x.attribute ≡ own a) × (collected x.collection x.entity ≡ k)) (listed e.inverses)
      → Says (own_name (λ (x : Inverse). x.attribute)) (λ (x : Inverse). collected x.collection x.entity) a k
      (listed e.inverses)
  inverse_says k h =
      one_of_other (λ x g. (own_among (x.attribute ∷ []) a (inl g.0), g.1)) (listed e.inverses) h

  derived_flat : derived_names e ≡ flat_map (own_name (λ (x : Derived). x.attribute)) (listed e.derived)
  derived_flat = own_names_flat (λ (x : Derived). x.attribute) (listed e.derived)

  inverse_flat : inverse_names e ≡ flat_map (own_name (λ (x : Inverse). x.attribute)) (listed e.inverses)
  inverse_flat = own_names_flat (λ (x : Inverse). x.attribute) (listed e.inverses)

  explicit_named : (k : DataType) → OneOf (λ (x : Explicit). Among (own a) x.attributes × (x.data_type ≡ k)) e.explicits
      → Among a (explicit_names e)
  explicit_named k h =
      said_name (λ (x : Explicit). own_names x.attributes) (λ (x : Explicit). x.data_type) a k e.explicits
      (explicit_says k h)

  derived_named : (k : DataType)
      → OneOf (λ (x : Derived). (x.attribute ≡ own a) × (x.data_type ≡ k)) (listed e.derived)
      → Among a (derived_names e)
  derived_named k h =
      subst (Among a) (sym derived_flat) (said_name (own_name (λ (x : Derived). x.attribute))
      (λ (x : Derived). x.data_type) a k (listed e.derived) (derived_says k h))

  inverse_named : (k : DataType)
      → OneOf (λ (x : Inverse). (x.attribute ≡ own a) × (collected x.collection x.entity ≡ k)) (listed e.inverses)
      → Among a (inverse_names e)
  inverse_named k h =
      subst (Among a) (sym inverse_flat) (said_name (own_name (λ (x : Inverse). x.attribute))
      (λ (x : Inverse). collected x.collection x.entity) a k (listed e.inverses) (inverse_says k h))

  module _ (fresh : AreFresh (attribute_names e)) where
    front : AreFresh (explicit_names e ++ derived_names e)
    front = fresh_left (explicit_names e ++ derived_names e) (inverse_names e) fresh

    declared_once : (k l : DataType) → DeclaresAs a k e → DeclaresAs a l e → k ≡ l
    declared_once k l (inl h) (inl g) =
        said_once (λ (x : Explicit). own_names x.attributes) (λ (x : Explicit). x.data_type) a k l e.explicits
        (fresh_left (explicit_names e) (derived_names e) front) (explicit_says k h) (explicit_says l g)
    declared_once k l (inl h) (inr (inl g)) =
        absurd (apart a (explicit_names e) (derived_names e) front (explicit_named k h) (derived_named l g))
    declared_once k l (inl h) (inr (inr g)) =
        absurd (apart a (explicit_names e ++ derived_names e) (inverse_names e) fresh
        (among-left a (explicit_names e) (derived_names e) (explicit_named k h)) (inverse_named l g))
    declared_once k l (inr (inl h)) (inl g) =
        absurd (apart a (explicit_names e) (derived_names e) front (explicit_named l g) (derived_named k h))
    declared_once k l (inr (inl h)) (inr (inl g)) =
        said_once (own_name (λ (x : Derived). x.attribute)) (λ (x : Derived). x.data_type) a k l (listed e.derived)
        (subst AreFresh derived_flat (fresh-right (explicit_names e) (derived_names e) front))
        (derived_says k h) (derived_says l g)
    declared_once k l (inr (inl h)) (inr (inr g)) =
        absurd (apart a (explicit_names e ++ derived_names e) (inverse_names e) fresh
        (among-right a (explicit_names e) (derived_names e) (derived_named k h)) (inverse_named l g))
    declared_once k l (inr (inr h)) (inl g) =
        absurd (apart a (explicit_names e ++ derived_names e) (inverse_names e) fresh
        (among-left a (explicit_names e) (derived_names e) (explicit_named l g)) (inverse_named k h))
    declared_once k l (inr (inr h)) (inr (inl g)) =
        absurd (apart a (explicit_names e ++ derived_names e) (inverse_names e) fresh
        (among-right a (explicit_names e) (derived_names e) (derived_named l g)) (inverse_named k h))
    declared_once k l (inr (inr h)) (inr (inr g)) =
        said_once (own_name (λ (x : Inverse). x.attribute)) (λ (x : Inverse). collected x.collection x.entity) a k l
        (listed e.inverses)
        (subst AreFresh inverse_flat (fresh-right (explicit_names e ++ derived_names e) (inverse_names e) fresh))
        (inverse_says k h) (inverse_says l g)

entity_declared : (ds : List Declaration) (e : Entity) → Among e (entities_of ds) → Among (entity e) ds
entity_declared [] e h = elim h [ ]
entity_declared (type t ∷ ds) e h = inr (entity_declared ds e h)
entity_declared (entity x ∷ ds) e (inl h) = inl (ap entity h)
entity_declared (entity x ∷ ds) e (inr h) = inr (entity_declared ds e h)
entity_declared (skipped p ∷ ds) e h = inr (entity_declared ds e h)

module _ (s : Schema) (r : IsResolved s) where
  all_fresh : AreFresh (declared s)
  all_fresh = are-fresh (declared s) r.once

  -- the entity of a name
  pub entity_at : (n : Name) → Among n (entity_names s) → (e : Entity) × IsEntityAt s n e
  entity_at n h =
      let from = from-map (λ (e : Entity). e.name) (entities s) n h in (
        from.0,
        subst (λ m. IsEntityAt s m from.0) from.2
            (stands 1 s.declarations (entity from.0) from.0.name all_fresh
            (entity_declared s.declarations from.0 from.1) refl),
      )

  one_entity : (x y : Entity) → Some (entity x) ≡ Some (entity y) → x ≡ y
  one_entity x y h = cc

  one_first : (p a : Name) (k l : DataType) → IsFirstType s p a k → IsFirstType s p a l → k ≡ l
  one_first p a k l (e, at, h) (f, here, g) =
      declared_once e a (fresh_in 1 s.declarations e all_fresh (found s.declarations p (entity e) at).0) k l h
      (subst (DeclaresAs a l) (one_entity f e (sym here ∙ at)) g)

  -- a declaration has the data type of the first one, or one alike
  abbrev IsOfPlace : Name → Name → DataType → Type 0
  IsOfPlace p a k = (first : DataType) × IsFirstType s p a first × ((first ≡ k) ⊎ AreAlikeTypes s first k)

  of_place : (n p a : Name) (e : Entity) (x : Explicit) → IsEntityAt s n e → e.name ≡ n → Among x e.explicits
      → DeclaresSo s e (p, a) x → IsOfPlace p a x.data_type
  of_place n p a e x at named m (inl (same, h)) = (
    x.data_type,
    (
      e,
      subst (λ q. IsEntityAt s q e) (sym named ∙ same) at,
      inl (one_is (λ (y : Explicit). Among (own a) y.attributes × (y.data_type ≡ x.data_type)) x e.explicits m
          (h, refl)),
    ),
    inl refl,
  )
  of_place n p a e x at named m (inr (h, first)) = (first.0, first.1, inr first.2)

  those : {A : Type 0} (P : A → Type 0) (xs ys : List A) → AreThose P xs ys → (y : A) → Among y ys → P y × Among y xs
  those P [] ys h y m = elim (subst (Among y) h m) [ ]
  those P (x ∷ xs) ys (inl h) y m = by (subst (Among y) h.2 m) (those P xs h.1 h.3 y)
    where
      by : Among y (x ∷ h.1) → (Among y h.1 → P y × Among y xs) → P y × Among y (x ∷ xs)
      by (inl e) more = (subst P e h.0, inl e)
      by (inr n) more = let rest = more n in (rest.0, inr rest.1)
  those P (x ∷ xs) ys (inr h) y m = let rest = those P xs ys h.1 y m in (rest.0, inr rest.1)

  module _ (d : Domain) (is : IsDomain s d) (en : Entities) (are : AreEntities s en) (types : List Name)
      (known : (n : Name) → Among n types → Among n (entity_names s)) (p a : Name) where
    typed : (k : DataType) → Among k (data_types s en types (p, a)) → IsOfPlace p a k
    typed k m =
        let named = from-map (λ (x : Explicit). x.data_type) (declarations_by s en types (p, a)) k m in
        let by = from-flat (λ (n : Name). en.declarations n (p, a)) named.0 types named.1 in
        let at = entity_at by.0 (known by.0 by.1) in
        let said = those (DeclaresSo s at.0 (p, a)) at.0.explicits (en.declarations by.0 (p, a))
        (are.declarations by.0 at.0 at.1 (p, a)) named.0 by.2 in
        subst (IsOfPlace p a) named.2
        (of_place by.0 p a at.0 named.0 at.1 (entity-name s by.0 at.0 at.1).1 said.1 said.0)

    like_first : (k first : DataType) → (first ≡ k) ⊎ AreAlikeTypes s first k → IsLike s d (base d first) (base d k)
    like_first k first (inl e) n = subst (λ l. Like s d n (base d first) (base d l)) e (like_same s d n (base d first))
    like_first k first (inr h) n = alike_are_like s d is first k h n

    pub all_like : (k l : DataType) → Among k (data_types s en types (p, a)) → Among l (data_types s en types (p, a))
        → IsLike s d (base d k) (base d l)
    all_like k l h g n =
        let one = typed k h in
        let two = typed l g in
        let same : two.0 ≡ one.0 = one_first p a two.0 one.0 two.1 one.1 in
        like_through s d n (base d k) (base d one.0) (base d l)
        (like_back s d n (base d one.0) (base d k) (like_first k one.0 one.2 n))
        (subst (λ f. Like s d n (base d f) (base d l)) same (like_first l two.0 two.2 n))
