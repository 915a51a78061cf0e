-- What is gathered is what declarations say.
use Rattle.std.specs.Prelude.{◌≡◌, ℕ, ◌+◌, suc, List, [], ◌∷◌, ◌++◌, Option, None, Some, flat_map, take, length, slice_get, ◌⊎◌, ◌↔◌}
use Rattle.std.proofs.Common.{refl, inl, inr, ap, sym, subst, ◌∙◌, arith, zero}
use Rattle.std.proofs.lemmas.List.{length-map, length-append}
use Rattle.graphs.specs.Graphs.{Graph, next}
use Rattle.step_literals.specs.declared.literal.Word.{Word}
use Rattle.express_syntax.specs.ExpressionViews.{capitals}
use Rattle.express_syntax.specs.Schemas.{Schema, type, entity, skipped, Entity, Attribute, own, redeclared, Explicit, Derived, Inverse, DataType}
use Rattle.schema_semantics.specs.Names.{Name, OneOf, Among, listed, entities, IsEntityAt, Declares}
use Rattle.schema_semantics.specs.Faults.{IsResolved}
use Rattle.schema_semantics.specs.Attributes.{collected, HasFirstShape, MayHaveType, Derivation, IsNth, Derives}
use Rattle.schema_names.specs.Numbers.{HasNumber, IsAt, AreNumberRowsOf}
use Rattle.schema_names.proofs.Numbers.{stands-at, each-number, one-name}
use Rattle.schema_semantics.proofs.Recursion.{declared-entity}
use Rattle.schema_explicit_attributes.proofs.OwnNumbers.{own-number-of}
use Rattle.schema_data_types.specs.NumberedTypes.{whole_types, all_data_types, explicit_types, derived_types, inverse_types, attribute_types}
use Rattle.schema_attributes.specs.declared.attributes.Attributes.{Attributes}
use Rattle.schema_attributes.specs.declared.declaration.AttributeDeclaration.{AttributeDeclaration}
use Rattle.schema_attributes.specs.declared.attribute_collection.Class.{Class}
use Rattle.schema_attributes.specs.declared.attribute_collection.Class.TheVariants as classes
use Rattle.schema_attributes.specs.Derivations.{derivations_from, derivations_in, all_derivations, HasDerivation}
use Rattle.schema_attributes.specs.steps.Declarations.{IsDeclaredBy, GivesType, GivesValue, AreDeclarations, found}
use Rattle.schema_attributes.specs.steps.Gathering.{AddsAll, Holds, Allows, Says, SaysEntity, SaysSchema}
use Rattle.schema_attributes.proofs.Rows.{number-at, in-first, in-second, at-map, at-among, among-at, row-of}
use Rattle.schema_attributes.proofs.ByName.{found-held}
use Rattle.schema_attributes.proofs.Telling.{one-of, of-one, Lets, TellsOf, StandsIn, Tells, origin-declares, told-declares, declares-told, told-type, type-told, told-value, value-told}

-- by number in a list
nth-at : {A : Type 0} (xs : List A) (n : ℕ) (x : A) → IsNth xs n x → slice_get xs n ≡ Some x
nth-at [] n x h = elim h [ ]
nth-at (y ∷ xs) zero x h = ap Some h
nth-at (y ∷ xs) (suc n) x h = nth-at xs n x h

at-nth : {A : Type 0} (xs : List A) (n : ℕ) (x : A) → slice_get xs n ≡ Some x → IsNth xs n x
at-nth [] n x h = absurd (cc)
at-nth (y ∷ xs) zero x h = cc
at-nth (y ∷ xs) (suc n) x h = at-nth xs n x h

some-one : {A : Type 0} (x y : A) → Some x ≡ Some y → x ≡ y
some-one x y e = cc

-- what a flattened list has from one of its lists on
in-flat : {A B : Type 0} (f : A → List B) (xs : List A) (i : ℕ) (x : A) (n : ℕ) (b : B) → slice_get xs i ≡ Some x
    → slice_get (f x) n ≡ Some b → slice_get (flat_map f xs) (length (flat_map f (take i xs)) + n) ≡ Some b
in-flat f [] i x n b h k = absurd (cc)
in-flat f (y ∷ xs) zero x n b h k =
    let same : y ≡ x = cc in
    ap (slice_get (f y ++ flat_map f xs)) none
    ∙ in-first (f y) (flat_map f xs) n b (ap (λ z. slice_get (f z) n) same ∙ k)
  where
    none : 0 + n ≡ n
    none = omega arith
in-flat f (y ∷ xs) (suc i) x n b h k =
    ap (slice_get (f y ++ flat_map f xs)) (ap (λ m. m + n) (length-append (f y) (flat_map f (take i xs))) ∙ sums)
    ∙ in-second (f y) (flat_map f xs) (length (flat_map f (take i xs)) + n) ∙ in-flat f xs i x n b h k
  where
    joined : (p q r : ℕ) → p + q + r ≡ p + (q + r)
    joined p q r = omega arith

    sums : length (f y) + length (flat_map f (take i xs)) + n ≡ length (f y) + (length (flat_map f (take i xs)) + n)
    sums = joined (length (f y)) (length (flat_map f (take i xs))) n

derivation-at : (e : Name) (m : ℕ) (ds : List Derived) (n : ℕ) (d : Derived) → slice_get ds n ≡ Some d
    → slice_get (derivations_from e m ds) n ≡ Some (e, m + n)
derivation-at e m [] n d h = absurd (cc)
derivation-at e m (x ∷ ds) zero d h = ap (λ (k : ℕ). Some (e, k)) none
  where
    none : m ≡ m + 0
    none = omega arith
derivation-at e m (x ∷ ds) (suc n) d h = derivation-at e (m + 1) ds n d h ∙ ap (λ (k : ℕ). Some (e, k)) sums
  where
    sums : m + 1 + n ≡ m + suc n
    sums = omega arith

-- the derivation of a value
abbrev pub IsValue : Schema → Option ℕ → Option Derivation → Type 0
IsValue s None None = Unit {0}
IsValue s None (Some d) = ⊥
IsValue s (Some j) None = ⊥
IsValue s (Some j) (Some d) = HasDerivation s j d

module _ (s : Schema) (r : IsResolved s) (law : (i : ℕ) (e : Entity) → IsAt s i (entity e) → HasNumber s e.name i)
    (rows : Graph) (h : AreNumberRowsOf whole_types (all_data_types s) s.declarations rows) where
  -- x says it by number
  abbrev pub Shows : AttributeDeclaration → Name → DataType → Option Derivation → Type 0
  Shows x p k o = HasNumber s p x.entity × (slice_get (all_data_types s) x.data_type ≡ Some k) × IsValue s x.derivation o

  abbrev IsShown : Name → AttributeDeclaration → Type 0
  IsShown a x = (p : Name) × (k : DataType) × (o : Option Derivation) × Shows x p k o × Tells s a p k o

  lets-forth : (c : Class) (t : ℕ) (k : DataType) (p a : Name) → slice_get (all_data_types s) t ≡ Some k
      → Allows s c t p a → Lets s c k p a
  lets-forth classes.Explicit t k p a at (l, there, shape) =
      subst (HasFirstShape s p a) (some-one l k (sym there ∙ at)) shape
  lets-forth classes.Derived t k p a at l = tt
  lets-forth classes.Inverse t k p a at l = l

  lets-back : (c : Class) (t : ℕ) (k : DataType) (p a : Name) → slice_get (all_data_types s) t ≡ Some k
      → Lets s c k p a → Allows s c t p a
  lets-back classes.Explicit t k p a at shape = (k, at, shape)
  lets-back classes.Derived t k p a at l = tt
  lets-back classes.Inverse t k p a at l = l

  -- an attribute of an entity
  module _ (i : ℕ) (e : Entity) (at : IsAt s i (entity e)) (c : Class) (k : DataType) (t : ℕ)
      (there : slice_get (all_data_types s) t ≡ Some k) (j : Option ℕ) (o : Option Derivation) (value : IsValue s j o)
    where
      here : IsEntityAt s e.name e
      here = stands-at s e.name i (law i e at) ∙ at

      said : AttributeDeclaration
      said = record { entity = i; data_type = t; derivation = j }

      forth-one : (y : Attribute) (a : Name) (x : AttributeDeclaration) → StandsIn s e c y k o
          → Says s c (record { entity = i; data_type = t; derivation = j }) y a x → IsShown a x
      forth-one (own n) a x stands (q, is) = (
        e.name,
        k,
        o,
        subst (λ z. Shows z e.name k o) is (law i e at, there, value),
        (e, here, c, own n, stands, (q, refl)),
      )
      forth-one (redeclared q n) a x stands (p, m, number, again, allowed, is) = (
        p,
        k,
        o,
        subst (λ z. Shows z p k o) is (number, there, value),
        (e, here, c, redeclared q n, stands, (again, lets-forth c t k p a there allowed)),
      )

      back-one : (y : Attribute) (a p : Name) → TellsOf s c e.name k y a p → (x : AttributeDeclaration) × Shows x p k o
          × Says s c (record { entity = i; data_type = t; derivation = j }) y a x
      back-one (own n) a p (q, same) = (
        record { entity = i; data_type = t; derivation = j },
        (subst (λ m. HasNumber s m i) same (law i e at), there, value),
        (q, refl),
      )
      back-one (redeclared q n) a p (again, l) =
          let (f, stands, m) = origin-declares s (redeclared q n) p a again in
          let (u, number) = each-number 0 s.declarations p (entity f) stands in (
            record { entity = u; data_type = t; derivation = j },
            (number, there, value),
            (p, u, number, again, lets-back c t k p a there l, refl),
          )

  -- where the data types of an entity stand in its row
  module _ (i : ℕ) (e : Entity) (at : IsAt s i (entity e)) where
    explicit-at : (n : ℕ) (x : Explicit) → slice_get e.explicits n ≡ Some x → (t : ℕ)
        × (slice_get (next rows i) n ≡ Some t) × (slice_get (all_data_types s) t ≡ Some x.data_type)
    explicit-at n x g =
        number-at (all_data_types s) (next rows i) (attribute_types e) n x.data_type (row-of s rows h i e at)
        (in-first (explicit_types e.explicits ++ derived_types (listed e.derived)) (inverse_types (listed e.inverses)) n
        x.data_type (in-first (explicit_types e.explicits) (derived_types (listed e.derived)) n x.data_type
        (at-map (λ (y : Explicit). y.data_type) e.explicits n x g)))

    derived-at : (n : ℕ) (d : Derived) → slice_get (listed e.derived) n ≡ Some d → (t : ℕ)
        × (slice_get (next rows i) (length e.explicits + n) ≡ Some t)
        × (slice_get (all_data_types s) t ≡ Some d.data_type)
    derived-at n d g =
        number-at (all_data_types s) (next rows i) (attribute_types e) (length e.explicits + n) d.data_type
        (row-of s rows h i e at)
        (in-first (explicit_types e.explicits ++ derived_types (listed e.derived)) (inverse_types (listed e.inverses))
        (length e.explicits + n) d.data_type
        (ap (λ m. slice_get (explicit_types e.explicits ++ derived_types (listed e.derived)) (m + n))
        (sym (length-map e.explicits (λ (y : Explicit). y.data_type)))
        ∙ in-second (explicit_types e.explicits) (derived_types (listed e.derived)) n
        ∙ at-map (λ (y : Derived). y.data_type) (listed e.derived) n d g))

    inverse-at : (n : ℕ) (d : Inverse) → slice_get (listed e.inverses) n ≡ Some d → (t : ℕ)
        × (slice_get (next rows i) (length e.explicits + length (listed e.derived) + n) ≡ Some t)
        × (slice_get (all_data_types s) t ≡ Some (collected d.collection d.entity))
    inverse-at n d g =
        number-at (all_data_types s) (next rows i) (attribute_types e)
        (length e.explicits + length (listed e.derived) + n) (collected d.collection d.entity) (row-of s rows h i e at)
        (ap (λ m. slice_get (attribute_types e) (m + n)) (sym many)
        ∙ in-second (explicit_types e.explicits ++ derived_types (listed e.derived)) (inverse_types (listed e.inverses)) n
        ∙ at-map (λ (y : Inverse). collected y.collection y.entity) (listed e.inverses) n d g)
      where
        many : length (explicit_types e.explicits ++ derived_types (listed e.derived))
            ≡ length e.explicits + length (listed e.derived)
        many =
            length-append (explicit_types e.explicits) (derived_types (listed e.derived))
            ∙ ap (λ m. m + length (derived_types (listed e.derived))) (length-map e.explicits (λ (y : Explicit).
            y.data_type))
            ∙ ap (λ m. length e.explicits + m) (length-map (listed e.derived) (λ (y : Derived). y.data_type))

    count : ℕ
    count = length (flat_map derivations_in (take i s.declarations))

    value-at : (n : ℕ) (d : Derived) → slice_get (listed e.derived) n ≡ Some d
        → HasDerivation s (length (flat_map derivations_in (take i s.declarations)) + n) (e.name, n)
    value-at n d g =
        in-flat derivations_in s.declarations i (entity e) n (e.name, n) at
        (derivation-at e.name 0 (listed e.derived) n d g ∙ ap (λ (k : ℕ). Some (e.name, k)) none)
      where
        none : 0 + n ≡ n
        none = omega arith

    entity-forth : (a : Name) (x : AttributeDeclaration)
        → SaysEntity s i (next rows i) (length (flat_map derivations_in (take i s.declarations))) e a x → IsShown a x
    entity-forth a x (inl (inl (n, f, g, (t, row, (m, y, l, says))))) =
        let (u, is, there) = explicit-at n f g in
        let same = some-one u t (sym is ∙ row) in
        forth-one i e at classes.Explicit f.data_type t
        (subst (λ v. slice_get (all_data_types s) v ≡ Some f.data_type) same there) None None tt y a x
        (f, at-among e.explicits n f g, at-among f.attributes m y l, refl, refl) says
    entity-forth a x (inl (inr (n, d, g, (t, row, says)))) =
        let (u, is, there) = derived-at n d g in
        let same = some-one u t (sym is ∙ row) in
        forth-one i e at classes.Derived d.data_type t
        (subst (λ v. slice_get (all_data_types s) v ≡ Some d.data_type) same there)
        (Some (length (flat_map derivations_in (take i s.declarations)) + n)) (Some (e.name, n)) (value-at n d g)
        d.attribute a x (n, d, at-nth (listed e.derived) n d g, refl, refl, refl) says
    entity-forth a x (inr (n, d, g, (t, row, says))) =
        let (u, is, there) = inverse-at n d g in
        let same = some-one u t (sym is ∙ row) in
        forth-one i e at classes.Inverse (collected d.collection d.entity) t
        (subst (λ v. slice_get (all_data_types s) v ≡ Some (collected d.collection d.entity)) same there) None None tt
        d.attribute a x (d, at-among (listed e.inverses) n d g, refl, refl, refl) says

    entity-back : (c : Class) (y : Attribute) (a p : Name) (k : DataType) (o : Option Derivation) → StandsIn s e c y k o
        → TellsOf s c e.name k y a p → (x : AttributeDeclaration) × Shows x p k o
        × SaysEntity s i (next rows i) (length (flat_map derivations_in (take i s.declarations))) e a x
    entity-back classes.Explicit y a p k o (f, m, l, kind, none) tells =
        let (n, g) = among-at e.explicits f m in
        let (v, w) = among-at f.attributes y l in
        let (t, row, there) = explicit-at n f g in
        let (x, shows, says) = back-one i e at classes.Explicit k t (there ∙ ap Some kind) None None tt y a p tells in
        (x, subst (Shows x p k) (sym none) shows, inl (inl (n, f, g, (t, row, (v, y, w, says)))))
    entity-back classes.Derived y a p k o (n, d, nth, is, kind, value) tells =
        let g = nth-at (listed e.derived) n d nth in
        let (t, row, there) = derived-at n d g in
        let (x, shows, says) = back-one i e at classes.Derived k t (there ∙ ap Some kind)
        (Some (length (flat_map derivations_in (take i s.declarations)) + n)) (Some (e.name, n)) (value-at n d g)
        d.attribute a p (subst (λ z. TellsOf s classes.Derived e.name k z a p) (sym is) tells) in
        (x, subst (Shows x p k) (sym value) shows, inl (inr (n, d, g, (t, row, says))))
    entity-back classes.Inverse y a p k o (d, m, is, kind, none) tells =
        let (n, g) = among-at (listed e.inverses) d m in
        let (t, row, there) = inverse-at n d g in
        let (x, shows, says) = back-one i e at classes.Inverse k t (there ∙ ap Some kind) None None tt d.attribute a p
        (subst (λ z. TellsOf s classes.Inverse e.name k z a p) (sym is) tells) in
        (x, subst (Shows x p k) (sym none) shows, inr (n, d, g, (t, row, says)))

  schema-forth : (a : Name) (x : AttributeDeclaration) → SaysSchema s rows a x → IsShown a x
  schema-forth a x (i, type t, at, says) = absurd says
  schema-forth a x (i, entity e, at, says) = entity-forth i e at a x says
  schema-forth a x (i, skipped p, at, says) = absurd says

  schema-back : (a p : Name) (k : DataType) (o : Option Derivation) → Tells s a p k o → (x : AttributeDeclaration)
      × Shows x p k o × SaysSchema s rows a x
  schema-back a p k o (e, here, c, y, stands, tells) =
      let (i, number) = each-number 0 s.declarations e.name (entity e) here in
      let at = sym (stands-at s e.name i number) ∙ here in
      let (x, shows, says) = entity-back i e at c y a p k o stands tells in
      (x, shows, (i, entity e, at, says))

  -- those that are gathered
  module _ (each : (e : Entity) → Among e (entities s) → IsEntityAt s e.name e) (a : Name)
      (xs : List AttributeDeclaration) (is : (x : AttributeDeclaration) → Among x xs ↔ SaysSchema s rows a x) where
    shown : (x : AttributeDeclaration) → Among x xs → IsShown a x
    shown x m = schema-forth a x ((is x).0 m)

    shows-one : (P : AttributeDeclaration → Type 0) (p : Name) (k : DataType) (o : Option Derivation)
        → Tells s a p k o → ((x : AttributeDeclaration) → Shows x p k o → P x) → OneOf P xs
    shows-one P p k o told f =
        let (x, shows, says) = schema-back a p k o told in one-of P xs x ((is x).1 says) (f x shows)

    typed-forth : (p : Name) (k : DataType) → OneOf (λ (x : AttributeDeclaration). IsDeclaredBy s p x × GivesType s k x)
        xs → MayHaveType s p a k
    typed-forth p k some =
        let (x, m, (by, gives)) = of-one (λ (x : AttributeDeclaration). IsDeclaredBy s p x × GivesType s k x) xs some in
        let (q, l, o, (number, there, value), told) = shown x m in
        let same = one-name s q p x.entity number by in
        subst (λ n. MayHaveType s n a k) same
        (subst (MayHaveType s q a) (some-one l k (sym there ∙ gives)) (told-type s a q l o told))

    declared-forth : (p : Name) → OneOf (IsDeclaredBy s p) xs → Declares s p a
    declared-forth p some =
        let (x, m, by) = of-one (IsDeclaredBy s p) xs some in
        let (q, l, o, (number, there, value), told) = shown x m in
        subst (λ n. Declares s n a) (one-name s q p x.entity number by) (told-declares s a q l o told)

    value-is : (j : Option ℕ) (n : ℕ) (o : Option Derivation) (d : Derivation) → IsValue s j o → j ≡ Some n
        → HasDerivation s n d → o ≡ Some d
    value-is None n o d v e g = absurd (cc)
    value-is (Some m) n None d v e g = absurd v
    value-is (Some m) n (Some b) d v e g =
        ap Some (some-one b d (sym v ∙ ap (slice_get (all_derivations s)) (some-one m n e) ∙ g))

    derived-forth : (p : Name) (d : Derivation) → OneOf (λ (x : AttributeDeclaration). IsDeclaredBy s p x
        × GivesValue s d x) xs → Derives s p a d
    derived-forth p d some =
        let (x, m, (by, (n, e, g))) = of-one (λ (x : AttributeDeclaration). IsDeclaredBy s p x × GivesValue s d x) xs
        some in
        let (q, l, o, (number, there, value), told) = shown x m in
        subst (λ n. Derives s n a d) (one-name s q p x.entity number by)
        (told-value s a q l d (subst (λ v. Tells s a q l v) (value-is x.derivation n o d value e g) told))

    gives-value : (x : AttributeDeclaration) (j : Option ℕ) (d : Derivation) → x.derivation ≡ j → IsValue s j (Some d)
        → GivesValue s d x
    gives-value x None d e v = absurd v
    gives-value x (Some j) d e v = (j, e, v)

    pub are-declarations : AreDeclarations s a xs
    are-declarations = record {
      within = λ x m.
          let (p, k, o, (number, there, value), told) = shown x m in
          let (e, at, among) = told-declares s a p k o told in (p, k, (e, at), number, there);
      declared = λ p. (
        declared-forth p,
        (λ g. let (k, o, told) = declares-told s a p g in
            shows-one (IsDeclaredBy s p) p k o told (λ x (number, there, value). number)),
      );
      typed = λ p k. (
        typed-forth p k,
        (λ g. let (o, told) = type-told s each a p k g in
            shows-one (λ (x : AttributeDeclaration). IsDeclaredBy s p x × GivesType s k x) p k o told
            (λ x (number, there, value). (number, there))),
      );
      derived = λ p d. (
        derived-forth p d,
        (λ g. let (k, told) = value-told s a p d g in
            shows-one (λ (x : AttributeDeclaration). IsDeclaredBy s p x × GivesValue s d x) p k (Some d) told
            (λ x (number, there, value). (number, gives-value x x.derivation d refl value))),
      );
    }

-- an entity has the number at which it stands
own-number : (s : Schema) → IsResolved s → (i : ℕ) (e : Entity) → IsAt s i (entity e) → HasNumber s e.name i
own-number s r i e at = own-number-of s i (entity e) e.name r.once at refl

entity-stands : (s : Schema) → IsResolved s → (e : Entity) → Among e (entities s) → IsEntityAt s e.name e
entity-stands s r e m =
    let (i, at) = among-at s.declarations (entity e) (declared-entity s.declarations e m) in
    stands-at s e.name i (own-number s r i e at) ∙ at

-- what is found of what is gathered
pub found-are : (s : Schema) → IsResolved s → (rows : Graph)
    → AreNumberRowsOf whole_types (all_data_types s) s.declarations rows → (old new : Attributes)
    → ((w : Word) → found old w ≡ []) → AddsAll old (SaysSchema s rows) new → (w : Word)
    → AreDeclarations s (capitals w) (found new w)
found-are s r rows h old new none adds w =
    are-declarations s r (own-number s r) rows h (entity-stands s r) (capitals w) (found new w)
    (λ x. (
      (λ m. which x ((adds (capitals w) x).0 ((found-held new w x).0 m))),
      (λ says. (found-held new w x).1 ((adds (capitals w) x).1 (inr says))),
    ))
  where
    which : (x : AttributeDeclaration) → Holds old (capitals w) x ⊎ SaysSchema s rows (capitals w) x
        → SaysSchema s rows (capitals w) x
    which x (inl (v, e, m)) = elim (subst (Among x) (none v) m) [ ]
    which x (inr says) = says
