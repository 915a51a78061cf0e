-- The inverse attributes of a schema are told apart by their entities and their names.
use Rattle.std.specs.Prelude.{◌≡◌, ℕ, zero, suc, ◌+◌, cond, List, [], ◌∷◌, ◌++◌, map, flat_map, filter, Some, slice_get, ◌⊎◌}
use Rattle.std.proofs.Common.{refl, inl, inr, ap, sym, subst, ◌∙◌}
use Rattle.std.proofs.lemmas.List.{map-append}
use Rattle.express_syntax.specs.Schemas.{Schema, Declaration, type, entity, skipped, Entity, Attribute, own, redeclared, Inverse}
use Rattle.schema_semantics.specs.Names.{Name, Among, IsFirst, explicit_names, derived_names, inverse_names, attribute_names, own_names, entities_of, listed}
use Rattle.schema_semantics.specs.Faults.{IsResolved, Declared, declared, declared_from, in_scope, enumerated_items}
use Rattle.schema_semantics.specs.Attributes.{Place}
use Rattle.schema_semantics.specs.Ranks.{derived_name}
use Rattle.schema_semantics.proofs.Lists.{AreFresh, are-fresh, fresh-right, among-left, among-right, among-either, among-map}
use Rattle.schema_names.proofs.Items.{mapped-at}
use Rattle.schema_explicit_attributes.proofs.Distinct.{at-among}
use Rattle.conformance.specs.Bases.{Domain}
use Rattle.conformance.specs.Rules.{InverseAttribute, IsInverseAttribute, InTurn, declared_inverses, is_own}

-- nothing comes again
once-at : {A : Type 0} (xs : List A) → AreFresh xs → (a b : ℕ) (x : A) → slice_get xs a ≡ Some x
    → slice_get xs b ≡ Some x → a ≡ b
once-at [] h a b x e f = absurd (cc)
once-at (y ∷ xs) h zero zero x e f = refl
once-at (y ∷ xs) h zero (suc b) x e f =
    let same : y ≡ x = cc in absurd (h.0 (subst (λ z. Among z xs) (sym same) (at-among xs b x f)))
once-at (y ∷ xs) h (suc a) zero x e f =
    let same : y ≡ x = cc in absurd (h.0 (subst (λ z. Among z xs) (sym same) (at-among xs a x e)))
once-at (y ∷ xs) h (suc a) (suc b) x e f = ap suc (once-at xs h.1 a b x e f)

fresh-joined : {A : Type 0} (xs ys : List A) → AreFresh xs → AreFresh ys
    → ((x : A) → Among x xs → Among x ys → ⊥) → AreFresh (xs ++ ys)
fresh-joined [] ys h k apart = k
fresh-joined {A} (x ∷ xs) ys h k apart =
    ((λ m. by (among-either x xs ys m)), fresh-joined xs ys h.1 k (λ z m n. apart z (inr m) n))
  where
    by : Among x xs ⊎ Among x ys → ⊥
    by (inl m) = h.0 m
    by (inr m) = apart x (inl refl) m

-- an entity and the name of an inverse attribute that it declares
abbrev pairs : Name → List Name → List Place
pairs e ns = map (λ (n : Name). (e, n)) ns

abbrev pairs_in : Declaration → List Place
pairs_in (type t) = []
pairs_in (entity e) = pairs e.name (inverse_names e)
pairs_in (skipped p) = []

of-pairs : (e : Name) (ns : List Name) (p : Place) → Among p (pairs e ns) → (e ≡ p.0) × Among p.1 ns
of-pairs e [] p h = elim h [ ]
of-pairs e (n ∷ ns) p (inl h) = (ap (λ (q : Place). q.0) h, inl (ap (λ (q : Place). q.1) h))
of-pairs e (n ∷ ns) p (inr h) = let (same, m) = of-pairs e ns p h in (same, inr m)

fresh-pairs : (e : Name) (ns : List Name) → AreFresh ns → AreFresh (pairs e ns)
fresh-pairs e [] h = tt
fresh-pairs e (n ∷ ns) h = ((λ m. h.0 (of-pairs e ns (e, n) m).1), fresh-pairs e ns h.1)

-- the names of the inverse attributes of an entity, by what it declares
fresh-unmapped : {A B : Type 0} (f : A → B) (xs : List A) → AreFresh (map f xs) → AreFresh xs
fresh-unmapped f [] h = tt
fresh-unmapped f (x ∷ xs) h = ((λ m. h.0 (among-map f x xs m)), fresh-unmapped f xs h.1)

fresh-left : {A : Type 0} (xs ys : List A) → AreFresh (xs ++ ys) → AreFresh xs
fresh-left [] ys h = tt
fresh-left (x ∷ xs) ys h = ((λ m. h.0 (among-left x xs ys m)), fresh-left xs ys h.1)

own-fresh : (k : ℕ) (e : Entity) → AreFresh (in_scope k (attribute_names e)) → AreFresh (pairs e.name (inverse_names e))
own-fresh k e h =
    fresh-pairs e.name (inverse_names e)
    (fresh-right (explicit_names e ++ derived_names e) (inverse_names e)
    (fresh-unmapped (λ (m : Name). (k, m)) (attribute_names e) h))

abbrev in_schema : Name → Declared
in_schema n = (0, n)

-- the entity of each is declared
later : (k : ℕ) (ds : List Declaration) (p : Place) → Among p (flat_map pairs_in ds)
    → Among (in_schema p.0) (declared_from k ds)
later k [] p h = elim h [ ]
later k (type t ∷ ds) p h =
    inr (among-right (0, p.0) (in_scope k (enumerated_items t.underlying)) (declared_from (k + 1) ds) (later (k + 1) ds p h))
later k (entity e ∷ ds) p h =
    by (among-either p (pairs e.name (inverse_names e)) (flat_map pairs_in ds) h) (later (k + 1) ds p)
  where
    by : Among p (pairs e.name (inverse_names e)) ⊎ Among p (flat_map pairs_in ds)
        → (Among p (flat_map pairs_in ds) → Among (in_schema p.0) (declared_from (k + 1) ds))
        → Among (in_schema p.0) (declared_from k (entity e ∷ ds))
    by (inl m) more = inl (ap in_schema (of-pairs e.name (inverse_names e) p m).0)
    by (inr m) more = inr (among-right (0, p.0) (in_scope k (attribute_names e)) (declared_from (k + 1) ds) (more m))
later k (skipped q ∷ ds) p h = later (k + 1) ds p h

all-fresh : (k : ℕ) (ds : List Declaration) → AreFresh (declared_from k ds) → AreFresh (flat_map pairs_in ds)
all-fresh k [] h = tt
all-fresh k (type t ∷ ds) h =
    all-fresh (k + 1) ds (fresh-right (in_scope k (enumerated_items t.underlying)) (declared_from (k + 1) ds) h.1)
all-fresh k (entity e ∷ ds) h =
    fresh-joined (pairs e.name (inverse_names e)) (flat_map pairs_in ds)
    (own-fresh k e (fresh-left (in_scope k (attribute_names e)) (declared_from (k + 1) ds) h.1))
    (all-fresh (k + 1) ds (fresh-right (in_scope k (attribute_names e)) (declared_from (k + 1) ds) h.1))
    (λ p m n. h.0 (among-right (in_schema e.name) (in_scope k (attribute_names e)) (declared_from (k + 1) ds)
    (subst (λ n. Among (in_schema n) (declared_from (k + 1) ds))
    (sym (of-pairs e.name (inverse_names e) p m).0) (later (k + 1) ds p n))))
all-fresh k (skipped q ∷ ds) h = all-fresh (k + 1) ds h

-- what is declared
abbrev named : Name × Inverse → Place
named x = (x.0, derived_name x.1.attribute)

named-own : (n : Name) (xs : List Inverse)
    → map named (map (λ (i : Inverse). (n, i)) (filter (λ (i : Inverse). is_own i.attribute) xs))
    ≡ pairs n (own_names (map (λ (i : Inverse). i.attribute) xs))
named-own n [] = refl
named-own n (x ∷ xs) = by x.attribute refl (named-own n xs)
  where
    by : (t : Attribute) → x.attribute ≡ t
        → map named (map (λ (i : Inverse). (n, i)) (filter (λ (i : Inverse). is_own i.attribute) xs))
        ≡ pairs n (own_names (map (λ (i : Inverse). i.attribute) xs))
        → map named (map (λ (i : Inverse). (n, i)) (cond (is_own x.attribute)
        (x ∷ filter (λ (i : Inverse). is_own i.attribute) xs) (filter (λ (i : Inverse). is_own i.attribute) xs)))
        ≡ pairs n (own_names (x.attribute ∷ map (λ (i : Inverse). i.attribute) xs))
    by (own a) is more =
        ap (λ b. map named (map (λ (i : Inverse). (n, i)) (cond (is_own b)
        (x ∷ filter (λ (i : Inverse). is_own i.attribute) xs) (filter (λ (i : Inverse). is_own i.attribute) xs)))) is
        ∙ ap (λ ps. (n, derived_name x.attribute) ∷ ps) more
        ∙ ap (λ b. (n, derived_name b) ∷ pairs n (own_names (map (λ (i : Inverse). i.attribute) xs))) is
        ∙ sym (ap (λ b. pairs n (own_names (b ∷ map (λ (i : Inverse). i.attribute) xs))) is)
    by (redeclared q a) is more =
        ap (λ b. map named (map (λ (i : Inverse). (n, i)) (cond (is_own b)
        (x ∷ filter (λ (i : Inverse). is_own i.attribute) xs) (filter (λ (i : Inverse). is_own i.attribute) xs)))) is
        ∙ more ∙ sym (ap (λ b. pairs n (own_names (b ∷ map (λ (i : Inverse). i.attribute) xs))) is)

abbrev inverses_by : Entity → List (Name × Inverse)
inverses_by e = map (λ (i : Inverse). (e.name, i)) (filter (λ (i : Inverse). is_own i.attribute) (listed e.inverses))

named-all : (ds : List Declaration) → map named (flat_map inverses_by (entities_of ds)) ≡ flat_map pairs_in ds
named-all [] = refl
named-all (type t ∷ ds) = named-all ds
named-all (entity e ∷ ds) =
    map-append named (inverses_by e) (flat_map inverses_by (entities_of ds))
    ∙ ap (λ ps. ps ++ map named (flat_map inverses_by (entities_of ds))) (named-own e.name (listed e.inverses))
    ∙ ap (λ ps. pairs e.name (inverse_names e) ++ ps) (named-all ds)
named-all (skipped p ∷ ds) = named-all ds

-- the entity and the name of an inverse attribute
abbrev shown : InverseAttribute → Place
shown i = (i.entity, i.name)

module _ (s : Schema) (d : Domain) where
  shown-named : (xs : List (Name × Inverse)) (is : List InverseAttribute) → InTurn (IsInverseAttribute s d) xs is
      → map shown is ≡ map named xs
  shown-named [] [] h = refl
  shown-named [] (i ∷ is) h = absurd h
  shown-named (x ∷ xs) [] h = absurd h
  shown-named (x ∷ xs) (i ∷ is) h =
      let here : shown i ≡ named x = λ j. (h.0.entity j, sym (ap derived_name h.0.name) j) in
      ap (λ p. p ∷ map shown is) here ∙ ap (λ ps. named x ∷ ps) (shown-named xs is h.1)

  -- so no two are of one entity and one name
  pub one-inverse : IsResolved s → (is : List InverseAttribute) → InTurn (IsInverseAttribute s d) (declared_inverses s) is
      → (m n : ℕ) (x y : InverseAttribute) → slice_get is m ≡ Some x → slice_get is n ≡ Some y → x.entity ≡ y.entity
      → x.name ≡ y.name → m ≡ n
  one-inverse r is h m n x y at there e named_so =
      let same : shown x ≡ shown y = λ j. (e j, named_so j) in
      once-at (map shown is)
      (subst AreFresh (sym (shown-named (declared_inverses s) is h ∙ named-all s.declarations))
      (all-fresh 1 s.declarations (are-fresh (declared s) r.once)))
      m n (shown y) (mapped-at shown is m x at ∙ ap Some same) (mapped-at shown is n y there)

-- where one alone passes, it is the first
pub first-alone : {A : Type 0} (P : A → Type 0) (xs : List A) (n : ℕ) (x : A) → slice_get xs n ≡ Some x → P x
    → ((m : ℕ) (y : A) → slice_get xs m ≡ Some y → P y → m ≡ n) → IsFirst P xs x
first-alone P [] n x at p alone = absurd (cc)
first-alone P (y ∷ ys) zero x at p alone =
    let same : y ≡ x = cc in inl (subst P (sym same) p, same)
first-alone P (y ∷ ys) (suc n) x at p alone =
    inr ((λ q. none (alone 0 y refl q)), first-alone P ys n x at p (λ m z there q. less m (alone (suc m) z there q)))
  where
    none : 0 ≡ suc n → ⊥
    none e = absurd (cc)

    less : (m : ℕ) → suc m ≡ suc n → m ≡ n
    less m e = cc
