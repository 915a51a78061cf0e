-- The uses of declarations.
use Rattle.std.specs.Prelude.{◌≡◌, ℕ, ◌+◌, Bool, true, false, ◌||◌, List, [], ◌∷◌, ◌++◌, Some, map, flat_map, length, take, slice_get, eqb, nat_eq, cond, ◌⊎◌, ◌↔◌}
use Rattle.std.specs.List.{IsDistinct, AllByRecursion}
use Rattle.std.proofs.Common.{refl, inl, inr, ap, sym, subst, ◌∙◌, arith, zero, suc}
use Rattle.std.proofs.lemmas.Bool.Decides.{nat_tests}
use Rattle.std.proofs.lemmas.List.{length-append}
use Rattle.std.proofs.lemmas.List.Elements.{filter-append}
use Rattle.graphs.specs.Graphs.{Graph, has, next}
use Rattle.graphs.specs.Rounds.{added}
use Rattle.graphs.proofs.Found.{once-added}
use Rattle.graphs.proofs.Searching.{nothing}
use Rattle.express_syntax.specs.declared.tree.Declaration.{Declaration as Declared}
use Rattle.express_syntax.specs.declared.tree.Declaration.TheVariants as declared
use Rattle.express_syntax.specs.declared.tree.Entity.{Entity as DeclaredEntity}
use Rattle.express_syntax.specs.Views.{declaration_of}
use Rattle.express_syntax.specs.Schemas.{Schema, entity, Entity, Attribute, own, Explicit, DataType}
use Rattle.schema_semantics.specs.Names.{Name, Among, listed, own_names, explicit_names}
use Rattle.schema_semantics.specs.Faults.{IsResolved}
use Rattle.schema_semantics.specs.Attributes.{Place, IsRedeclaration, HasFirstShape, own_places}
use Rattle.schema_semantics.proofs.Lists.{every-at, among-either}
use Rattle.schema_names.proofs.Rows.{map-joined}
use Rattle.schema_names.specs.Numbers.{IsAt, AreNumberRowsOf}
use Rattle.schema_data_types.specs.NumberedTypes.{whole_types, all_data_types, explicit_types, derived_types, inverse_types, attribute_types}
use Rattle.schema_data_types.specs.ShapeTables.{IsKnown}
use Rattle.schema_data_types.specs.Laws.{DataTypesAreKnown}
use Rattle.schema_explicit_attributes.specs.Places.{all_places, ArePlaceRows}
use Rattle.schema_attributes.proofs.Rows.{in-first, in-second, number-at, at-map, at-among, row-of}
use Rattle.conformance.specs.Entities.{AreThose}
use Rattle.schema_underlying_types.specs.BaseViews.{or_integer, type_at}
use Rattle.schema_redeclarations.specs.declared.uses.AttributeUse.{AttributeUse}
use Rattle.schema_redeclarations.specs.Uses.{HasPlace, of_place, seen, said}
use Rattle.schema_redeclarations.specs.steps.Speaking.{ArePlacesOf, SpeakTogether, IsTypeAt, AreOwnAt, AreTypesAt, names_of, DeclaresBy, use_of, AreUsesOf, AreUsesIn, AddsUses}
use Rattle.schema_redeclarations.proofs.Those.{those-are-one, those-joined, those-of-one, one-of-two}
use Rattle.schema_redeclarations.proofs.OwnRows.{own-row}
use Rattle.schema_redeclarations.proofs.Placing.{places-once}

-- the uses of some places, by a place
neither : (a b : Bool) → (a || b) ≡ false → (a ≡ false) × (b ≡ false)
neither true b h = absurd (cc)
neither false b h = (refl, h)

of-absent : (t : ℕ) (o : Bool) (q : ℕ) (ms : List ℕ) → has ms q ≡ false → of_place q (map (use_of t o) ms) ≡ []
of-absent t o q [] h = refl
of-absent t o q (m ∷ ms) h =
    let both = neither (eqb q m) (has ms q) h in
    let rest = of_place q (map (use_of t o) ms) in
    ap (λ b. cond b (use_of t o m ∷ rest) rest) (other both.0) ∙ of-absent t o q ms both.1
  where
    other : eqb q m ≡ false → nat_eq m q ≡ false
    other e = grind (arith, nat_tests)

apart : (q : ℕ) (ms : List ℕ) → AllByRecursion (λ (z : ℕ). eqb q z ≡ false) ms → has ms q ≡ false
apart q [] h = refl
apart q (m ∷ ms) h = ap (λ b. b || has ms q) h.0 ∙ apart q ms h.1

of-one : (t : ℕ) (o : Bool) (q : ℕ) (ms : List ℕ) → IsDistinct eqb ms → has ms q ≡ true
    → of_place q (map (use_of t o) ms) ≡ use_of t o q ∷ []
unfolding IsDistinct
of-one t o q [] h k = absurd (cc)
of-one t o q (m ∷ ms) h k = by (eqb q m) refl k (of-one t o q ms h.1)
  where
    same : eqb q m ≡ true → nat_eq m q ≡ true
    same e = grind (arith, nat_tests)

    is : eqb q m ≡ true → m ≡ q
    is e = grind (arith, nat_tests)

    other : eqb q m ≡ false → nat_eq m q ≡ false
    other e = grind (arith, nat_tests)

    by : (b : Bool) → eqb q m ≡ b → (b || has ms q) ≡ true
        → (has ms q ≡ true → of_place q (map (use_of t o) ms) ≡ use_of t o q ∷ [])
        → of_place q (map (use_of t o) (m ∷ ms)) ≡ use_of t o q ∷ []
    by true e n more =
        let lacks = apart q ms (subst (λ x. AllByRecursion (λ (z : ℕ). eqb x z ≡ false) ms) (is e) h.0) in
        ap (λ b. cond b (use_of t o m ∷ of_place q (map (use_of t o) ms)) (of_place q (map (use_of t o) ms))) (same e)
        ∙ ap (λ us. use_of t o m ∷ us) (of-absent t o q ms lacks)
        ∙ ap (λ x. use_of t o x ∷ []) (is e)
    by false e n more =
        ap (λ b. cond b (use_of t o m ∷ of_place q (map (use_of t o) ms)) (of_place q (map (use_of t o) ms))) (other e)
        ∙ more n

among-used : (t : ℕ) (o : Bool) (ms : List ℕ) (u : AttributeUse) → Among u (map (use_of t o) ms) → u.data_type ≡ t
among-used t o [] u h = elim h [ ]
among-used t o (m ∷ ms) u (inl e) = sym (ap (λ (v : AttributeUse). v.data_type) e)
among-used t o (m ∷ ms) u (inr h) = among-used t o ms u h

module _ (s : Schema) where
  type-is : (k : DataType) (t : ℕ) → IsTypeAt s k t → type_at s t ≡ k
  type-is k t h = ap or_integer h.0

  declared-is : (n : Name) (x : Explicit) (p : Place)
      → DeclaresBy s n p x ↔ SpeakTogether s n x.data_type x.attributes p
  declared-is n x p =
      one-of-two (n ≡ p.0) (λ (y : Attribute). y ≡ own p.1) (λ (y : Attribute). IsRedeclaration s y p.0 p.1)
      (HasFirstShape s p.0 p.1 x.data_type) x.attributes

  -- one declaration
  pub uses-of-one : (n : Name) (x : Explicit) (t : ℕ) (ns : List ℕ) → IsTypeAt s x.data_type t
      → ArePlacesOf s (SpeakTogether s n x.data_type x.attributes) ns
      → AreUsesOf s n (x ∷ []) (map (use_of t x.optional) (added [] ns))
  uses-of-one n x t ns typed h = record {
    some = λ p. those-of-one (DeclaresBy s n p) x (decided p);
    told = λ p q at ys those. by p q at ys (decided p) those;
    known = λ u m. subst (λ k. IsKnown s (type_at s k)) (sym (among-used t x.optional ms u m))
        (subst (IsKnown s) (sym (type-is x.data_type t typed)) typed.1);
  }
    where
      ms : List ℕ
      ms = added [] ns

      once : ArePlacesOf s (SpeakTogether s n x.data_type x.attributes) (added [] ns)
      once = places-once s (SpeakTogether s n x.data_type x.attributes) ns h

      sort : (p : Place) → SpeakTogether s n x.data_type x.attributes p
          ⊎ (SpeakTogether s n x.data_type x.attributes p → ⊥) → DeclaresBy s n p x ⊎ (DeclaresBy s n p x → ⊥)
      sort p (inl k) = inl ((declared-is n x p).1 k)
      sort p (inr never) = inr (λ k. never ((declared-is n x p).0 k))

      decided : (p : Place) → DeclaresBy s n p x ⊎ (DeclaresBy s n p x → ⊥)
      decided p = sort p (h.decided p)

      is-false : (b : Bool) → (b ≡ true → ⊥) → b ≡ false
      is-false true never = absurd (never refl)
      is-false false never = refl

      by : (p : Place) (q : ℕ) → HasPlace s p q → (ys : List Explicit) → DeclaresBy s n p x ⊎ (DeclaresBy s n p x → ⊥)
          → AreThose (DeclaresBy s n p) (x ∷ []) ys
          → map (seen s) (of_place q (map (use_of t x.optional) (added [] ns))) ≡ map said ys
      by p q at ys (inl k) those =
          let has-it = (once.numbers p q at).1 ((declared-is n x p).0 k) in
          ap (map (seen s)) (of-one t x.optional q (added [] ns) (once-added [] ns nothing) has-it)
          ∙ (λ i. (type-is x.data_type t typed i, x.optional) ∷ [])
          ∙ ap (map said) (those-are-one (DeclaresBy s n p) (x ∷ []) (x ∷ []) ys (inl (k, [], refl, refl)) those)
      by p q at ys (inr never) those =
          let lacks = is-false (has (added [] ns) q) (λ e. never ((declared-is n x p).1 ((once.numbers p q at).0 e))) in
          ap (map (seen s)) (of-absent t x.optional q (added [] ns) lacks)
          ∙ ap (map said) (those-are-one (DeclaresBy s n p) (x ∷ []) [] ys (inr (never, refl)) those)

  -- several
  pub no-uses : (n : Name) → AreUsesOf s n [] []
  no-uses n = record {
    some = λ p. ([], refl);
    told = λ p q at ys those. ap (map said) (sym those);
    known = λ u m. elim m [ ];
  }

  pub uses-both : (n : Name) (xs ys : List Explicit) (us vs : List AttributeUse) → AreUsesOf s n xs us
      → AreUsesOf s n ys vs → AreUsesOf s n (xs ++ ys) (us ++ vs)
  uses-both n xs ys us vs h k = record {
    some = λ p. let (first-ones, first) = h.some p in
        let (second-ones, second) = k.some p in
        (first-ones ++ second-ones, those-joined (DeclaresBy s n p) xs ys first-ones second-ones first second);
    told = λ p q at zs those. let (first-ones, first) = h.some p in
        let (second-ones, second) = k.some p in
        ap (map (seen s)) (filter-append (λ (u : AttributeUse). nat_eq u.place q) us vs)
        ∙ map-joined (seen s) (of_place q us) (of_place q vs)
        ∙ ap (λ ws. ws ++ map (seen s) (of_place q vs)) (h.told p q at first-ones first)
        ∙ ap (λ ws. map said first-ones ++ ws) (k.told p q at second-ones second)
        ∙ sym (map-joined said first-ones second-ones)
        ∙ ap (map said) (those-are-one (DeclaresBy s n p) (xs ++ ys) (first-ones ++ second-ones) zs
        (those-joined (DeclaresBy s n p) xs ys first-ones second-ones first second) those);
    known = λ u m. by u (among-either u us vs m);
  }
    where
      by : (u : AttributeUse) → Among u us ⊎ Among u vs → IsKnown s (type_at s u.data_type)
      by u (inl m) = h.known u m
      by u (inr m) = k.known u m

  pub uses-more : (n : Name) (xs : List Explicit) (x : Explicit) (old new : List AttributeUse) → AreUsesOf s n xs old
      → AddsUses s n x old new → AreUsesOf s n (xs ++ x ∷ []) new
  uses-more n xs x old new h (us, is, k) =
      subst (AreUsesOf s n (xs ++ x ∷ [])) (sym is) (uses-both n xs (x ∷ []) old us h k)

-- what stands in lists that are joined in turn
pub flat-place : {A B : Type 0} (f : A → List B) (xs : List A) (m : ℕ) (x : A) (k : ℕ) (b : B) → slice_get xs m ≡ Some x
    → slice_get (f x) k ≡ Some b → slice_get (flat_map f xs) (length (flat_map f (take m xs)) + k) ≡ Some b
flat-place f [] m x k b h at = absurd (cc)
flat-place f (y ∷ xs) zero x k b h at =
    let same : y ≡ x = cc in
    let none : 0 + k ≡ k = omega arith in
    ap (slice_get (flat_map f (y ∷ xs))) none
    ∙ in-first (f y) (flat_map f xs) k b (ap (λ z. slice_get (f z) k) same ∙ at)
flat-place f (y ∷ xs) (suc m) x k b h at =
    ap (slice_get (f y ++ flat_map f xs)) (counted (length (f y)) (length (flat_map f (take m xs)))
    (length (f y ++ flat_map f (take m xs))) (length-append (f y) (flat_map f (take m xs))))
    ∙ in-second (f y) (flat_map f xs) (length (flat_map f (take m xs)) + k)
    ∙ flat-place f xs m x k b h at
  where
    counted : (i j l : ℕ) → l ≡ i + j → l + k ≡ i + (j + k)
    counted i j l e = omega (arith, e)

pub own-part : (s : Schema) (n : Name) (row : List ℕ) (first : ℕ) (xs : List Explicit) (m : ℕ) (x : Explicit)
    → AreOwnAt s n row 0 (names_of xs) → slice_get xs m ≡ Some x → first ≡ length (names_of (take m xs))
    → AreOwnAt s n row first (own_names x.attributes)
own-part s n row first xs m x h at e k a here =
    let (q, standing, placed) = h (length (names_of (take m xs)) + k) a
    (flat-place (λ (y : Explicit). own_names y.attributes) xs m x k a at here) in
    let same : first + k ≡ 0 + (length (names_of (take m xs)) + k) = omega (arith, e) in
    (q, ap (slice_get row) same ∙ standing, placed)

-- the rows of an entity
pub types-at : DataTypesAreKnown → (s : Schema) → IsResolved s → (rows : Graph)
    → AreNumberRowsOf whole_types (all_data_types s) s.declarations rows → (i : ℕ) (e : Entity) → IsAt s i (entity e)
    → AreTypesAt s (next rows i) e.explicits
types-at law s r rows h i e at m x here =
    let k = x.data_type in
    let as-type = at-map (λ (y : Explicit). y.data_type) e.explicits m x here in
    let first = explicit_types e.explicits in
    let second = derived_types (listed e.derived) in
    let last = inverse_types (listed e.inverses) in
    let (t, is, standing) = number-at (all_data_types s) (next rows i) (attribute_types e) m k (row-of s rows h i e at)
    (in-first (first ++ second) last m k (in-first first second m k as-type)) in
    let known = every-at (IsKnown s) k first ((law s r).1 e (at-among s.declarations i (entity e) at)).0
    (at-among first m k as-type) in
    (t, is, (standing, known))

pub own-at : (s : Schema) → IsResolved s → (rows : Graph) → ArePlaceRows (all_places s) s.declarations rows → (i : ℕ)
    (e : Entity) → IsAt s i (entity e) → AreOwnAt s e.name (next rows i) 0 (names_of e.explicits)
own-at s r rows are i e at k a here =
    let (t, is, standing) = number-at (all_places s) (next rows i) (own_places e) k (e.name, a)
    (own-row s r rows are i e at) (at-map (λ (n : Name). (e.name, n)) (explicit_names e) k a here) in
    let none : 0 + k ≡ k = omega arith in
    (t, ap (slice_get (next rows i)) none ∙ is, standing)

-- what is no entity has no uses
pub none-in : (s : Schema) (d : Declared) → ((e : DeclaredEntity) → d ≡ declared.Entity e → ⊥)
    → (us : List AttributeUse) → us ≡ [] → AreUsesIn s (declaration_of d) us
none-in s (declared.Type t) other us h = h
none-in s (declared.Entity e) other us h = absurd (other e refl)
none-in s (declared.Skipped p) other us h = h
