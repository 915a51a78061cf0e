-- Which derived attributes give an attribute its value.
use Rattle.std.specs.Prelude.{◌≡◌, ℕ, Bool, true, cond, [], Option, None, Some, bytes_eq, eqb, is_some, slice_get, ◌⊎◌}
use Rattle.std.specs.List.{find, position_from}
use Rattle.std.proofs.Common.{refl, inl, inr, ap, sym, subst, ◌∙◌, arith}
use Rattle.std.proofs.lemmas.Bool.Decides.{nat_tests}
use Rattle.std.proofs.lemmas.Slice.Eq.{bytes_eq-Decides}
use Rattle.graphs.specs.Graphs.{Graph, next}
use Rattle.express_syntax.specs.Schemas.{Schema, Declaration, type, entity, skipped, Entity, Attribute, own, redeclared, Derived}
use Rattle.schema_semantics.specs.Names.{Name, IsFirst, IsEntity, IsEntityAt, Declares, listed}
use Rattle.schema_semantics.specs.Faults.{IsResolved}
use Rattle.schema_semantics.specs.Attributes.{IsOrigin, IsRedeclaration, IsNth, IsDerivation, Derives}
use Rattle.schema_semantics.proofs.Lists.{first-is-one}
use Rattle.schema_semantics.proofs.Recursion.{make_line, solutions-are-one}
use Rattle.schema_names.specs.Numbers.{number_of, HasNumber}
use Rattle.schema_names.proofs.Numbers.{stands-at, what-stands, each-number, one-name}
use Rattle.schema_explicit_attributes.specs.declared.own_attributes.Meant.TheVariants.{All}
use Rattle.schema_explicit_attributes.specs.steps.Owned.{declares_at}
use Rattle.schema_explicit_attributes.specs.SupertypeLines.{HaveLines}
use Rattle.schema_explicit_attributes.proofs.Nearest.{nearest-is}
use Rattle.conformance.specs.Attributes.{DerivesIt, DerivesFirst}
use Rattle.schema_attribute_sources.specs.steps.Deriving.{is_some_entity, line_in, is_number, deriveds_of, deriveds_at, is_origin, gives, first_giving, derives}
use Rattle.schema_attribute_sources.proofs.Members.{differ, both, both-so, one-number}
use Rattle.schema_attribute_sources.proofs.Positions.{placed, unplaced}

-- an attribute is declared by one entity first
origin-is-one : (s : Schema) → IsResolved s → (q a x y : Name) → IsOrigin s q a x → IsOrigin s q a y → y ≡ x
origin-is-one s r q a x y (ent, line, h, f) (_, other, g, k) =
    first-is-one (λ (n : Name). Declares s n a) (line q) y x
    (subst (λ xs. IsFirst (λ (n : Name). Declares s n a) xs y) (solutions-are-one s r make_line other line g h q ent)
    k) f

one-entity : (x y : Entity) → Some (entity x) ≡ Some (entity y) → x ≡ y
one-entity x y e = cc

own-is : (n a : Name) → own n ≡ own a → n ≡ a
own-is n a e = cc

redeclared-is : (q m n a : Name) → redeclared q n ≡ redeclared m a → (q ≡ m) × (n ≡ a)
redeclared-is q m n a e = (cc, cc)

not-redeclared : (n q a : Name) → own n ≡ redeclared q a → ⊥
not-redeclared n q a e = cc

same-bytes : (n a : Name) → n ≡ a → bytes_eq n a ≡ true
same-bytes n a e = (bytes_eq-Decides n a).1 e

same-number : (i j : ℕ) → i ≡ j → eqb i j ≡ true
same-number i j e = grind (arith, nat_tests)

number-same : (i j : ℕ) → eqb i j ≡ true → i ≡ j
number-same i j e = grind (arith, nat_tests)

module _ (s : Schema) (r : IsResolved s) (lines : Graph) (h : HaveLines s lines) (a : Name) (p : ℕ) (P : Name)
    (here : HasNumber s P p) where
  -- what is declared first by the entity that is asked for
  first-forth : (q : Name) (i : ℕ) → HasNumber s q i → IsEntity s q → (o : Option ℕ)
      → o ≡ find (declares_at s All a) (next lines i) → is_number p o ≡ true → IsOrigin s q a P
  first-forth q i k ent None is t = absurd (cc)
  first-forth q i k ent (Some j) is t =
      let (x, l, near) = nearest-is s All a lines h q i ent k (Some j) is in
      subst (IsOrigin s q a) (one-name s x P p (subst (HasNumber s x) (number-same j p t) l) here) near

  first-back : (q : Name) (i : ℕ) → HasNumber s q i → IsEntity s q → (o : Option ℕ)
      → o ≡ find (declares_at s All a) (next lines i) → IsOrigin s q a P → is_number p o ≡ true
  first-back q i k ent None is from = absurd (nearest-is s All a lines h q i ent k None is P from)
  first-back q i k ent (Some j) is from =
      let (x, l, near) = nearest-is s All a lines h q i ent k (Some j) is in
      same-number j p (one-number (number_of s) x P j p l here (origin-is-one s r q a P x from near))

  origin-forth : (q : Name) → is_origin s lines a p q ≡ true → IsOrigin s q a P
  origin-forth q t = number (number_of s q) refl t
    where
      at : (i : ℕ) → HasNumber s q i → (o : Option Declaration) → slice_get s.declarations i ≡ o
          → is_number p (find (declares_at s All a) (cond (is_some_entity o) (next lines i) [])) ≡ true
          → IsOrigin s q a P
      at i k None here t = absurd (cc)
      at i k (Some (type x)) here t = absurd (cc)
      at i k (Some (entity x)) here t =
          first-forth q i k (x, stands-at s q i k ∙ here) (find (declares_at s All a) (next lines i)) refl t
      at i k (Some (skipped x)) here t = absurd (cc)

      number : (o : Option ℕ) → number_of s q ≡ o
          → is_number p (find (declares_at s All a) (line_in s lines o)) ≡ true → IsOrigin s q a P
      number None k t = absurd (cc)
      number (Some i) k t = at i k (slice_get s.declarations i) refl t

  origin-back : (q : Name) → IsOrigin s q a P → is_origin s lines a p q ≡ true
  origin-back q from =
      let (x, at) = from.0 in
      let (i, k) = each-number 0 s.declarations q (entity x) at in
      subst (λ o. is_number p (find (declares_at s All a) (line_in s lines o)) ≡ true) (sym k)
      (subst (λ d. is_number p (find (declares_at s All a) (cond (is_some_entity d) (next lines i) [])) ≡ true)
      (sym at ∙ stands-at s q i k)
      (first-back q i k from.0 (find (declares_at s All a) (next lines i)) refl from))

  -- what stands so in DERIVE of the entity E gives it its value
  abbrev GivesIt : Name → Attribute → Type 0
  GivesIt E x = ((x ≡ own a) × (E ≡ P)) ⊎ IsRedeclaration s x P a

  gives-forth : (e : ℕ) (E : Name) → HasNumber s E e → (x : Attribute) → gives s lines a p e x ≡ true → GivesIt E x
  gives-forth e E k (own n) t =
      let (named, same) = both (bytes_eq n a) (eqb e p) t in
      inl (
        ap own ((bytes_eq-Decides n a).0 named),
        one-name s E P p (subst (HasNumber s E) (number-same e p same) k) here,
      )
  gives-forth e E k (redeclared q n) t =
      let (named, from) = both (bytes_eq n a) (is_origin s lines a p q) t in
      inr (q, ap (redeclared q) ((bytes_eq-Decides n a).0 named), origin-forth q from)

  gives-back : (e : ℕ) (E : Name) → HasNumber s E e → (x : Attribute) → GivesIt E x → gives s lines a p e x ≡ true
  gives-back e E k (own n) (inl (is, same)) =
      both-so (bytes_eq n a) (eqb e p) (same-bytes n a (own-is n a is))
      (same-number e p (one-number (number_of s) E P e p k here same))
  gives-back e E k (own n) (inr (q, is, from)) = absurd (not-redeclared n q a is)
  gives-back e E k (redeclared q n) (inl (is, same)) = absurd (not-redeclared a q n (sym is))
  gives-back e E k (redeclared q n) (inr (m, is, from)) =
      let (holder, named) = redeclared-is q m n a is in
      both-so (bytes_eq n a) (is_origin s lines a p q) (same-bytes n a named)
      (origin-back q (subst (λ x. IsOrigin s x a P) (sym holder) from))

  -- the derived attributes of the entity of a number
  module _ (e : ℕ) (E : Name) (k : HasNumber s E e) where
    test : Derived → Bool
    test = λ (d : Derived). gives s lines a p e d.attribute

    listed-at : (x : Entity) → IsEntityAt s E x → deriveds_at s e ≡ listed x.derived
    listed-at x at = ap deriveds_of (sym (stands-at s E e k) ∙ at)

    derives-at : (x : Entity) → IsEntityAt s E x → (n : ℕ) (d : Derived) → IsNth (listed x.derived) n d
        → test d ≡ true → Derives s P a (E, n)
    unfolding test
    derives-at x at n d nth t = (d, (x, at, nth), gives-forth e E k d.attribute t)

    gives-at : (x : Entity) → IsEntityAt s E x → (n : ℕ) → Derives s P a (E, n)
        → (d : Derived) × IsNth (listed x.derived) n d × (test d ≡ true)
    unfolding test
    gives-at x at n (d, (y, there, nth), g) = (
      d,
      subst (λ (z : Entity). IsNth (listed z.derived) n d) (one-entity y x (sym there ∙ at)) nth,
      gives-back e E k d.attribute g,
    )

    first-at : (x : Entity) → IsEntityAt s E x → (n : ℕ) → position_from test 0 (listed x.derived) ≡ Some n
        → DerivesFirst s P a (E, n) × ((d : Derived) × IsDerivation s (E, n) d)
    first-at x at n f =
        let (i, counted, d, nth, passes, before) = placed test 0 (listed x.derived) n f in
        let same : i ≡ n = omega (arith, counted) in
        let first : DerivesFirst s P a (E, i) = (
          derives-at x at i d nth passes,
          λ m lt g.
              let (y, there, t) = gives-at x at m g in
              differ (test y) t (before m y lt there),
        ) in
        let some : (y : Derived) × IsDerivation s (E, i) y = (d, (x, at, nth)) in
        subst (λ m. DerivesFirst s P a (E, m) × ((y : Derived) × IsDerivation s (E, m) y)) same (first, some)

    pub derives-first : (n : ℕ) → first_giving s lines a p e ≡ Some n
        → DerivesFirst s P a (E, n) × ((d : Derived) × IsDerivation s (E, n) d)
    unfolding test
    derives-first n f =
        let (d, at, named) = what-stands s E e k in by d at f
      where
        none : deriveds_at s e ≡ [] → first_giving s lines a p e ≡ Some n → ⊥
        none is f =
            let no : position_from test 0 [] ≡ Some n = ap (position_from test 0) (sym is) ∙ f in absurd (cc)

        by : (d : Declaration) → slice_get s.declarations e ≡ Some d → first_giving s lines a p e ≡ Some n
            → DerivesFirst s P a (E, n) × ((d : Derived) × IsDerivation s (E, n) d)
        by (type x) at f = absurd (none (ap deriveds_of at) f)
        by (entity x) at f =
            let there : IsEntityAt s E x = stands-at s E e k ∙ at in
            first-at x there n (ap (position_from test 0) (sym (listed-at x there)) ∙ f)
        by (skipped x) at f = absurd (none (ap deriveds_of at) f)

    pub derives-none : first_giving s lines a p e ≡ None → DerivesIt s P a E → ⊥
    unfolding test
    derives-none f (n, (d, (x, at, nth), g)) =
        let (y, there, t) = gives-at x at n (d, (x, at, nth), g) in
        let fails = unplaced test 0 (listed x.derived) (ap (position_from test 0) (sym (listed-at x at)) ∙ f) n y there in
        differ (test y) t fails

    pub derives-forth : derives s lines a p e ≡ true → DerivesIt s P a E
    derives-forth t = by (first_giving s lines a p e) refl t
      where
        by : (o : Option ℕ) → first_giving s lines a p e ≡ o → is_some o ≡ true → DerivesIt s P a E
        by None f t = absurd (cc)
        by (Some n) f t = (n, (derives-first n f).0.0)

    pub derives-back : DerivesIt s P a E → derives s lines a p e ≡ true
    derives-back it = by (first_giving s lines a p e) refl
      where
        by : (o : Option ℕ) → first_giving s lines a p e ≡ o → is_some o ≡ true
        by None f = absurd (derives-none f it)
        by (Some n) f = refl
