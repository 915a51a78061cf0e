-- The entities that declare what an attribute in a UNIQUE rule names, by number.
use Rattle.std.specs.Prelude.{◌≡◌, ◌≢◌, ℕ, Bool, true, false, not, ◌||◌, ◌⊎◌, ◌↔◌, IsTrue, eqb, List, [], ◌∷◌, Option, None, Some, map}
use Rattle.std.specs.List.{list_any, filter}
use Rattle.std.proofs.Common.{refl, inl, inr, ap, sym, subst, ◌∙◌}
use Rattle.graphs.specs.Graphs.{Graph, has, next}
use Rattle.graphs.proofs.Searching.{either, left-holds}
use Rattle.express_syntax.specs.ExpressionViews.{capitals}
use Rattle.express_syntax.specs.declared.tree.Attribute.{Attribute as Written}
use Rattle.express_syntax.specs.declared.tree.Attribute.TheVariants as attributes
use Rattle.express_syntax.specs.Clauses.{name_of}
use Rattle.express_syntax.specs.Views.{attribute_of}
use Rattle.express_syntax.specs.Schemas.{Schema, entity, Attribute, own, redeclared}
use Rattle.schema_semantics.specs.Names.{Name, Among, OneOf, IsKindOf, IsEntity, IsSubtypeOf, IsBelow, Has, Declares, DeclaresExplicit}
use Rattle.schema_semantics.specs.Faults.{IsResolved}
use Rattle.schema_semantics.specs.Sets.{MayTake, of_entity}
use Rattle.schema_semantics.specs.Ranks.{derived_name}
use Rattle.schema_semantics.specs.Parts.{NamesAttribute, NamesOther, NamesNotOne}
use Rattle.schema_semantics.proofs.Lists.{last-step}
use Rattle.schema_semantics.proofs.Recursion.{supertype-is-entity}
use Rattle.schema_names.specs.Numbers.{number_of, HasNumber}
use Rattle.schema_names.proofs.Numbers.{one-name, each-number}
use Rattle.schema_names.proofs.Edges.{below-forth, below-back}
use Rattle.schema_explicit_attributes.specs.declared.own_attributes.Meant.TheVariants.{Explicit}
use Rattle.schema_explicit_attributes.specs.Supertypes.{AreAbove}
use Rattle.schema_explicit_attributes.specs.Supertypes.{is_or_leads}
use Rattle.schema_explicit_attributes.specs.steps.Owned.{declares_at}
use Rattle.schema_explicit_attributes.proofs.Having.{right-holds, declared-forth, declared-back}
use Rattle.schema_attributes.specs.declared.declaration.AttributeDeclaration.{AttributeDeclaration}
use Rattle.schema_attributes.specs.steps.Declarations.{AreDeclarations, IsDeclaredBy}
use Rattle.schema_attribute_references.specs.declared.unique_rule_names.Naming.{Naming}
use Rattle.schema_attribute_references.specs.steps.Named.{AreNumbersOf, AreHolders, is_one, is_other_at}
use Rattle.schema_attribute_references.specs.steps.Naming.{IsNaming}
use Rattle.schema_attribute_references.proofs.Members.{same-number, number-same, has-among, among-has, kept-forth, kept-back, shown-forth, one-at, at-one, any-forth, any-back, one-first, one-some, one-so, none-or-two}

-- the name of an attribute
pub written-name : (x : Written) → capitals (name_of x) ≡ derived_name (attribute_of x)
written-name (attributes.Unqualified w) = refl
written-name (attributes.Redeclared q w) = refl

pub names-name : (s : Schema) (e : Name) (x : Attribute) (p a : Name) → NamesAttribute s e x p a → a ≡ derived_name x
names-name s e (own n) p a h = sym h.0
names-name s e (redeclared q n) p a h = sym h.0

some-number : (i j : ℕ) → Some i ≡ Some j → i ≡ j
some-number i j e = cc

module _ (s : Schema) (above : Graph) (up : AreAbove s above) where
  -- kinds by number
  pub kind-forth : (n q : Name) (i j : ℕ) → HasNumber s n i → HasNumber s q j → is_or_leads above (Some i) j ≡ true
      → IsKindOf s n q
  kind-forth n q i j here there r = by (either (eqb i j) (has (next above i) j) r)
    where
      by : (eqb i j ≡ true) ⊎ (has (next above i) j ≡ true) → IsKindOf s n q
      by (inl e) = inl (one-name s n q j (subst (HasNumber s n) (same-number i j e) here) there)
      by (inr step) =
          let (m, l, below) = below-forth s up.graph up.drawn n i j here ((up.closed.reached i j).0 step) in
          inr (subst (IsBelow s n) (one-name s m q j l there) below)

  pub kind-back : (n q : Name) (i j : ℕ) → HasNumber s n i → HasNumber s q j → IsKindOf s n q
      → is_or_leads above (Some i) j ≡ true
  kind-back n q i j here there (inl same) =
      let so : HasNumber s q i = subst (λ x. HasNumber s x i) same here in
      left-holds (eqb i j) (has (next above i) j) (number-same i j (some-number i j (sym so ∙ there)))
  kind-back n q i j here there (inr below) =
      right-holds (eqb i j) (has (next above i) j)
      ((up.closed.reached i j).1 (below-back s up.graph up.drawn n q i j here there below))

  -- the entities that declare what e has
  pub holders-are : (e a : Name) (i : ℕ) → HasNumber s e i → (xs : List AttributeDeclaration) → AreDeclarations s a xs
      → (row : List ℕ) → row ≡ filter (is_or_leads above (Some i)) (map (λ x. x.entity) xs) → AreHolders s e a row
  holders-are e a i here xs are row is = record { forth = forth; back = back }
    where
      forth : (j : ℕ) → Among j row → (p : Name) × HasNumber s p j × Has s e p a
      forth j m =
          let (k, test) = kept-forth (is_or_leads above (Some i)) (map (λ x. x.entity) xs) j (subst (Among j) is m) in
          let (x, l, at) = shown-forth (λ x. x.entity) xs j k in
          let (p, t, known, by, typed) = are.within x l in
          let there : HasNumber s p j = subst (HasNumber s p) at by in
          (p, there, (kind-forth e p i j here there test, (are.declared p).0 (one-at (IsDeclaredBy s p) xs x l by)))

      back : (p : Name) → Has s e p a → (j : ℕ) × HasNumber s p j × Among j row
      back p (kind, declares) =
          let (x, l, by) = at-one (IsDeclaredBy s p) xs ((are.declared p).1 declares) in (
            x.entity,
            by,
            subst (Among x.entity) (sym is)
                (kept-back (is_or_leads above (Some i)) (map (λ x. x.entity) xs) x.entity (shown x xs l)
                (kind-back e p i x.entity here by kind)),
          )
        where
          shown : (x : AttributeDeclaration) (ys : List AttributeDeclaration) → Among x ys
              → Among x.entity (map (λ y. y.entity) ys)
          shown x [] h = absurd h
          shown x (y ∷ ys) (inl e) = inl (ap (λ z. z.entity) e)
          shown x (y ∷ ys) (inr h) = inr (shown x ys h)

  -- of a group, the entity's own or the only one that it inherits
  module _ (e q a : Name) (i g : ℕ) (here : HasNumber s e i) (group : HasNumber s q g) where
    abbrev Named : Name → Type 0
    Named p = NamesAttribute s e (redeclared q a) p a

    pub no-kind : is_or_leads above (Some i) g ≡ false → AreNumbersOf s (λ p. NamesAttribute s e (redeclared q a) p a) []
    no-kind r = record {
      forth = λ j m. absurd m;
      back = λ p h. let so = kind-back e q i g here group h.1 in absurd (cc);
    }

    module _ (known : IsEntity s q) (r : is_or_leads above (Some i) g ≡ true) (row : List ℕ)
        (are : AreHolders s q a row) where
      kind : IsKindOf s e q
      kind = kind-forth e q i g here group r

      owned : has row g ≡ true → Has s q q a
      owned h =
          let (p, there, held) = are.forth g (has-among row g h) in
          subst (λ y. Has s q y a) (one-name s p q g there group) held

      pub own-only : has row g ≡ true → AreNumbersOf s (λ p. NamesAttribute s e (redeclared q a) p a) (g ∷ [])
      own-only h = record { forth = forth; back = back }
        where
          forth : (j : ℕ) → Among j (g ∷ []) → (p : Name) × HasNumber s p j × Named p
          forth j (inl is) = (q, subst (HasNumber s q) is group, (refl, kind, (known, owned h, inl refl)))
          forth j (inr m) = absurd m

          which : (p : Name) → (p ≡ q) ⊎ ((m : Name) → Has s q m a → m ≡ p) → p ≡ q
          which p (inl is) = is
          which p (inr only) = sym (only q (owned h))

          back : (p : Name) → Named p → (j : ℕ) × HasNumber s p j × Among j (g ∷ [])
          back p (same, k, (t, held, only)) =
              (g, subst (λ y. HasNumber s y g) (sym (which p only)) group, inl refl)

      pub only-one : is_one row ≡ true → AreNumbersOf s (λ p. NamesAttribute s e (redeclared q a) p a) row
      only-one one = record { forth = forth; back = λ p h. are.back p h.2.1 }
        where
          forth : (j : ℕ) → Among j row → (p : Name) × HasNumber s p j × Named p
          forth j m =
              let (p, there, held) = are.forth j m in (
                p,
                there,
                (
                  refl,
                  kind,
                  (
                    known,
                    held,
                    inr (λ n k.
                        let (l, at, l-in) = are.back n k in
                        one-name s n p j (subst (HasNumber s n) (one-first row one l j l-in m) at) there),
                  ),
                ),
              )

      pub no-one : has row g ≡ false → is_one row ≡ false
          → AreNumbersOf s (λ p. NamesAttribute s e (redeclared q a) p a) []
      no-one none several = record { forth = λ j m. absurd m; back = back }
        where
          which : (p : Name) → Has s q p a → (p ≡ q) ⊎ ((m : Name) → Has s q m a → m ≡ p) → ⊥
          which p held (inl is) =
              let (l, at, m) = are.back p held in
              let so : HasNumber s q l = subst (λ y. HasNumber s y l) is at in
              let there = among-has row g (subst (λ j. Among j row) (some-number l g (sym so ∙ group)) m) in
              let wrong : true ≡ false = sym there ∙ none in absurd (cc)
          which p held (inr only) =
              let (l, at, m) = are.back p held in
              let all = one-so row l m (λ j k.
              let (n, there, has-it) = are.forth j k in
              some-number j l (sym (subst (λ y. HasNumber s y j) (only n has-it) there) ∙ at)) in
              let wrong : true ≡ false = sym all ∙ several in absurd (cc)

          back : (p : Name) → Named p → (j : ℕ) × HasNumber s p j × Among j []
          back p (same, k, (t, held, only)) = absurd (which p held only)

  -- a kind of an entity is one
  pub group-known : IsResolved s → (e q : Name) → IsEntity s e → IsKindOf s e q → IsEntity s q
  group-known r e q known (inl is) = subst (IsEntity s) is known
  group-known r e q known (inr below) =
      let (m, step) = last-step (IsSubtypeOf s) e q below in supertype-is-entity s r m q step

module _ (s : Schema) where
  pub numbers-alike : (P Q : Name → Type 0) → ((p : Name) → P p ↔ Q p) → (row : List ℕ) → AreNumbersOf s P row
      → AreNumbersOf s Q row
  numbers-alike P Q same row h = record {
    forth = λ i m. let (p, k, l) = h.forth i m in (p, k, (same p).0 l);
    back = λ p q. h.back p ((same p).1 q);
  }

  pub no-group : (e q a : Name) → number_of s q ≡ None → AreNumbersOf s (λ p. NamesAttribute s e (redeclared q a) p a) []
  no-group e q a none = record {
    forth = λ i m. absurd m;
    back = λ p h. let (x, at) = h.2.0 in let (i, k) = each-number 0 s.declarations q (entity x) at in absurd (cc);
  }

  not-both : (b : Bool) → not b ≡ true → b ≡ true → ⊥
  not-both true e f = cc
  not-both false e f = cc

  is-not : (b : Bool) → (b ≡ true → ⊥) → not b ≡ true
  is-not true h = absurd (h refl)
  is-not false h = refl

  not-so : (b : Bool) → not b ≡ true → b ≡ false
  not-so true e = cc
  not-so false e = refl

  -- what a row of all of them tells
  module _ (e : Name) (x : Attribute) (a : Name) (is : a ≡ derived_name x) (row : List ℕ)
      (are : AreNumbersOf s (λ p. NamesAttribute s e x p a) row) (t : Naming)
      (other : t.is_other ≡ list_any (is_other_at s a) row) (not_one : t.is_not_one ≡ not (is_one row)) where
    called : (p b : Name) → NamesAttribute s e x p b → NamesAttribute s e x p a
    called p b h = subst (NamesAttribute s e x p) (names-name s e x p b h ∙ sym is) h

    other-forth : IsTrue t.is_other → NamesOther s e x
    other-forth h =
        let (j, m, test) = any-forth (is_other_at s a) row (sym other ∙ h) in
        let (p, k, named) = are.forth j m in
        (p, a, named, λ d. not-both (declares_at s Explicit a j) test (declared-back s Explicit a p j k d))

    other-back : NamesOther s e x → IsTrue t.is_other
    other-back (p, b, named, never) =
        let (j, k, m) = are.back p (called p b named) in
        other ∙ any-back (is_other_at s a) row j m
        (is-not (declares_at s Explicit a j) (λ d. never
        (subst (DeclaresExplicit s p) (is ∙ sym (names-name s e x p b named)) (declared-forth s Explicit a p j k d))))

    one-forth : IsTrue t.is_not_one → NamesNotOne s e x
    one-forth h = by (none-or-two row (not-so (is_one row) (sym not_one ∙ h)))
      where
        by : ((i : ℕ) → Among i row → ⊥) ⊎ ((i : ℕ) × (j : ℕ) × Among i row × Among j row × (i ≡ j → ⊥))
            → NamesNotOne s e x
        by (inl none) = inl (λ p b named. let (j, k, m) = are.back p (called p b named) in none j m)
        by (inr (i, j, m, l, differ)) =
            let (p, k, named) = are.forth i m in
            let (q, o, called-too) = are.forth j l in
            inr (p, q, a, named, called-too, λ same. differ (some-number i j (sym (subst (λ y. HasNumber s y i) same k) ∙ o)))

    one-back : NamesNotOne s e x → IsTrue t.is_not_one
    one-back h = not_one ∙ is-not (is_one row) (by h)
      where
        by : NamesNotOne s e x → is_one row ≡ true → ⊥
        by (inl none) one =
            let (i, m) = one-some row one in let (p, k, named) = are.forth i m in none p a named
        by (inr (p, q, b, named, named-too, differ)) one =
            let (i, k, m) = are.back p (called p b named) in
            let (j, l, n) = are.back q (called q b named-too) in
            differ (one-name s p q i k (subst (HasNumber s q) (one-first row one j i n m) l))

    pub naming-is : IsNaming s e (x ∷ []) t
    naming-is = record { other = (o-forth, o-back); not_one = (n-forth, n-back) }
      where
        o-forth : IsTrue t.is_other → OneOf (NamesOther s e) (x ∷ [])
        o-forth h = inl (other-forth h)

        o-back : OneOf (NamesOther s e) (x ∷ []) → IsTrue t.is_other
        o-back (inl h) = other-back h
        o-back (inr h) = absurd h

        n-forth : IsTrue t.is_not_one → OneOf (NamesNotOne s e) (x ∷ [])
        n-forth h = inl (one-forth h)

        n-back : OneOf (NamesNotOne s e) (x ∷ []) → IsTrue t.is_not_one
        n-back (inl h) = one-back h
        n-back (inr h) = absurd h
