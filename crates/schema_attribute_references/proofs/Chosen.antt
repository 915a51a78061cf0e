-- That just those declarations are chosen whose attributes a reference may take.
use Rattle.std.specs.Prelude.{◌≡◌, ℕ, Bool, true, false, cond, not, eqb, List, [], ◌∷◌, Option, None, Some, ◌↔◌, IsTrue}
use Rattle.std.specs.List.{list_any}
use Rattle.std.proofs.Common.{refl, inl, inr, ap, sym, subst, ◌∙◌, arith}
use Rattle.std.proofs.lemmas.Bool.Decides.{nat_tests}
use Rattle.graphs.specs.Graphs.{Graph}
use Rattle.express_syntax.specs.Schemas.{Schema, entity}
use Rattle.schema_semantics.specs.Names.{Name, Among, IsEntity, IsSubtypeOf, IsKindOf, Declares, Has}
use Rattle.schema_semantics.specs.Faults.{IsResolved}
use Rattle.schema_semantics.specs.Sets.{of_set, of_entity, MayTake, TakesTwo, IsUnclear}
use Rattle.schema_semantics.proofs.Lists.{first-step}
use Rattle.schema_names.specs.Numbers.{number_of, HasNumber}
use Rattle.schema_names.proofs.Numbers.{one-name, each-number}
use Rattle.schema_explicit_attributes.specs.Supertypes.{AreAbove}
use Rattle.schema_explicit_attributes.specs.Supertypes.{is_or_leads}
use Rattle.schema_attributes.specs.declared.declaration.AttributeDeclaration.{AttributeDeclaration}
use Rattle.schema_attributes.specs.steps.Declarations.{AreDeclarations, IsDeclaredBy}
use Rattle.schema_attribute_references.specs.steps.Entities.{OfNumbers}
use Rattle.schema_attribute_references.specs.steps.Gathering.{is_any}
use Rattle.schema_attribute_references.specs.steps.Choosing.{is_of_kind, is_of_any, of_entities, has_another, first_of, has_two, is_unclear, is_of, only_after, only_owner, owner, owner_of, is_owned, of_owner}
use Rattle.schema_attribute_references.proofs.Filtering.{some-is, one-found, found-one, any-found, found-any}
use Rattle.schema_attribute_references.proofs.Kindred.{kind-forth, kind-back, kind-named}
use Rattle.schema_attribute_references.proofs.Finding.{find-found, find-none, IsOne, another-forth, another-back, two-forth, two-back}
use Rattle.schema_attribute_references.proofs.Reached.{Chooses, taken-of, taken-one}

same-number : (m n : ℕ) → eqb m n ≡ true → m ≡ n
same-number m n e = grind (arith, nat_tests)

number-itself : (m n : ℕ) → m ≡ n → eqb m n ≡ true
number-itself m n e = grind (arith, nat_tests)

module _ (s : Schema) (above : Graph) (h : AreAbove s above) (r : IsResolved s) (a : Name)
    (xs : List AttributeDeclaration) (are : AreDeclarations s a xs) where
  -- what the declarations of a name say of those that declare it
  declares-it : (p : Name) (x : AttributeDeclaration) → Among x xs → IsDeclaredBy s p x → Declares s p a
  declares-it p x m d = (are.declared p).0 (found-one (IsDeclaredBy s p) xs x m d)

  -- of the entities of a set
  module _ (is : List ℕ) where
    set-forth : (p : Name) (x : AttributeDeclaration) → Among x xs → IsDeclaredBy s p x → is_of_any above is x ≡ true
        → MayTake s (of_set (OfNumbers s is) a) p
    set-forth p x m d e =
        let (i, n, kind) = any-found (λ (i : ℕ). is_of_kind above i x) is e in
        let (o, k) = kind-named s above h r p i x.entity d kind in (
          o,
          found-one (HasNumber s o) is i n k,
          (kind-forth s above h o p i x.entity k d kind, declares-it p x m d),
        )

    set-back : (p : Name) (x : AttributeDeclaration) → IsDeclaredBy s p x → MayTake s (of_set (OfNumbers s is) a) p
        → is_of_any above is x ≡ true
    set-back p x d (e, one, (kind, declares)) =
        let (i, n, k) = one-found (HasNumber s e) is one in
        found-any (λ (i : ℕ). is_of_kind above i x) is i n (kind-back s above h e p i x.entity k d kind)

    pub set-chooses : Chooses s (of_set (OfNumbers s is) a) xs (is_of_any above is)
    set-chooses = record {
      are = are;
      decides = λ p x m d. (set-forth p x m d, set-back p x d);
      declares = λ p (e, one, (kind, declares)). declares;
    }

    -- what is taken, and that nothing is
    taken-by : (x : AttributeDeclaration) → Among x (of_entities above is xs) → (p : Name) × IsDeclaredBy s p x
        × MayTake s (of_set (OfNumbers s is) a) p
    taken-by x m = taken-of s (of_set (OfNumbers s is) a) xs (is_of_any above is) set-chooses x m

    one-is-taken : (p : Name) → MayTake s (of_set (OfNumbers s is) a) p → (x : AttributeDeclaration)
        × Among x (of_entities above is xs) × IsDeclaredBy s p x
    one-is-taken p take = taken-one s (of_set (OfNumbers s is) a) xs (is_of_any above is) set-chooses p take

    both-taken : (i : ℕ) → Among i is → has_two above (of_entities above is xs) i ≡ true
        → TakesTwo s (of_set (OfNumbers s is) a)
    both-taken i n t =
        let (x, y, (m, kind), (l, other), ne) = two-forth above (of_entities above is xs) i t in
        let (p, d, take) = taken-by x m in
        let (q, by, takes) = taken-by y l in
        let (e, k) = kind-named s above h r p i x.entity d kind in (
          e,
          p,
          q,
          found-one (HasNumber s e) is i n k,
          (kind-forth s above h e p i x.entity k d kind, take.2.1),
          (kind-forth s above h e q i y.entity k by other, takes.2.1),
          (λ same. ne (some-is y.entity x.entity (sym by ∙ subst (λ n. HasNumber s n x.entity) same d))),
        )

    two-taken : TakesTwo s (of_set (OfNumbers s is) a) → (x : AttributeDeclaration) × (y : AttributeDeclaration)
        × (i : ℕ) × Among i is × IsOne above (of_entities above is xs) i x × IsOne above (of_entities above is xs) i y
        × (y.entity ≡ x.entity → ⊥)
    two-taken (e, p, q, one, (kind, declares), (other, too), ne) =
        let (i, n, k) = one-found (HasNumber s e) is one in
        let (x, m, d) = one-is-taken p (e, one, (kind, declares)) in
        let (y, l, by) = one-is-taken q (e, one, (other, too)) in (
          x,
          y,
          i,
          n,
          (m, kind-back s above h e p i x.entity k d kind),
          (l, kind-back s above h e q i y.entity k by other),
          (λ same. ne (one-name s p q x.entity d (subst (HasNumber s q) same by))),
        )

    abbrev Unclear : Type 0
    Unclear = IsUnclear s (of_set (OfNumbers s is) a)

    unclear-forth : (ys : List AttributeDeclaration) → of_entities above is xs ≡ ys → is_unclear above is ys ≡ true
        → Unclear
    unclear-forth [] none e =
        inl (λ p take. (let (x, m, d) = one-is-taken p take in subst (Among x) none m))
    unclear-forth (x ∷ []) some e = absurd (cc)
    unclear-forth (x ∷ y ∷ ys) some e =
        let (i, n, t) = any-found (has_two above (x ∷ y ∷ ys)) is e in
        inr (both-taken i n (subst (λ zs. has_two above zs i ≡ true) (sym some) t))

    any-taken : (x : AttributeDeclaration) (ys : List AttributeDeclaration) → of_entities above is xs ≡ x ∷ ys
        → ((p : Name) → MayTake s (of_set (OfNumbers s is) a) p → ⊥) → ⊥
    any-taken x ys some none =
        let (p, d, take) = taken-by x (subst (Among x) (sym some) (inl refl)) in none p take

    alone : (x y : AttributeDeclaration) → Among y (x ∷ []) → x ≡ y
    alone x y (inl e) = e
    alone x y (inr m) = elim m [ ]

    unclear-back : (ys : List AttributeDeclaration) → of_entities above is xs ≡ ys → Unclear
        → is_unclear above is ys ≡ true
    unclear-back [] none u = refl
    unclear-back (x ∷ []) some (inl none) = absurd (any-taken x [] some none)
    unclear-back (x ∷ []) some (inr two) =
        let (z, y, i, n, (m, kind), (l, other), ne) = two-taken two in
        absurd (ne (ap (λ (w : AttributeDeclaration). w.entity) (sym (alone x y (subst (Among y) some l))
        ∙ alone x z (subst (Among z) some m))))
    unclear-back (x ∷ y ∷ ys) some (inl none) = absurd (any-taken x (y ∷ ys) some none)
    unclear-back (x ∷ y ∷ ys) some (inr two) =
        let (z, w, i, n, first, second, ne) = two-taken two in
        found-any (has_two above (x ∷ y ∷ ys)) is i n
        (subst (λ zs. has_two above zs i ≡ true) some (two-back above (of_entities above is xs) i z w first second ne))

    pub set-unclear : (b : Bool) → b ≡ is_unclear above is (of_entities above is xs) → IsTrue b ↔ Unclear
    set-unclear b is-so = (
      (λ e. unclear-forth (of_entities above is xs) refl (sym is-so ∙ e)),
      (λ u. is-so ∙ unclear-back (of_entities above is xs) refl u),
    )

  -- of one entity
  module _ (e : Name) where
    abbrev Takes : Name → Type 0
    Takes p = MayTake s (of_entity e a) p

    is-entity : (p : Name) → IsKindOf s e p → Declares s p a → IsEntity s e
    is-entity p (inl same) (x, at, among) = subst (IsEntity s) (sym same) (x, at)
    is-entity p (inr way) declares = let (m, (x, at, among)) = first-step (IsSubtypeOf s) e p way in (x, at)

    module _ (i : ℕ) (k : HasNumber s e i) where
      is-itself : (p : Name) (x : AttributeDeclaration) → IsDeclaredBy s p x → x.entity ≡ i → p ≡ e
      is-itself p x d same = one-name s p e i (subst (HasNumber s p) same d) k

      its-number : (p : Name) (x : AttributeDeclaration) → IsDeclaredBy s p x → p ≡ e → x.entity ≡ i
      its-number p x d same = some-is x.entity i (sym (subst (λ n. HasNumber s n x.entity) same d) ∙ k)

      -- it declares one itself
      own-forth : (p : Name) (x : AttributeDeclaration) → Among x xs → IsDeclaredBy s p x → is_of i x ≡ true
          → Takes p
      own-forth p x m d t =
          let same = is-itself p x d (same-number x.entity i t) in
          let declares = declares-it p x m d in
          (is-entity p (inl (sym same)) declares, (inl (sym same), declares), inl same)

      own-back : list_any (is_of i) xs ≡ true → (p : Name) (x : AttributeDeclaration) → IsDeclaredBy s p x → Takes p
          → is_of i x ≡ true
      own-back some p x d (ent, has, inl same) = number-itself x.entity i (its-number p x d same)
      own-back some p x d (ent, has, inr only) =
          let (y, m, t) = any-found (is_of i) xs some in
          let (q, l, is-one, by, gives) = are.within y m in
          let same = is-itself q y by (same-number y.entity i t) in
          let declares = declares-it q y m by in
          number-itself x.entity i (its-number p x d (sym (only e (
            inl refl,
            subst (λ n. Declares s n a) same
                declares,
          ))))

      -- it inherits all from one
      module _ (none : list_any (is_of i) xs ≡ false) where
        not-own : (p : Name) (x : AttributeDeclaration) → Among x xs → IsDeclaredBy s p x → p ≡ e → ⊥
        not-own p x m d same =
            let t = found-any (is_of i) xs x m (number-itself x.entity i (its-number p x d same)) in
            let never = sym none ∙ t in
            absurd (cc)

        kind-of : (p : Name) (x : AttributeDeclaration) → IsDeclaredBy s p x → IsKindOf s e p
            → is_of_kind above i x ≡ true
        kind-of p x d kind = kind-back s above h e p i x.entity k d kind

        has-it : (p : Name) (x : AttributeDeclaration) → Among x xs → IsDeclaredBy s p x
            → is_of_kind above i x ≡ true → Has s e p a
        has-it p x m d t = (kind-forth s above h e p i x.entity k d t, declares-it p x m d)

        -- the only one is the first
        only-first : (z : AttributeDeclaration) → IsOne above xs i z → (p : Name) → Takes p → HasNumber s p z.entity
        only-first z (n, t) p (ent, has, inl same) =
            let (x, m, d) = one-found (IsDeclaredBy s p) xs ((are.declared p).1 has.1) in
            absurd (not-own p x m d same)
        only-first z (n, t) p (ent, has, inr only) =
            let (q, l, is-one, by, gives) = are.within z n in
            subst (λ n. HasNumber s n z.entity) (only q (has-it q z n by t)) by

        after-forth : (o : Option AttributeDeclaration) → first_of above xs i ≡ o → (p : Name)
            (x : AttributeDeclaration) → Among x xs → IsDeclaredBy s p x
            → is_owned (only_after above xs i o) x ≡ true → Takes p
        after-forth None q p x m d t = absurd (cc)
        after-forth (Some z) q p x m d t = by (has_another above xs i z.entity) refl t
          where
            by : (b : Bool) → has_another above xs i z.entity ≡ b → is_owned (cond b None (Some z.entity)) x ≡ true
                → Takes p
            by true others u = absurd (cc)
            by false others u =
                let same = same-number x.entity z.entity u in
                let (n, first) = find-found (is_of_kind above i) xs z q in
                let kind = kind-forth s above h e p i x.entity k d (subst (λ j. is_or_leads above (Some i) j ≡ true) (sym
                same) first) in
                let declares = declares-it p x m d in
                (is-entity p kind declares, (kind, declares), inr only)
              where
                only : (o : Name) → Has s e o a → o ≡ p
                only o (kind, declares) =
                    let (y, l, by) = one-found (IsDeclaredBy s o) xs ((are.declared o).1 declares) in
                    is-one o y l by (kind-of o y by kind) (eqb y.entity x.entity) refl
                  where
                    is-one : (o : Name) (y : AttributeDeclaration) → Among y xs → IsDeclaredBy s o y
                        → is_of_kind above i y ≡ true → (c : Bool) → eqb y.entity x.entity ≡ c → o ≡ p
                    is-one o y l by t true e =
                        one-name s o p x.entity (subst (HasNumber s o) (same-number y.entity x.entity e) by) d
                    is-one o y l by t false e =
                        let apart : y.entity ≡ z.entity → ⊥ = λ w. (let v = number-itself y.entity x.entity (w
                        ∙ sym (same-number x.entity z.entity u)) in absurd (cc)) in
                        let never = sym others ∙ another-back above xs i z.entity y (l, t) apart in
                        absurd (cc)

        after-back : (o : Option AttributeDeclaration) → first_of above xs i ≡ o → (p : Name)
            (x : AttributeDeclaration) → Among x xs → IsDeclaredBy s p x → Takes p
            → is_owned (only_after above xs i o) x ≡ true
        after-back None q p x m d (ent, has, only) =
            absurd (find-none (is_of_kind above i) xs q x m (kind-of p x d has.0))
        after-back (Some z) q p x m d take = by (has_another above xs i z.entity) refl
          where
            is-first : HasNumber s p z.entity
            is-first = only-first z (find-found (is_of_kind above i) xs z q) p take

            by : (b : Bool) → has_another above xs i z.entity ≡ b → is_owned (cond b None (Some z.entity)) x ≡ true
            by false others = number-itself x.entity z.entity (some-is x.entity z.entity (sym d ∙ is-first))
            by true others =
                let (y, one, ne) = another-forth above xs i z.entity others in
                let there = only-first y one p take in
                absurd (ne (some-is y.entity z.entity (sym there ∙ is-first)))

      owned-forth : (p : Name) (x : AttributeDeclaration) → Among x xs → IsDeclaredBy s p x
          → is_owned (owner above xs i) x ≡ true → Takes p
      owned-forth p x m d t = by (list_any (is_of i) xs) refl t
        where
          by : (b : Bool) → list_any (is_of i) xs ≡ b
              → is_owned (cond b (Some i) (only_owner above xs i)) x ≡ true → Takes p
          by true some u = own-forth p x m d u
          by false none u = after-forth none (first_of above xs i) refl p x m d u

      owned-back : (p : Name) (x : AttributeDeclaration) → Among x xs → IsDeclaredBy s p x → Takes p
          → is_owned (owner above xs i) x ≡ true
      owned-back p x m d take = by (list_any (is_of i) xs) refl
        where
          by : (b : Bool) → list_any (is_of i) xs ≡ b
              → is_owned (cond b (Some i) (only_owner above xs i)) x ≡ true
          by true some = own-back some p x d take
          by false none = after-back none (first_of above xs i) refl p x m d take

    entity-forth : (o : Option ℕ) → number_of s e ≡ o → (p : Name) (x : AttributeDeclaration) → Among x xs
        → IsDeclaredBy s p x → is_owned (owner_of above xs o) x ≡ true → Takes p
    entity-forth None k p x m d t = absurd (cc)
    entity-forth (Some i) k p x m d t = owned-forth i k p x m d t

    entity-back : (o : Option ℕ) → number_of s e ≡ o → (p : Name) (x : AttributeDeclaration) → Among x xs
        → IsDeclaredBy s p x → Takes p → is_owned (owner_of above xs o) x ≡ true
    entity-back None k p x m d ((y, at), has, only) =
        let (i, l) = each-number 0 s.declarations e (entity y) at in absurd (cc)
    entity-back (Some i) k p x m d take = owned-back i k p x m d take

    pub entity-chooses : (o : Option ℕ) → number_of s e ≡ o
        → Chooses s (of_entity e a) xs (is_owned (owner_of above xs o))
    entity-chooses o k = record {
      are = are;
      decides = λ p x m d. (entity-forth o k p x m d, entity-back o k p x m d);
      declares = λ p (ent, has, only). has.1;
    }

    nothing-forth : (o : Option ℕ) → number_of s e ≡ o → (ys : List AttributeDeclaration)
        → of_owner (owner_of above xs o) xs ≡ ys → not (is_any ys) ≡ true → IsUnclear s (of_entity e a)
    nothing-forth o k [] none t =
        inl (λ p take. (let (x, m, d) =
        taken-one s (of_entity e a) xs (is_owned (owner_of above xs o)) (entity-chooses o k) p take in
        subst (Among x) none m))
    nothing-forth o k (y ∷ ys) some t = absurd (cc)

    nothing-back : (o : Option ℕ) → number_of s e ≡ o → (ys : List AttributeDeclaration)
        → of_owner (owner_of above xs o) xs ≡ ys → IsUnclear s (of_entity e a) → not (is_any ys) ≡ true
    nothing-back o k [] none u = refl
    nothing-back o k (y ∷ ys) some (inl none) =
        let (p, d, take) =
        taken-of s (of_entity e a) xs (is_owned (owner_of above xs o)) (entity-chooses o k) y (subst (Among y) (sym some)
        (inl refl)) in
        absurd (none p take)
    nothing-back o k (y ∷ ys) some (inr two) = absurd two

    pub entity-unclear : (o : Option ℕ) → number_of s e ≡ o → (b : Bool)
        → b ≡ not (is_any (of_owner (owner_of above xs o) xs)) → IsTrue b ↔ IsUnclear s (of_entity e a)
    entity-unclear o k b is-so = (
      (λ t. nothing-forth o k (of_owner (owner_of above xs o) xs) refl (sym is-so ∙ t)),
      (λ u. is-so ∙ nothing-back o k (of_owner (owner_of above xs o) xs) refl u),
    )
