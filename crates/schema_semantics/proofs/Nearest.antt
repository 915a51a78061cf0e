-- Where the names are resolved, `SELF\entity.attribute` means one attribute, and an inverse attribute inverts one.
use Rattle.std.specs.Prelude.{◌≡◌, Bool, true, false, List, [], ◌∷◌, ◌++◌, map, flat_map, Option, Some, None, bytes_eq, ◌⊎◌}
use Rattle.std.proofs.Common.{refl, inl, inr, sym, subst, ◌∙◌}
use Rattle.std.proofs.lemmas.Slice.Eq.{bytes_eq-Decides}
use Rattle.graphs.specs.Graphs.{Chain}
use Rattle.express_syntax.specs.Schemas.{Schema, Declaration, type, entity, skipped, Entity, Inverse}
use Rattle.schema_semantics.specs.Names.{Name, Among, IsFirst, listed, entities, supertypes_of, attribute_names, explicit_names, declaration_of, IsEntity, IsEntityAt, IsSubtypeOf, IsKindOf, HasExplicit}
use Rattle.schema_semantics.specs.Faults.{Demand, an_entity, inverted, IsMet, demands, demands_of_declaration, demands_of_supertype, demands_of_explicit, demands_of_derived, demands_of_inverse, demands_of_holder, holder_of, IsResolved}
use Rattle.schema_semantics.specs.Attributes.{AreLines, IsNearest, IsInverted}
use Rattle.schema_semantics.specs.Laws.{OriginsAreOne, InvertedAreOne}
use Rattle.schema_semantics.proofs.Lists.{among-right, among-flat, every-at, first-is-one, first-exists}
use Rattle.schema_semantics.proofs.Recursion.{equation, make_line, solution, solutions-are-one, declared-entity}
use Rattle.schema_semantics.proofs.Supertypes.{entity-name}

is-among : (a : Name) (xs : List Name) → Among a xs ⊎ (Among a xs → ⊥)
is-among a [] = inr (λ h. h)
is-among a (x ∷ xs) = by (bytes_eq x a) refl (is-among a xs)
  where
    by : (b : Bool) → bytes_eq x a ≡ b → Among a xs ⊎ (Among a xs → ⊥) → Among a (x ∷ xs) ⊎ (Among a (x ∷ xs) → ⊥)
    by true e rest = inl (inl ((bytes_eq-Decides x a).0 e))
    by false e (inl m) = inl (inr m)
    by false e (inr free) = inr (neither)
      where
        differ : bytes_eq x a ≡ true → ⊥
        differ h = cc

        neither : Among a (x ∷ xs) → ⊥
        neither (inl h) = differ ((bytes_eq-Decides x a).1 h)
        neither (inr m) = free m

-- an entity lists a name
Lists : Schema → (Entity → List Name) → Name → Name → Type 0
Lists s names a n = (e : Entity) × IsEntityAt s n e × Among a (names e)

lists-or-not : (s : Schema) (names : Entity → List Name) (a n : Name)
    → Lists s names a n ⊎ (Lists s names a n → ⊥)
unfolding Lists
lists-or-not s names a n = by (declaration_of s.declarations n) refl
  where
    by : (o : Option Declaration) → declaration_of s.declarations n ≡ o → Lists s names a n ⊎ (Lists s names a n → ⊥)
    by None q = inr (λ x. lacks x.0 (sym q ∙ x.1))
      where
        lacks : (e : Entity) → None ≡ Some (entity e) → ⊥
        lacks e k = cc
    by (Some (type t)) q = inr (λ x. other x.0 (sym q ∙ x.1))
      where
        other : (e : Entity) → Some (type t) ≡ Some (entity e) → ⊥
        other e k = cc
    by (Some (skipped p)) q = inr (λ x. other x.0 (sym q ∙ x.1))
      where
        other : (e : Entity) → Some (skipped p) ≡ Some (entity e) → ⊥
        other e k = cc
    by (Some (entity e)) q = which (is-among a (names e))
      where
        same : (x : Entity) → Some (entity e) ≡ Some (entity x) → e ≡ x
        same x k = cc

        which : Among a (names e) ⊎ (Among a (names e) → ⊥) → Lists s names a n ⊎ (Lists s names a n → ⊥)
        which (inl m) = inl (e, q, m)
        which (inr free) =
            inr (λ x. free (subst (λ y. Among a (names y)) (sym (same x.0 (sym q ∙ x.1))) x.2))

-- the line of an entity has itself and its supertypes
own-line : (s : Schema) (line : Name → List Name) (p : Name) → AreLines s line → IsEntity s p → Among p (line p)
own-line s line p h (e, at) =
    subst (λ xs. Among p xs) (sym (equation s make_line line p e h at)) (inl (entity-name s p e at).1)

line-up : (s : Schema) (line : Name → List Name) (n m p : Name) → AreLines s line → IsSubtypeOf s n m
    → Among p (line m) → Among p (line n)
line-up s line n m p h (e, at, sup) k =
    subst (λ xs. Among p xs) (sym (equation s make_line line n e h at))
    (inr (among-flat line m p (supertypes_of e) sup k))

lines-up : (s : Schema) (line : Name → List Name) (n : Name) (ms : List Name) (p : Name) → AreLines s line
    → Chain (IsSubtypeOf s) n ms p → Among p (line p) → Among p (line n)
lines-up s line n [] p h c k = line-up s line n p p h c k
lines-up s line n (m ∷ ms) p h c k = line-up s line n m p h c.0 (lines-up s line m ms p h c.1 k)

in-line : (s : Schema) (line : Name → List Name) (q p : Name) → AreLines s line → IsEntity s p → IsKindOf s q p
    → Among p (line q)
in-line s line q p h ent (inl e) = subst (λ n. Among p (line n)) (sym e) (own-line s line p h ent)
in-line s line q p h ent (inr (ms, c)) = lines-up s line q ms p h c (own-line s line p h ent)

below-entity : (s : Schema) (q p : Name) → IsEntity s p → IsKindOf s q p → IsEntity s q
below-entity s q p ent (inl e) = subst (IsEntity s) (sym e) ent
below-entity s q p ent (inr ([], step)) = (step.0, step.1)
below-entity s q p ent (inr (m ∷ ms, chain)) = (chain.0.0, chain.0.1)

-- the nearest is one
nearest-is-one : (s : Schema) (names : Entity → List Name) (a q p : Name) → IsResolved s → IsKindOf s q p
    → (e : Entity) → IsEntityAt s p e → Among a (names e)
    → (x : Name) × IsNearest s (λ (n : Name). (e : Entity) × IsEntityAt s n e × Among a (names e)) q x
    × ((y : Name) → IsNearest s (λ (n : Name). (e : Entity) × IsEntityAt s n e × Among a (names e)) q y → y ≡ x)
unfolding Lists
nearest-is-one s names a q p r kind e at m =
    let lines = solution s r make_line in
    let ent = below-entity s q p (e, at) kind in
    let first = first-exists (Lists s names a) (lists-or-not s names a) (lines.0 q) p
    (in-line s lines.0 q p lines.1 (e, at) kind) (e, at, m) in
    (first.0, (ent, lines.0, lines.1, first.1), λ y near. only ent lines.0 lines.1 first.0 first.1 y near)
  where
    only : IsEntity s q → (line : Name → List Name) → AreLines s line → (x : Name)
        → IsFirst (Lists s names a) (line q) x → (y : Name) → IsNearest s (Lists s names a) q y → y ≡ x
    only ent line h x f y (_, other, g, k) =
        first-is-one (Lists s names a) (line q) y x
        (subst (λ xs. IsFirst (Lists s names a) xs y) (solutions-are-one s r make_line other line g h q ent) k) f

pub origins-are-one : OriginsAreOne
origins-are-one s q a r (p, (kind, (e, at, m))) = nearest-is-one s attribute_names a q p r kind e at m

-- where the names are resolved, the attribute that is inverted is there
is-asked : (e : Entity) (i : Inverse) (n : Name) (d : Demand) (s : Schema) → Among e (entities s)
    → Among i (listed e.inverses) → Among d (demands_of_inverse i.attribute i) → Among d (demands s)
is-asked e i n d s m j h =
    among-flat demands_of_declaration (entity e) d s.declarations (declared-entity s.declarations e m)
    (among-right d (((heads ++ supers) ++ explicits) ++ deriveds) inverses
    (among-flat (λ (i : Inverse). demands_of_inverse i.attribute i) i d (listed e.inverses) j h))
  where
    heads : List Demand
    heads = demands_of_supertype e.supertype

    supers : List Demand
    supers = map an_entity (supertypes_of e)

    explicits : List Demand
    explicits = flat_map (demands_of_explicit (supertypes_of e)) e.explicits

    deriveds : List Demand
    deriveds = flat_map (demands_of_derived (supertypes_of e)) (listed e.derived)

    inverses : List Demand
    inverses = flat_map (λ (i : Inverse). demands_of_inverse i.attribute i) (listed e.inverses)

pub inverted-are-one : InvertedAreOne
inverted-are-one s e i n r m j is = by (every-at (IsMet s) (inverted holder i.inverted) (demands s) r.known asked)
  where
    holder : Name
    holder = holder_of i.holder i.entity

    asked : Among (inverted holder i.inverted) (demands s)
    asked =
        is-asked e i n (inverted holder i.inverted) s m j
        (subst (λ x. Among (inverted holder i.inverted) (demands_of_inverse x i)) (sym is)
        (inr (among-right (inverted holder i.inverted) (demands_of_holder i.holder)
        (inverted holder i.inverted ∷ []) (inl refl))))

    by : HasExplicit s holder i.inverted → (p : Name) × IsInverted s i p × ((q : Name) → IsInverted s i q → q ≡ p)
    by (p, kind, (x, at, l)) = nearest-is-one s explicit_names i.inverted holder p r kind x at l
