-- Places of attributes.
use Rattle.std.specs.Prelude.{◌≡◌, Bool, true, false, cond, ◌||◌, List, [], ◌∷◌, ◌++◌, flat_map, bytes_eq, ◌⊎◌}
use Rattle.std.specs.List.{IsDistinct, AllByRecursion, list_any}
use Rattle.std.proofs.Common.{refl, inl, inr, ap, sym, subst, ◌∙◌}
use Rattle.std.proofs.lemmas.Slice.Eq.{bytes_eq-Decides}
use Rattle.graphs.specs.Graphs.{Chain}
use Rattle.express_syntax.specs.Schemas.{Schema}
use Rattle.schema_semantics.specs.Names.{Name, Among, explicit_names, supertypes_of, IsSubtypeOf, IsKindOf, DeclaresExplicit}
use Rattle.schema_semantics.specs.Attributes.{Place, same_place, without, once, own_places, ArePlaces, IsPlaces}
use Rattle.schema_semantics.specs.Laws.{PlacesStandOnce, PlacesAreOne, ExplicitHavePlaces}
use Rattle.schema_semantics.proofs.Lists.{among-left, among-right, among-map, among-flat}
use Rattle.schema_semantics.proofs.Bools.{both-hold, is-false, or-left, or-right}
use Rattle.schema_semantics.proofs.Supertypes.{entity-name}
use Rattle.schema_semantics.proofs.Recursion.{equation, make_places, solution, solutions-are-one}

-- places that are told to be the same are one
pair : (a b c d : Name) → a ≡ c → b ≡ d → ◌≡◌ {A = Place} (a, b) (c, d)
pair a b c d e f = ap left e ∙ ap right f
  where
    left : Name → Place
    left x = (x, b)

    right : Name → Place
    right y = (c, y)

pub is-same : (p q : Place) → same_place p q ≡ true → p ≡ q
is-same (a, b) (c, d) e =
    let h = both-hold (bytes_eq a c) (bytes_eq b d) e in
    pair a b c d ((bytes_eq-Decides a c).0 h.0) ((bytes_eq-Decides b d).0 h.1)

pub same-itself : (p : Place) → same_place p p ≡ true
same-itself (a, b) = rw ((bytes_eq-Decides a a).1 refl, (bytes_eq-Decides b b).1 refl) refl

-- what was there before is left out
left-out : (p : Place) (before ps : List Place) → list_any (same_place p) before ≡ true
    → AllByRecursion (λ (q : Place). same_place p q ≡ false) (without before ps)
left-out p before [] h = tt
left-out p before (q ∷ qs) h =
    by (list_any (same_place q) before) refl (left-out p before qs h)
    (left-out p (q ∷ before) qs (or-right (same_place p q) (list_any (same_place p) before) h))
  where
    by : (b : Bool) → list_any (same_place q) before ≡ b → AllByRecursion (λ (r : Place). same_place p r ≡ false)
        (without before qs) → AllByRecursion (λ (r : Place). same_place p r ≡ false) (without (q ∷ before) qs)
        → AllByRecursion (λ (r : Place). same_place p r ≡ false)
        (cond b (without before qs) (q ∷ without (q ∷ before) qs))
    by true e old new = old
    by false e old new = (
      is-false (same_place p q) (λ s. differ (subst (λ r. list_any (same_place r) before ≡ true)
          (is-same p q s) h)),
      new,
    )
      where
        differ : list_any (same_place q) before ≡ true → ⊥
        differ k = cc

distinct-without : (before ps : List Place) → IsDistinct same_place (without before ps)
unfolding IsDistinct
distinct-without before [] = tt
distinct-without before (p ∷ ps) =
    by (list_any (same_place p) before) (distinct-without before ps) (distinct-without (p ∷ before) ps)
  where
    by : (b : Bool) → IsDistinct same_place (without before ps) → IsDistinct same_place (without (p ∷ before) ps)
        → IsDistinct same_place (cond b (without before ps) (p ∷ without (p ∷ before) ps))
    by true old new = old
    by false old new =
        (left-out p (p ∷ before) ps (or-left (same_place p p) (list_any (same_place p) before) (same-itself p)), new)

pub places-stand-once : PlacesStandOnce
places-stand-once s n ps ((e, at), places, h, is) =
    subst (λ qs. IsDistinct same_place qs) (sym (equation s make_places places n e h at) ∙ is)
    (distinct-without [] (flat_map places (supertypes_of e) ++ own_places e))

-- nothing else is left out
abbrev IsKept : Place → List Place → List Place → Type 0
IsKept x before rest = (list_any (same_place x) before ≡ true) ⊎ Among x rest

newer : (x q : Place) (before rest : List Place) → IsKept x (q ∷ before) rest → IsKept x before (q ∷ rest)
newer x q before rest (inl e) = which (same_place x q) refl e
  where
    which : (b : Bool) → same_place x q ≡ b → (b || list_any (same_place x) before) ≡ true → IsKept x before (q ∷ rest)
    which true s e = inr (inl (sym (is-same x q s)))
    which false s e = inl e
newer x q before rest (inr m) = inr (inr m)

kept-first : (x : Place) (before ps : List Place) → Among x ps → IsKept x before (without before ps)
kept-first x before [] h = elim h [ ]
kept-first x before (q ∷ qs) h =
    by (list_any (same_place q) before) refl h (kept-first x before qs) (kept-first x (q ∷ before) qs)
  where
    by : (b : Bool) → list_any (same_place q) before ≡ b → Among x (q ∷ qs)
        → (Among x qs → IsKept x before (without before qs))
        → (Among x qs → IsKept x (q ∷ before) (without (q ∷ before) qs))
        → IsKept x before (cond b (without before qs) (q ∷ without (q ∷ before) qs))
    by true e (inl same) old new = inl (subst (λ r. list_any (same_place r) before ≡ true) same e)
    by true e (inr m) old new = old m
    by false e (inl same) old new = inr (inl same)
    by false e (inr m) old new = newer x q before (without (q ∷ before) qs) (new m)

in-once : (x : Place) (ps : List Place) → Among x ps → Among x (once ps)
in-once x ps h = by (kept-first x [] ps h)
  where
    by : (false ≡ true) ⊎ Among x (without [] ps) → Among x (without [] ps)
    by (inl e) = absurd (cc)
    by (inr m) = m

own-place : (s : Schema) (places : Name → List Place) (p a : Name) → ArePlaces s places → DeclaresExplicit s p a
    → Among (p, a) (places p)
own-place s places p a h (e, at, m) =
    let known = entity-name s p e at in
    let own : Among (e.name, a) (own_places e) = among-map (λ (n : Name). (e.name, n)) a (explicit_names e) m in
    subst (λ qs. Among (p, a) qs) (sym (equation s make_places places p e h at))
    (in-once (p, a) (flat_map places (supertypes_of e) ++ own_places e)
    (among-right (p, a) (flat_map places (supertypes_of e)) (own_places e)
    (subst (λ m. Among (m, a) (own_places e)) known.1 own)))

one-up : (s : Schema) (places : Name → List Place) (n m : Name) (x : Place) → ArePlaces s places → IsSubtypeOf s n m
    → Among x (places m) → Among x (places n)
one-up s places n m x h (e, at, sup) k =
    subst (λ qs. Among x qs) (sym (equation s make_places places n e h at))
    (in-once x (flat_map places (supertypes_of e) ++ own_places e)
    (among-left x (flat_map places (supertypes_of e)) (own_places e) (among-flat places m x (supertypes_of e) sup k)))

up : (s : Schema) (places : Name → List Place) (n : Name) (ms : List Name) (p : Name) (x : Place)
    → ArePlaces s places → Chain (IsSubtypeOf s) n ms p → Among x (places p) → Among x (places n)
up s places n [] p x h c k = one-up s places n p x h c k
up s places n (m ∷ ms) p x h c k = one-up s places n m x h c.0 (up s places m ms p x h c.1 k)

pub explicit-have-places : ExplicitHavePlaces
explicit-have-places s n ps p a (_, places, h, is) kind d = subst (λ qs. Among (p, a) qs) is (by kind)
  where
    by : IsKindOf s n p → Among (p, a) (places n)
    by (inl e) = subst (λ m. Among (p, a) (places m)) (sym e) (own-place s places p a h d)
    by (inr (ms, c)) = up s places n ms p (p, a) h c (own-place s places p a h d)

pub places-are-one : PlacesAreOne
places-are-one s n r ent =
    let some = solution s r make_places in
    (some.0 n, (ent, some.0, some.1, refl), (λ qs h. only some.0 some.1 qs h))
  where
    only : (places : Name → List Place) → ArePlaces s places → (qs : List Place) → IsPlaces s n qs → qs ≡ places n
    only places h qs (_, others, g, is) = sym is ∙ solutions-are-one s r make_places others places g h n ent
