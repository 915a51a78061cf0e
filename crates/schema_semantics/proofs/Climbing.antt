-- Each place is an explicit attribute: from an entity its supertypes are climbed, and that ends.
use Rattle.std.specs.Prelude.{◌≡◌, ℕ, zero, suc, ◌≤◌, Bool, true, false, cond, List, [], ◌∷◌, ◌++◌, length, map, flat_map, ◌⊎◌}
use Rattle.std.specs.List.{list_any}
use Rattle.std.proofs.Common.{refl, inl, inr, ap, sym, subst, ◌∙◌, arith}
use Rattle.express_syntax.specs.Schemas.{Schema, Entity}
use Rattle.schema_semantics.specs.Names.{Name, Among, explicit_names, supertypes_of, IsEntity, IsEntityAt, IsSubtypeOf, IsKindOf, DeclaresExplicit}
use Rattle.schema_semantics.specs.Faults.{IsResolved}
use Rattle.schema_semantics.specs.Attributes.{Place, same_place, without, own_places, ArePlaces}
use Rattle.schema_semantics.specs.Laws.{PlacesAreExplicit}
use Rattle.schema_semantics.proofs.Lists.{among-either, from-flat, leads-joined}
use Rattle.schema_semantics.proofs.Supertypes.{entity-name}
use Rattle.schema_semantics.proofs.Recursion.{equation, make_places, IsPath, names, path-is-short, supertype-is-entity}

-- what is left without repeats was there
from-without : (x : Place) (before ps : List Place) → Among x (without before ps) → Among x ps
from-without x before [] h = elim h [ ]
from-without x before (q ∷ qs) h =
    by (list_any (same_place q) before) h (from-without x before qs) (from-without x (q ∷ before) qs)
  where
    by : (b : Bool) → Among x (cond b (without before qs) (q ∷ without (q ∷ before) qs))
        → (Among x (without before qs) → Among x qs) → (Among x (without (q ∷ before) qs) → Among x qs)
        → Among x (q ∷ qs)
    by true m old new = inr (old m)
    by false (inl e) old new = inl e
    by false (inr m) old new = inr (new m)

abbrev place_at : Name → Name → Place
place_at e n = (e, n)

from-own : (e p a : Name) (ns : List Name) → Among (place_at p a) (map (place_at e) ns) → (e ≡ p) × Among a ns
from-own e p a [] h = elim h [ ]
from-own e p a (n ∷ ns) (inl h) = (ap (λ (x : Place). x.0) h, inl (ap (λ (x : Place). x.1) h))
from-own e p a (n ∷ ns) (inr m) = let rest = from-own e p a ns m in (rest.0, inr rest.1)

-- a place of n is found in k steps, or there is a path of k steps
IsFound : Schema → Name → Name → Name → Type 0
IsFound s n p a = IsKindOf s n p × DeclaresExplicit s p a

IsClimbed : Schema → Name → Name → Name → ℕ → Type 0
IsClimbed s n p a k = IsFound s n p a ⊎ ((ms : List Name) × (length ms ≡ k) × IsPath s n ms)

found-above : (s : Schema) (n m p a : Name) → IsSubtypeOf s n m → IsFound s m p a → IsFound s n p a
unfolding IsFound
found-above s n m p a h (inl e, d) = (inr ([], subst (λ y. IsSubtypeOf s n y) e h), d)
found-above s n m p a h (inr k, d) = (inr (leads-joined (IsSubtypeOf s) n m p ([], h) k), d)

climbed-above : (s : Schema) (n m p a : Name) (k : ℕ) → IsSubtypeOf s n m → IsClimbed s m p a k
    → IsClimbed s n p a (suc k)
unfolding IsClimbed
climbed-above s n m p a k h (inl f) = inl (found-above s n m p a h f)
climbed-above s n m p a k h (inr (ms, l, path)) = inr (m ∷ ms, ap suc l, (h, path))

found-here : (s : Schema) (n p a : Name) (e : Entity) → IsEntityAt s n e → Among (p, a) (own_places e)
    → IsFound s n p a
unfolding IsFound
found-here s n p a e at h =
    let own = from-own e.name p a (explicit_names e) h in
    let same : n ≡ p = sym (entity-name s n e at).1 ∙ own.0 in
    (inl same, (e, subst (λ y. IsEntityAt s y e) same at, own.1))

climb : (s : Schema) → IsResolved s → (places : Name → List Place) → ArePlaces s places
    → (p a : Name) (k : ℕ) (n : Name) → IsEntity s n → Among (p, a) (places n) → IsClimbed s n p a k
unfolding IsClimbed
climb s r places h p a zero n ent m = inr ([], refl, ent)
climb s r places h p a (suc k) n (e, at) m =
    by (among-either (p, a) above (own_places e) (from-without (p, a) [] (above ++ own_places e)
    (subst (λ qs. Among (p, a) qs) (equation s make_places places n e h at) m))) (climb s r places h p a k)
  where
    above : List Place
    above = flat_map places (supertypes_of e)

    by : Among (p, a) above ⊎ Among (p, a) (own_places e) → ((y : Name) → IsEntity s y → Among (p, a) (places y)
        → IsClimbed s y p a k) → IsClimbed s n p a (suc k)
    by (inl up) more =
        let one = from-flat places (p, a) (supertypes_of e) up in
        climbed-above s n one.0 p a k (e, at, one.1) (more one.0
        (supertype-is-entity s r n one.0 (e, at, one.1)) one.2)
    by (inr own) more = inl (found-here s n p a e at own)

pub places-are-explicit : PlacesAreExplicit
unfolding IsFound IsClimbed
places-are-explicit s n ps p a r (ent, places, h, is) m =
    by (climb s r places h p a (length (names s)) n ent (subst (λ qs. Among (p, a) qs) (sym is) m))
  where
    by : IsClimbed s n p a (length (names s)) → IsFound s n p a
    by (inl f) = f
    by (inr (ms, l, path)) =
        let short : suc (length ms) ≤ length (names s) = path-is-short s r n ms path in absurd (omega arith)
