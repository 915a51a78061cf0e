-- Rows of the places that entities declare themselves.
use Rattle.std.specs.Prelude.{◌≡◌, ℕ, Bool, true, false, cond, ◌||◌, List, [], ◌∷◌, Option, None, Some, map, slice_get, eqb, ◌↔◌, MatchOption}
use Rattle.std.specs.List.{find}
use Rattle.std.proofs.Common.{refl, inl, inr, ap, sym, subst, ◌∙◌, arith}
use Rattle.std.proofs.lemmas.Bool.Decides.{nat_tests}
use Rattle.std.proofs.lemmas.Slice.Eq.{bytes_eq-Decides}
use Rattle.graphs.specs.Graphs.{Graph, has, next}
use Rattle.express_syntax.specs.Schemas.{Schema, Declaration, type, entity, skipped, Entity}
use Rattle.schema_semantics.specs.Names.{Name, Among, IsEntity, declared_name, explicit_names}
use Rattle.schema_semantics.specs.Faults.{IsResolved}
use Rattle.schema_semantics.specs.Attributes.{Place, own_places}
use Rattle.schema_semantics.proofs.Lists.{from-flat}
use Rattle.schema_names.specs.Numbers.{HasNumber, IsAt, AreAt}
use Rattle.schema_names.proofs.Numbers.{stands-at, what-stands}
use Rattle.schema_names.proofs.Items.{front-at, back-at, row-at}
use Rattle.schema_explicit_attributes.specs.Places.{places_in, all_places, ArePlaceRows}
use Rattle.schema_explicit_attributes.proofs.Distinct.{at-among, places-are-one}
use Rattle.schema_explicit_attributes.proofs.OwnNumbers.{own-number-of}
use Rattle.schema_attributes.proofs.Redeclared.{one-number}
use Rattle.schema_attributes.proofs.Rows.{among-at}
use Rattle.schema_redeclarations.specs.Uses.{HasPlace}
use Rattle.schema_redeclarations.specs.steps.Speaking.{at_most_one, has_name}

pub or-none : (b : Bool) → (b || false) ≡ b
or-none true = refl
or-none false = refl

-- a number is among one
pub has-one : (x : ℕ) → has (x ∷ []) x ≡ true
has-one x =
    let same : eqb x x ≡ true = grind (arith, nat_tests) in
    or-none (eqb x x) ∙ same

pub one-has : (x y : ℕ) → has (x ∷ []) y ≡ true → y ≡ x
one-has x y h =
    let e : eqb y x ≡ true = sym (or-none (eqb y x)) ∙ h in
    grind (arith, nat_tests)

-- The first that passes a test does, and where there is none, none does.
pub found-so : (test : ℕ → Bool) (xs : List ℕ)
    → MatchOption (find test xs) ((q : ℕ) → has xs q ≡ true → test q ≡ false)
    (λ q. (has xs q ≡ true) × (test q ≡ true))
found-so test [] = λ q h. absurd (cc)
found-so test (x ∷ xs) = by (test x) refl (find test xs) (found-so test xs)
  where
    here : has (x ∷ xs) x ≡ true
    here = let same : eqb x x ≡ true = grind (arith, nat_tests) in ap (λ b. b || has xs x) same

    later : (b c : Bool) → c ≡ true → (b || c) ≡ true
    later true c e = refl
    later false c e = e

    none : (q : ℕ) (b : Bool) → eqb q x ≡ b → test x ≡ false → (b || has xs q) ≡ true
        → (has xs q ≡ true → test q ≡ false) → test q ≡ false
    none q true e fails h more = let is : q ≡ x = grind (arith, nat_tests) in ap test is ∙ fails
    none q false e fails h more = more h

    by : (b : Bool) → test x ≡ b → (o : Option ℕ)
        → MatchOption o ((q : ℕ) → has xs q ≡ true → test q ≡ false) (λ q. (has xs q ≡ true) × (test q ≡ true))
        → MatchOption (cond b (Some x) o) ((q : ℕ) → has (x ∷ xs) q ≡ true → test q ≡ false)
        (λ q. (has (x ∷ xs) q ≡ true) × (test q ≡ true))
    by true e o h = (here, e)
    by false e None h = λ q k. none q (eqb q x) refl e k (h q)
    by false e (Some y) h = (later (eqb y x) (has xs y) h.0, h.1)

-- what stands at the numbers of a row
in-row : (all : List Place) (row : List ℕ) (ps : List Place) (q : ℕ) → AreAt all row ps → has row q ≡ true
    → (p : Place) × Among p ps × (slice_get all q ≡ Some p)
in-row all [] ps q h k = absurd (cc)
in-row all (x ∷ row) [] q h k = absurd (cc)
in-row all (x ∷ row) (p ∷ ps) q h k = by (eqb q x) refl k (in-row all row ps q (back-at all x row p ps h))
  where
    by : (c : Bool) → eqb q x ≡ c → (c || has row q) ≡ true
        → (has row q ≡ true → (r : Place) × Among r ps × (slice_get all q ≡ Some r))
        → (r : Place) × Among r (p ∷ ps) × (slice_get all q ≡ Some r)
    by true e k more =
        let is : q ≡ x = grind (arith, nat_tests) in
        (p, inl refl, ap (slice_get all) is ∙ front-at all x row p ps h)
    by false e k more = let (r, m, at) = more k in (r, inr m, at)

at-row : (all : List Place) (row : List ℕ) (ps : List Place) (p : Place) → AreAt all row ps → Among p ps
    → (q : ℕ) × (has row q ≡ true) × (slice_get all q ≡ Some p)
at-row all row [] p h m = elim m [ ]
at-row all [] (r ∷ ps) p h m = absurd (cc)
at-row all (x ∷ row) (r ∷ ps) p h (inl e) =
    let here : eqb x x ≡ true = grind (arith, nat_tests) in
    (x, ap (λ b. b || has row x) here, front-at all x row r ps h ∙ ap Some e)
at-row all (x ∷ row) (r ∷ ps) p h (inr m) =
    let (q, k, at) = at-row all row ps p (back-at all x row r ps h) m in
    (q, later (eqb q x) (has row q) k, at)
  where
    later : (b c : Bool) → c ≡ true → (b || c) ≡ true
    later true c e = refl
    later false c e = e

-- the entity of its own places
of-entity : (e : Name) (ns : List Name) (p : Place) → Among p (map (λ (n : Name). (e, n)) ns) → e ≡ p.0
of-entity e [] p h = elim h [ ]
of-entity e (n ∷ ns) p (inl h) = ap (λ (q : Place). q.0) h
of-entity e (n ∷ ns) p (inr h) = of-entity e ns p h

module _ (s : Schema) (r : IsResolved s) where
  -- no place has two numbers
  pub one-at : (p : Place) (a b : ℕ) → HasPlace s p a → HasPlace s p b → a ≡ b
  one-at p a b h k = places-are-one s r.once a b p h k

  module _ (rows : Graph) (own : ArePlaceRows (all_places s) s.declarations rows) where
    pub own-row : (i : ℕ) (e : Entity) → IsAt s i (entity e) → AreAt (all_places s) (next rows i) (own_places e)
    own-row i e at = row-at places_in (all_places s) s.declarations rows i (entity e) own at

    -- the row of an entity has places of it
    own-forth : (p : Name) (j q : ℕ) → IsEntity s p → HasNumber s p j → has (next rows j) q ≡ true → (b : Name)
        × HasPlace s (p, b) q
    own-forth p j q (e, here) k h =
        let (d, at, named) = what-stands s p j k in
        let is : Some d ≡ Some (entity e) = sym at ∙ sym (stands-at s p j k) ∙ here in
        let there : IsAt s j (entity e) = at ∙ is in
        let (o, m, standing) = in-row (all_places s) (next rows j) (own_places e) q (own-row j e there) h in
        let called : e.name ≡ p = name-is d e is named in
        let same : p ≡ o.0 = sym called ∙ of-entity e.name (explicit_names e) o m in
        (o.1, standing ∙ λ i. Some (sym same i, o.1))
      where
        name-is : (d : Declaration) (e : Entity) → Some d ≡ Some (entity e) → declared_name d ≡ Some p → e.name ≡ p
        name-is d e is named =
            let same : d ≡ entity e = cc in
            let called : Some e.name ≡ Some p = sym (ap declared_name same) ∙ named in
            cc

    -- and all of them
    own-back : (p a : Name) (j q : ℕ) → HasNumber s p j → HasPlace s (p, a) q → has (next rows j) q ≡ true
    own-back p a j q k at =
        let (d, m, n) = from-flat places_in (p, a) s.declarations (at-among (all_places s) q (p, a) at) in
        by d m n
      where
        by : (d : Declaration) → Among d s.declarations → Among (p, a) (places_in d) → has (next rows j) q ≡ true
        by (type t) m n = elim n [ ]
        by (skipped t) m n = elim n [ ]
        by (entity e) m n =
            let (i, here) = among-at s.declarations (entity e) m in
            let named = of-entity e.name (explicit_names e) (p, a) n in
            let number = own-number-of s i (entity e) p r.once here (ap Some named) in
            let same : i ≡ j = one-number s p p i j number k refl in
            let (x, h, standing) = at-row (all_places s) (next rows i) (own_places e) (p, a) (own-row i e here) n in
            let is : x ≡ q = one-at (p, a) x q standing at in
            subst (λ i. has (next rows i) q ≡ true) same (subst (λ y. has (next rows i) y ≡ true) is h)

    -- the attribute of a name is found in it
    pub own-found : (p a : Name) (j : ℕ) → IsEntity s p → HasNumber s p j → (o : Option ℕ)
        → o ≡ find (λ q. has_name a (slice_get (all_places s) q)) (next rows j)
        → (q : ℕ) → (has (at_most_one o) q ≡ true) ↔ HasPlace s (p, a) q
    own-found p a j ent k o is q = by o (subst Found (sym is) (found-so test (next rows j)))
      where
        test : ℕ → Bool
        test = λ x. has_name a (slice_get (all_places s) x)

        Found : Option ℕ → Type 0
        Found o =
            MatchOption o ((x : ℕ) → has (next rows j) x ≡ true → has_name a (slice_get (all_places s) x) ≡ false)
            (λ x. (has (next rows j) x ≡ true) × (has_name a (slice_get (all_places s) x) ≡ true))

        named : HasPlace s (p, a) q → has_name a (slice_get (all_places s) q) ≡ true
        named at = ap (has_name a) at ∙ (bytes_eq-Decides a a).1 refl

        placed : (x : ℕ) → has (next rows j) x ≡ true → has_name a (slice_get (all_places s) x) ≡ true
            → HasPlace s (p, a) x
        placed x h t =
            let (b, at) = own-forth p j x ent k h in
            let same : b ≡ a = (bytes_eq-Decides b a).0 (sym (ap (has_name a) at) ∙ t) in
            at ∙ λ i. Some (p, same i)

        by : (o : Option ℕ)
            → MatchOption o ((x : ℕ) → has (next rows j) x ≡ true → has_name a (slice_get (all_places s) x) ≡ false)
            (λ x. (has (next rows j) x ≡ true) × (has_name a (slice_get (all_places s) x) ≡ true))
            → (has (at_most_one o) q ≡ true) ↔ HasPlace s (p, a) q
        by None h = (
          (λ e. absurd (cc)),
          (λ at. let e = sym (named at) ∙ h q (own-back p a j q k at) in absurd (cc)),
        )
        by (Some x) h =
            let at = placed x h.0 h.1 in (
              (λ e. subst (HasPlace s (p, a)) (sym (one-has x q e)) at),
              (λ there. subst (λ y. has (x ∷ []) y ≡ true) (one-at (p, a) x q at there) (has-one x)),
            )
