-- Who is a kind of whom.
use Rattle.std.specs.Prelude.{◌≡◌, ℕ, ◌+◌, Bool, true, false, cond, List, [], ◌∷◌, Some, bytes_eq}
use Rattle.std.proofs.Common.{refl, inl, inr, ap, sym, subst, ◌∙◌}
use Rattle.std.proofs.lemmas.Slice.Eq.{bytes_eq-Decides}
use Rattle.express_syntax.specs.Schemas.{Schema, Declaration, type, entity, skipped, Entity}
use Rattle.schema_semantics.specs.Names.{Name, Among, entities_of, entities, declaration_of, declared_name, is_named, IsEntityAt, IsSubtypeOf, IsBelow, IsKindOf}
use Rattle.schema_semantics.specs.Faults.{declared_from, declared, in_scope, enumerated_items, Declared}
use Rattle.schema_semantics.specs.Names.{attribute_names}
use Rattle.schema_semantics.specs.Laws.{KindsAreOrdered, KindsAreApart, SupertypesDecideKinds, OrderDecidesNoKinds}
use Rattle.schema_semantics.proofs.Lists.{among-right, leads-kept, leads-joined, AreFresh, none-twice, are-fresh, fresh-right}

-- what a name stands for is declared, with that name
abbrev pub IsDeclared : List Declaration → Name → Declaration → Type 0
IsDeclared ds n d = Among d ds × (declared_name d ≡ Some n)

at-front : (x d : Declaration) (m n : Name) (ds : List Declaration) → declared_name x ≡ Some m → (b : Bool)
    → bytes_eq m n ≡ b → cond b (Some x) (declaration_of ds n) ≡ Some d
    → (declaration_of ds n ≡ Some d → IsDeclared ds n d) → IsDeclared (x ∷ ds) n d
at-front x d m n ds named true q e more =
    let same : x ≡ d = cc in
    (inl same, subst (λ y. declared_name y ≡ Some n) same (named ∙ ap Some ((bytes_eq-Decides m n).0 q)))
at-front x d m n ds named false q e more = let rest = more e in (inr rest.0, rest.1)

behind : (x d : Declaration) (n : Name) (ds : List Declaration) → IsDeclared ds n d → IsDeclared (x ∷ ds) n d
behind x d n ds h = (inr h.0, h.1)

pub found : (ds : List Declaration) (n : Name) (d : Declaration) → declaration_of ds n ≡ Some d → IsDeclared ds n d
found [] n d h = absurd (cc)
found (type t ∷ ds) n d h = at-front (type t) d t.name n ds refl (bytes_eq t.name n) refl h (found ds n d)
found (entity e ∷ ds) n d h = at-front (entity e) d e.name n ds refl (bytes_eq e.name n) refl h (found ds n d)
found (skipped p ∷ ds) n d h = behind (skipped p) d n ds (found ds n d h)

pub among-entities : (ds : List Declaration) (e : Entity) → Among (entity e) ds → Among e (entities_of ds)
among-entities [] e h = elim h [ ]
among-entities (type t ∷ ds) e (inl h) = absurd (cc)
among-entities (type t ∷ ds) e (inr h) = among-entities ds e h
among-entities (entity x ∷ ds) e (inl h) = inl (cc)
among-entities (entity x ∷ ds) e (inr h) = inr (among-entities ds e h)
among-entities (skipped p ∷ ds) e (inl h) = absurd (cc)
among-entities (skipped p ∷ ds) e (inr h) = among-entities ds e h

pub entity-name : (s : Schema) (n : Name) (e : Entity) → IsEntityAt s n e → Among e (entities s) × (e.name ≡ n)
entity-name s n e h = let d = found s.declarations n (entity e) h in (among-entities s.declarations e d.0, (cc))

pub kinds-are-ordered : KindsAreOrdered
kinds-are-ordered s = ((λ a. inl refl), through)
  where
    through : (a b c : Name) → IsKindOf s a b → IsKindOf s b c → IsKindOf s a c
    through a b c (inl e) k = subst (λ x. IsKindOf s x c) (sym e) k
    through a b c (inr h) (inl e) = inr (subst (λ x. IsBelow s a x) e h)
    through a b c (inr h) (inr k) = inr (leads-joined (IsSubtypeOf s) a b c h k)

pub kinds-are-apart : KindsAreApart
kinds-are-apart s r a b (inl e) k = e
kinds-are-apart s r a b (inr h) (inl e) = sym e
kinds-are-apart s r a b (inr h) (inr k) = absurd (r.no_supertype_cycle a (leads-joined (IsSubtypeOf s) a b a h k))

kept : (s t : Schema) → ((a b : Name) → IsSubtypeOf s a b → IsSubtypeOf t a b) → (a b : Name) → IsKindOf s a b
    → IsKindOf t a b
kept s t k a b (inl e) = inl e
kept s t k a b (inr h) = inr (leads-kept (IsSubtypeOf s) (IsSubtypeOf t) k a b h)

pub supertypes-decide-kinds : SupertypesDecideKinds
supertypes-decide-kinds s t h a b = (kept s t (λ x y. (h x y).0) a b, kept t s (λ x y. (h x y).1) a b)

-- the entry of a name in the scope of the schema
abbrev in_schema : Name → Declared
in_schema n = (0, n)

-- Each declared name has an entry in the scope of the schema, behind which it comes no more.
declares : (k : ℕ) (ds : List Declaration) (d : Declaration) (n : Name) → Among d ds → declared_name d ≡ Some n
    → Among (in_schema n) (declared_from k ds)
declares k [] d n h named = elim h [ ]
declares k (type t ∷ ds) d n (inl e) named = let same : t.name ≡ n = cc in inl (ap in_schema same)
declares k (type t ∷ ds) d n (inr m) named =
    inr (among-right (in_schema n) (in_scope k (enumerated_items t.underlying)) (declared_from (k + 1) ds)
    (declares (k + 1) ds d n m named))
declares k (entity e ∷ ds) d n (inl f) named = let same : e.name ≡ n = cc in inl (ap in_schema same)
declares k (entity e ∷ ds) d n (inr m) named =
    inr (among-right (in_schema n) (in_scope k (attribute_names e)) (declared_from (k + 1) ds)
    (declares (k + 1) ds d n m named))
declares k (skipped p ∷ ds) d n (inl e) named = absurd (cc)
declares k (skipped p ∷ ds) d n (inr m) named = declares (k + 1) ds d n m named

-- A declaration is what its name stands for where no name is declared twice.
stands-at-front : (k : ℕ) (x d : Declaration) (m n : Name) (ds : List Declaration) → declared_name x ≡ Some m
    → (Among (in_schema m) (declared_from k ds) → ⊥) → Among d (x ∷ ds) → declared_name d ≡ Some n
    → (Among d ds → declaration_of ds n ≡ Some d) → (b : Bool) → bytes_eq m n ≡ b
    → cond b (Some x) (declaration_of ds n) ≡ Some d
stands-at-front k x d m n ds named fresh (inl e) is more true q = ap Some e
stands-at-front k x d m n ds named fresh (inl e) is more false q =
    absurd (differ ((bytes_eq-Decides m n).1 (same (sym named ∙ ap declared_name e ∙ is))))
  where
    same : Some m ≡ Some n → m ≡ n
    same h = cc

    differ : bytes_eq m n ≡ true → ⊥
    differ h = cc
stands-at-front k x d m n ds named fresh (inr h) is more true q =
    absurd (fresh (subst (λ y. Among (in_schema y) (declared_from k ds)) (sym ((bytes_eq-Decides m n).0 q))
    (declares k ds d n h is)))
stands-at-front k x d m n ds named fresh (inr h) is more false q = more h

pub stands : (k : ℕ) (ds : List Declaration) (d : Declaration) (n : Name) → AreFresh (declared_from k ds) → Among d ds
    → declared_name d ≡ Some n → declaration_of ds n ≡ Some d
stands k [] d n fresh h named = elim h [ ]
stands k (type t ∷ ds) d n fresh h named =
    let fresh-on = fresh-right (in_scope k (enumerated_items t.underlying)) (declared_from (k + 1) ds) fresh.1 in
    stands-at-front (k + 1) (type t) d t.name n ds refl
    (λ m. fresh.0 (among-right (in_schema t.name) (in_scope k (enumerated_items t.underlying)) (declared_from (k + 1) ds) m))
    h named (λ m. stands (k + 1) ds d n fresh-on m named) (bytes_eq t.name n) refl
stands k (entity e ∷ ds) d n fresh h named =
    let fresh-on = fresh-right (in_scope k (attribute_names e)) (declared_from (k + 1) ds) fresh.1 in
    stands-at-front (k + 1) (entity e) d e.name n ds refl
    (λ m. fresh.0 (among-right (in_schema e.name) (in_scope k (attribute_names e)) (declared_from (k + 1) ds) m))
    h named (λ m. stands (k + 1) ds d n fresh-on m named) (bytes_eq e.name n) refl
stands k (skipped p ∷ ds) d n fresh (inl e) named = absurd (cc)
stands k (skipped p ∷ ds) d n fresh (inr m) named = stands (k + 1) ds d n fresh m named

-- something stands for the name of each declaration
has-some : (ds : List Declaration) (d : Declaration) (n : Name) → Among d ds → declared_name d ≡ Some n
    → (x : Declaration) × (declaration_of ds n ≡ Some x)
has-some [] d n h named = elim h [ ]
has-some (x ∷ ds) d n (inl e) named =
    (x, rw (subst (λ y. is_named n (declared_name y) ≡ true) (sym e) (rw named ((bytes_eq-Decides n n).1 refl))) refl)
has-some (x ∷ ds) d n (inr m) named = by (is_named n (declared_name x)) (has-some ds d n m named)
  where
    by : (b : Bool) → (y : Declaration) × (declaration_of ds n ≡ Some y) → (y : Declaration)
        × (cond b (Some x) (declaration_of ds n) ≡ Some y)
    by true h = (x, refl)
    by false h = h

-- the same declarations in another order
same-entity : (s t : Schema) → AreFresh (declared s) → ((d : Declaration) → Among d s.declarations
    → Among d t.declarations) → ((d : Declaration) → Among d t.declarations → Among d s.declarations)
    → (n : Name) (e : Entity) → IsEntityAt s n e → IsEntityAt t n e
same-entity s t fresh there back n e at =
    let known = found s.declarations n (entity e) at in
    let some = has-some t.declarations (entity e) n (there (entity e) known.0) known.1 in
    let met = found t.declarations n some.0 some.1 in
    let one = stands 1 s.declarations some.0 n fresh (back some.0 met.0) met.1 in
    some.1 ∙ sym one ∙ at

other-entity : (s t : Schema) → AreFresh (declared s) → ((d : Declaration) → Among d t.declarations
    → Among d s.declarations) → (n : Name) (e : Entity) → IsEntityAt t n e → IsEntityAt s n e
other-entity s t fresh back n e at =
    let known = found t.declarations n (entity e) at in
    stands 1 s.declarations (entity e) n fresh (back (entity e) known.0) known.1

pub the-order-decides-no-kinds : OrderDecidesNoKinds
the-order-decides-no-kinds s t free same = supertypes-decide-kinds s t (λ a b. (there a b, back a b))
  where
    fresh : AreFresh (declared s)
    fresh = are-fresh (declared s) (none-twice (declared s) (λ x f. free x.1 (x.0, f)))

    there : (a b : Name) → IsSubtypeOf s a b → IsSubtypeOf t a b
    there a b (e, at, m) = (e, same-entity s t fresh (λ d. (same d).0) (λ d. (same d).1) a e at, m)

    back : (a b : Name) → IsSubtypeOf t a b → IsSubtypeOf s a b
    back a b (e, at, m) = (e, other-entity s t fresh (λ d. (same d).1) a e at, m)
