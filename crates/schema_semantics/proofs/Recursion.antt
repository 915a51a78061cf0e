-- Recursion over supertypes: where the names are resolved, it has one solution.
use Rattle.std.specs.Prelude.{◌≡◌, ℕ, zero, suc, ◌≤◌, Bool, true, false, ◌||◌, List, [], ◌∷◌, ◌++◌, length, map, flat_map, Option, Some, None, bytes_eq, ◌⊎◌}
use Rattle.std.specs.List.{IsDistinct, AllByRecursion, list_any}
use Rattle.std.proofs.Common.{refl, inl, inr, ap, sym, subst, ◌∙◌, arith}
use Rattle.std.proofs.lemmas.Slice.Eq.{bytes_eq-Decides}
use Rattle.std.proofs.lemmas.Cmp.{nat_list_eq_equiv}
use Rattle.std.proofs.lemmas.Map.Made.{length-le_from_is_member}
use Rattle.express_syntax.specs.Schemas.{Schema, Declaration, type, entity, skipped, Entity, Inverse}
use Rattle.express_syntax.specs.Profile.{Every}
use Rattle.schema_semantics.specs.Names.{Name, Among, listed, entities, entities_of, supertypes_of, declaration_of, IsEntity, IsEntityAt, IsSubtypeOf, IsBelow, IsKindOf}
use Rattle.schema_semantics.specs.Faults.{Demand, an_entity, IsMet, demands, declared, demands_of_declaration, demands_of_supertype, demands_of_explicit, demands_of_derived, demands_of_inverse, IsResolved}
use Rattle.schema_semantics.specs.Attributes.{Place, once, own_places}
use Rattle.schema_semantics.proofs.Lists.{among-left, among-right, among-map, among-flat, every-at, every-of, are-fresh, leads-on}
use Rattle.schema_semantics.proofs.Supertypes.{found, entity-name, stands}
use Rattle.schema_semantics.proofs.Bools.{is-false, or-left, or-right}

-- where the names are resolved, supertypes are entities
is-asked : (s : Schema) (e : Entity) (n m : Name) → IsEntityAt s n e → Among m (supertypes_of e)
    → Among (an_entity m) (demands s)
is-asked s e n m at sup =
    among-flat demands_of_declaration (entity e) (an_entity m) s.declarations (found s.declarations n (entity e) at).0
    (among-left (an_entity m) (((heads ++ supers) ++ explicits) ++ deriveds) inverses
    (among-left (an_entity m) ((heads ++ supers) ++ explicits) deriveds
    (among-left (an_entity m) (heads ++ supers) explicits
    (among-right (an_entity m) heads supers (among-map an_entity m (supertypes_of e) sup)))))
  where
    heads : List Demand
    heads = demands_of_supertype e.supertype

    supers : List Demand
    supers = map an_entity (supertypes_of e)

    explicits : List Demand
    explicits = flat_map (demands_of_explicit (supertypes_of e)) e.explicits

    deriveds : List Demand
    deriveds = flat_map (demands_of_derived (supertypes_of e)) (listed e.derived)

    inverses : List Demand
    inverses = flat_map (λ (i : Inverse). demands_of_inverse i.attribute i) (listed e.inverses)

pub supertype-is-entity : (s : Schema) → IsResolved s → (n m : Name) → IsSubtypeOf s n m → IsEntity s m
supertype-is-entity s r n m (e, at, sup) =
    every-at (IsMet s) (an_entity m) (demands s) r.known (is-asked s e n m at sup)

-- from supertype to supertype, all of them entities
abbrev pub IsPath : Schema → Name → List Name → Type 0
IsPath s n [] = IsEntity s n
IsPath s n (m ∷ ms) = IsSubtypeOf s n m × IsPath s m ms

one-on : (s : Schema) (x n m : Name) → IsKindOf s x n → IsSubtypeOf s n m → IsBelow s x m
one-on s x n m (inl e) h = ([], subst (λ y. IsSubtypeOf s y m) (sym e) h)
one-on s x n m (inr k) h = leads-on (IsSubtypeOf s) x n m k h

apart-on : (s : Schema) → IsResolved s → (x n : Name) (ms : List Name) → IsKindOf s x n → IsPath s n ms
    → AllByRecursion (λ (y : Name). bytes_eq x y ≡ false) ms
apart-on s r x n [] k p = tt
apart-on s r x n (m ∷ ms) k p =
    let below = one-on s x n m k p.0 in (
      is-false (bytes_eq x m) (λ e. r.no_supertype_cycle x (subst (λ y. IsBelow s x y)
          (sym ((bytes_eq-Decides x m).0 e)) below)),
      apart-on s r x m ms (inr below) p.1,
    )

path-distinct : (s : Schema) → IsResolved s → (n : Name) (ms : List Name) → IsPath s n ms
    → IsDistinct bytes_eq (n ∷ ms)
unfolding IsDistinct
path-distinct s r n [] p = (tt, tt)
path-distinct s r n (m ∷ ms) p = (apart-on s r n n (m ∷ ms) (inl refl) p, path-distinct s r m ms p.1)

pub names : Schema → List Name
names s = map (λ (e : Entity). e.name) (entities s)

named : (s : Schema) (n : Name) → IsEntity s n → Among n (names s)
unfolding names
named s n (e, at) =
    let known = entity-name s n e at in subst (λ m. Among m (names s)) known.1
    (among-map (λ (e : Entity). e.name) e (entities s) known.0)

path-named : (s : Schema) (n : Name) (ms : List Name) → IsPath s n ms → (q : Name) → Among q (n ∷ ms)
    → Among q (names s)
path-named s n [] p q (inl e) = subst (λ m. Among m (names s)) e (named s n p)
path-named s n [] p q (inr h) = elim h [ ]
path-named s n (m ∷ ms) p q (inl e) = subst (λ m. Among m (names s)) e (named s n (p.0.0, p.0.1))
path-named s n (m ∷ ms) p q (inr h) = path-named s m ms p.1 q h

pub to-any : (q : Name) (xs : List Name) → Among q xs → list_any (bytes_eq q) xs ≡ true
to-any q [] h = elim h [ ]
to-any q (x ∷ xs) (inl e) = or-left (bytes_eq q x) (list_any (bytes_eq q) xs) ((bytes_eq-Decides q x).1 (sym e))
to-any q (x ∷ xs) (inr m) = or-right (bytes_eq q x) (list_any (bytes_eq q) xs) (to-any q xs m)

pub from-any : (q : Name) (xs : List Name) → list_any (bytes_eq q) xs ≡ true → Among q xs
from-any q [] h = absurd (cc)
from-any q (x ∷ xs) h = by (bytes_eq q x) refl h (from-any q xs)
  where
    by : (b : Bool) → bytes_eq q x ≡ b → (b || list_any (bytes_eq q) xs) ≡ true
        → (list_any (bytes_eq q) xs ≡ true → Among q xs) → Among q (x ∷ xs)
    by true e k more = inl (sym ((bytes_eq-Decides q x).0 e))
    by false e k more = inr (more k)

-- a path has no more entities than the schema
pub path-is-short : (s : Schema) → IsResolved s → (n : Name) (ms : List Name) → IsPath s n ms
    → length (n ∷ ms) ≤ length (names s)
path-is-short s r n ms p =
    length-le_from_is_member {eq = bytes_eq} nat_list_eq_equiv (n ∷ ms) (names s) (path-distinct s r n ms p)
    (λ q h. to-any q (names s) (path-named s n ms p q (from-any q (n ∷ ms) h)))

-- what each entity makes of what its supertypes have
abbrev pub Solves : {X : Type 0} → Schema → (Entity → List X → List X) → (Name → List X) → Type 0
Solves s make f = Every (λ (e : Entity). f e.name ≡ make e (flat_map f (supertypes_of e))) (entities s)

abbrev pub make_places : Entity → List Place → List Place
make_places e above = once (above ++ own_places e)

abbrev pub make_line : Entity → List Name → List Name
make_line e above = e.name ∷ above

-- the equation of an entity
pub equation : {X : Type 0} (s : Schema) (make : Entity → List X → List X) (f : Name → List X) (n : Name)
    (e : Entity) → Solves s make f → IsEntityAt s n e → f n ≡ make e (flat_map f (supertypes_of e))
equation s make f n e h at =
    let known = entity-name s n e at in
    subst (λ m. f m ≡ make e (flat_map f (supertypes_of e))) known.1
    (every-at (λ (e : Entity). f e.name ≡ make e (flat_map f (supertypes_of e))) e (entities s) h known.0)

-- two lists for n are one, or there is a path of k steps
abbrev IsOne : {X : Type 0} → Schema → (Name → List X) → (Name → List X) → Name → ℕ → Type 0
IsOne s f g n k = (f n ≡ g n) ⊎ ((ms : List Name) × (length ms ≡ k) × IsPath s n ms)

-- If two lists are one, or there is a path, for each of some supertypes, then their joined lists
-- are one, or there is a path that is one step longer.
each-one : {X : Type 0} (s : Schema) (f g : Name → List X) (n : Name) (k : ℕ) (ms : List Name)
    → ((m : Name) → Among m ms → IsSubtypeOf s n m) → ((m : Name) → Among m ms → IsOne s f g m k)
    → (flat_map f ms ≡ flat_map g ms) ⊎ ((path : List Name) × (length path ≡ suc k) × IsPath s n path)
each-one s f g n k [] up h = inl refl
each-one {X} s f g n k (m ∷ ms) up h =
    by (h m (inl refl)) (each-one s f g n k ms (λ x i. up x (inr i)) (λ x i. h x (inr i)))
  where
    Result : List Name → Type 0
    Result ls =
        (flat_map f ls ≡ flat_map g ls) ⊎ ((path : List Name) × (length path ≡ suc k) × IsPath s n path)

    by : (f m ≡ g m) ⊎ ((path : List Name) × (length path ≡ k) × IsPath s m path) → Result ms
        → Result (m ∷ ms)
    by (inl e) (inl f) = inl (rw (e, f) refl)
    by (inl e) (inr p) = inr p
    by (inr (path, l, p)) rest = inr (m ∷ path, ap suc l, (up m (inl refl), p))

no-long-path : (s : Schema) → IsResolved s → (n : Name) (ms : List Name) → length ms ≡ length (names s)
    → IsPath s n ms → ⊥
no-long-path s r n ms l path =
    let short : suc (length ms) ≤ length (names s) = path-is-short s r n ms path in absurd (omega arith)

one-or-path : {X : Type 0} (s : Schema) → IsResolved s → (make : Entity → List X → List X) (f g : Name → List X)
    → Solves s make f → Solves s make g → (k : ℕ) (n : Name) → IsEntity s n → IsOne s f g n k
one-or-path s r make f g h i zero n ent = inr ([], refl, ent)
one-or-path {X} s r make f g h i (suc k) n (e, at) =
    by (each-one s f g n k (supertypes_of e) (λ m j. (e, at, j))
    (λ m j. one-or-path s r make f g h i k m (supertype-is-entity s r n m (e, at, j))))
  where
    Paths : Type 0
    Paths = (path : List Name) × (length path ≡ suc k) × IsPath s n path

    by : (flat_map f (supertypes_of e) ≡ flat_map g (supertypes_of e)) ⊎ Paths → (f n ≡ g n) ⊎ Paths
    by (inl same) = inl (equation s make f n e h at ∙ ap (make e) same ∙ sym (equation s make g n e i at))
    by (inr path) = inr path

-- there is one solution at most
pub solutions-are-one : {X : Type 0} (s : Schema) → IsResolved s → (make : Entity → List X → List X)
    (f g : Name → List X) → Solves s make f → Solves s make g → (n : Name) → IsEntity s n → f n ≡ g n
solutions-are-one {X} s r make f g h i n ent = by (one-or-path s r make f g h i (length (names s)) n ent)
  where
    by : IsOne s f g n (length (names s)) → f n ≡ g n
    by (inl same) = same
    by (inr (ms, l, path)) = absurd (no-long-path s r n ms l path)

-- and one is found by as many rounds as there are entities
of-declared : {X : Type 0} → (Entity → List X → List X) → (Name → List X) → Option Declaration → List X
of-declared make f (Some (entity e)) = make e (flat_map f (supertypes_of e))
of-declared make f (Some (type t)) = []
of-declared make f (Some (skipped p)) = []
of-declared make f None = []

tried : {X : Type 0} → Schema → (Entity → List X → List X) → ℕ → Name → List X
tried s make zero n = []
tried s make (suc k) n = of-declared make (tried s make k) (declaration_of s.declarations n)

tried-more : {X : Type 0} (s : Schema) (make : Entity → List X → List X) (k : ℕ) (n : Name) (e : Entity)
    → IsEntityAt s n e → tried s make (suc k) n ≡ make e (flat_map (tried s make k) (supertypes_of e))
unfolding tried of-declared
tried-more s make k n e at = ap (of-declared make (tried s make k)) at

settled-or-path : {X : Type 0} (s : Schema) → IsResolved s → (make : Entity → List X → List X) (k : ℕ) (n : Name)
    → IsEntity s n → IsOne s (tried s make k) (tried s make (suc k)) n k
settled-or-path s r make zero n ent = inr ([], refl, ent)
settled-or-path {X} s r make (suc k) n (e, at) =
    by (each-one s (tried s make k) (tried s make (suc k)) n k (supertypes_of e) (λ m j. (e, at, j))
    (λ m j. settled-or-path s r make k m (supertype-is-entity s r n m (e, at, j))))
  where
    Paths : Type 0
    Paths = (path : List Name) × (length path ≡ suc k) × IsPath s n path

    by : (flat_map (tried s make k) (supertypes_of e) ≡ flat_map (tried s make (suc k)) (supertypes_of e)) ⊎ Paths
        → (tried s make (suc k) n ≡ tried s make (suc (suc k)) n) ⊎ Paths
    by (inl same) =
        inl (tried-more s make k n e at ∙ ap (make e) same ∙ sym (tried-more s make (suc k) n e at))
    by (inr path) = inr path

settled : {X : Type 0} (s : Schema) → IsResolved s → (make : Entity → List X → List X) (n : Name)
    → IsEntity s n → tried s make (length (names s)) n ≡ tried s make (suc (length (names s))) n
settled {X} s r make n ent = by (settled-or-path s r make (length (names s)) n ent)
  where
    by : IsOne s (tried s make (length (names s))) (tried s make (suc (length (names s)))) n (length (names s))
        → tried s make (length (names s)) n ≡ tried s make (suc (length (names s))) n
    by (inl same) = same
    by (inr (ms, l, path)) = absurd (no-long-path s r n ms l path)

pub declared-entity : (ds : List Declaration) (e : Entity) → Among e (entities_of ds) → Among (entity e) ds
declared-entity [] e h = elim h [ ]
declared-entity (type t ∷ ds) e h = inr (declared-entity ds e h)
declared-entity (entity x ∷ ds) e (inl h) = inl (ap entity h)
declared-entity (entity x ∷ ds) e (inr h) = inr (declared-entity ds e h)
declared-entity (skipped p ∷ ds) e h = inr (declared-entity ds e h)

-- each entity is what its name stands for
stands-for : (s : Schema) → IsResolved s → (e : Entity) → Among e (entities s) → IsEntityAt s e.name e
stands-for s r e m =
    stands 1 s.declarations (entity e) e.name (are-fresh (declared s) r.once)
    (declared-entity s.declarations e m) refl

pub solution : {X : Type 0} (s : Schema) → IsResolved s → (make : Entity → List X → List X)
    → (f : Name → List X) × Solves s make f
solution s r make = (
  tried s make (length (names s)),
  every-of (λ (e : Entity). tried s make (length (names s)) e.name
      ≡ make e (flat_map (tried s make (length (names s))) (supertypes_of e))) (entities s) (λ e m. let at = stands-for s r e m in
      settled s r make e.name (e, at) ∙ tried-more s make (length (names s)) e.name e at),
)
