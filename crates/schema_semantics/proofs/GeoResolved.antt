-- The names of a schema of points, placements and shapes are resolved.
use Rattle.std.specs.Prelude.{◌≡◌, ℕ, ◌<◌, Bool, true, false, cond, ◌==◌, not, ◌&&◌, ◌||◌, List, [], ◌∷◌, bytes_eq}
use Rattle.std.specs.List.{list_any}
use Rattle.std.proofs.Common.{refl, inl, inr, ap, sym, subst, arith}
use Rattle.std.proofs.lemmas.Slice.Eq.{bytes_eq-Decides}
use Rattle.graphs.specs.Graphs.{Chain, Leads}
use Rattle.express_syntax.specs.Schemas.{TypeDeclaration, Entity, Underlying, enumeration, select, data_type, DataType, named, integer}
use Rattle.express_syntax.specs.Profile.{Every}
use Rattle.schema_semantics.specs.Names.{Name, Among, entities, types, supertypes_of, IsSubtypeOf, Renames, HasItem, IsMadeOf}
use Rattle.schema_semantics.specs.Faults.{Declared, declared, IsMet, demands, IsResolved}
use Rattle.schema_semantics.proofs.Lists.{AreFresh, fresh-once, every-at}
use Rattle.schema_semantics.proofs.Bools.{both-hold, or-left, or-right}
use Rattle.schema_semantics.proofs.Supertypes.{entity-name}
use Rattle.schema_semantics.proofs.Faults.{type-name}
use Rattle.schema_semantics.proofs.Geo as geo

-- what falls along each step leads nowhere back
falls : {A : Type 0} (S : A → A → Type 0) (level : A → ℕ) → ((a b : A) → S a b → level b < level a) → (a : A)
    (ms : List A) (b : A) → Chain S a ms b → level b < level a
falls S level down a [] b h = down a b h
falls S level down a (m ∷ ms) b h =
    let first : level m < level a = down a m h.0 in
    let rest : level b < level m = falls S level down m ms b h.1 in
    omega (arith, first, rest)

no-way-back : {A : Type 0} (S : A → A → Type 0) (level : A → ℕ) → ((a b : A) → S a b → level b < level a)
    → (a : A) → Leads S a a → ⊥
no-way-back S level down a (ms, h) =
    let less : level a < level a = falls S level down a ms a h in absurd (omega (arith, less))

-- names that are apart
abbrev same_declared : Declared → Declared → Bool
same_declared x y = (x.0 == y.0) && bytes_eq x.1 y.1

abbrev are_apart : List Declared → Bool
are_apart [] = true
are_apart (x ∷ xs) = not (list_any (same_declared x) xs) && are_apart xs

same-itself : (x : Declared) → same_declared x x ≡ true
same-itself (n, a) = rw ((bytes_eq-Decides a a).1 refl) (both (n == n) (grind (arith)))
  where
    both : (b : Bool) → b ≡ true → (b && true) ≡ true
    both true e = refl
    both false e = absurd (cc)

found-same : (x : Declared) (xs : List Declared) → Among x xs → list_any (same_declared x) xs ≡ true
found-same x [] h = elim h [ ]
found-same x (y ∷ ys) (inl e) =
    or-left (same_declared x y) (list_any (same_declared x) ys)
    (subst (λ z. same_declared x z ≡ true) (sym e) (same-itself x))
found-same x (y ∷ ys) (inr m) = or-right (same_declared x y) (list_any (same_declared x) ys) (found-same x ys m)

not-true : (b : Bool) → not b ≡ true → b ≡ true → ⊥
not-true true h e = absurd (cc)
not-true false h e = absurd (cc)

are-fresh-by : (xs : List Declared) → are_apart xs ≡ true → AreFresh xs
are-fresh-by [] h = tt
are-fresh-by (x ∷ xs) h =
    let parts = both-hold (not (list_any (same_declared x) xs)) (are_apart xs) h in
    ((λ m. not-true (list_any (same_declared x) xs) parts.0 (found-same x xs m)), are-fresh-by xs parts.1)

-- supertypes
abbrev level : Name → ℕ
level n =
    cond (bytes_eq n geo.PLAIN_MARK) 2 (cond (bytes_eq n geo.LOOP || (bytes_eq n geo.GROUP || (bytes_eq n geo.SOLID
    || bytes_eq n geo.MARKED))) 1 0)

up : (a b : Name) → IsSubtypeOf geo.geo a b → level b < level a
up a b (e, at, m) =
    let known = entity-name geo.geo a e at in
    subst (λ n. level b < level n) known.1 (every-at (λ (b : Name). level b < level e.name) b (supertypes_of e)
    (every-at (λ (e : Entity). Every (λ (b : Name). level b < level e.name) (supertypes_of e)) e (entities geo.geo)
    all known.0) m)
  where
    all : Every (λ (e : Entity). Every (λ (b : Name). level b < level e.name) (supertypes_of e)) (entities geo.geo)
    all = (tt, (tt, (tt, (tt, ((omega arith, tt), ((omega arith, tt), (tt, (tt, (tt, (tt, ((omega arith, tt), ((omega arith, tt), ((omega arith, tt), tt)))))))))))))

-- defined types
abbrev depth : DataType → ℕ
depth (named n) = cond (bytes_eq n geo.AMOUNT) 2 1
depth k = 0

under : Underlying → DataType
under (data_type k) = k
under (enumeration items) = integer
under (select items) = integer

items_under : Underlying → List Name
items_under (select items) = items
items_under (enumeration items) = []
items_under (data_type k) = []

-- what a defined type stands for is less deep
Renamed : TypeDeclaration → Type 0
Renamed t = (l : DataType) → t.underlying ≡ data_type l → depth l < depth (named t.name)

all-renamed : Every Renamed (types geo.geo)
unfolding Renamed under
all-renamed = (
  (λ l e. subst (λ k. depth k < 1) (ap under e) (omega arith)),
  (
    (λ l e. subst (λ k. depth k < 1) (ap under e) (omega arith)),
    ((λ l e. absurd (cc)), ((λ l e. absurd (cc)), tt)),
  ),
)

-- and so are the items of a SELECT
Selected : TypeDeclaration → Type 0
Selected t =
    (items : List Name) (b : Name) → t.underlying ≡ select items → Among b items
    → depth (named b) < depth (named t.name)

all-selected : Every Selected (types geo.geo)
unfolding Selected items_under
all-selected = (
  (λ items b e m. absurd (cc)),
  (
    (λ items b e m. absurd (cc)),
    (
      (λ items b e m. absurd (cc)),
      (
        (λ items b e m. every-at (λ (b : Name). depth (named b) < 2) b (geo.LEN_M ∷ geo.ANGLE_M ∷ [])
            (omega arith, (omega arith, tt)) (subst (λ xs. Among b xs) (sym (ap items_under e)) m)),
        tt,
      ),
    ),
  ),
)

down-renamed : (k l : DataType) → Renames geo.geo k l → depth l < depth k
unfolding Renamed
down-renamed (named a) l (t, at, u) =
    let known = type-name geo.geo a t at in
    subst (λ n. depth l < depth (named n)) known.1 (every-at Renamed t (types geo.geo) all-renamed known.0 l u)
down-renamed k l h = absurd h

down-selected : (k l : DataType) → HasItem geo.geo k l → depth l < depth k
unfolding Selected
down-selected (named a) (named b) (items, (t, at, u), m) =
    let known = type-name geo.geo a t at in
    subst (λ n. depth (named b) < depth (named n)) known.1
    (every-at Selected t (types geo.geo) all-selected known.0 items b u m)
down-selected k l h = absurd h

down : (k l : DataType) → IsMadeOf geo.geo k l → depth l < depth k
down k l (inl h) = down-renamed k l h
down k l (inr h) = down-selected k l h

known : Every (IsMet geo.geo) (demands geo.geo)
known = (inl (geo.len_m, refl), (inl (geo.angle_m, refl), (inr (geo.point, refl), (inr (geo.direction, refl), ((geo.note, refl), ((geo.NOTE, inl refl, (geo.note, refl, inr (inl refl))), ((geo.loop, refl), ((geo.group, refl), ((geo.item, refl), (inr (geo.point, refl), ((geo.item, refl), (inr (geo.placement, refl), (inr (geo.placement, refl), (inr (geo.node, refl), (inr (geo.node, refl), ((geo.shape, refl), (inl (geo.amount, refl), ((geo.shape, refl), (inl (geo.finish, refl), ((geo.marked, refl), ((geo.shape, refl), ((inl (inr ([], (geo.marked, refl, inl refl))), (geo.SHAPE, (inl refl, (geo.shape, refl, inl refl)))), tt))))))))))))))))))))))

pub geo-is-resolved : IsResolved geo.geo
geo-is-resolved =
    record {
      known = known;
      once = fresh-once (declared geo.geo) (are-fresh-by (declared geo.geo) refl);
      no_supertype_cycle = λ n. no-way-back (IsSubtypeOf geo.geo) level up n;
      no_type_cycle = λ n. no-way-back (IsMadeOf geo.geo) depth down (named n);
    }
