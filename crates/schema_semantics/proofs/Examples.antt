-- The definitions on small schemas.
use Rattle.std.specs.Prelude.{◌≡◌, ◌<◌, true, false, Bool, cond, ◌&&◌, List, [], ◌∷◌, None, Some, bytes_eq, codes, ◌⊎◌}
use Rattle.std.specs.Fmt.{digits}
use Rattle.std.specs.Str.{is_utf8, chars}
use Rattle.std.proofs.Common.{refl, inl, inr, ap, sym, subst, ◌∙◌}
use Rattle.std.proofs.lemmas.Slice.Eq.{bytes_eq-Decides}
use Rattle.express_syntax.specs.declared.expression.Relation.TheVariants as relations
use Rattle.express_syntax.specs.Trees.{Tree, Qualifiers, reference, comparison, literal, plain, number, whole, text}
use Rattle.express_syntax.specs.Trees as trees
use Rattle.express_syntax.specs.Runs.{ended, ending}
use Rattle.express_syntax.specs.Words.{name}
use Rattle.express_syntax.specs.Schemas.{Schema, Declaration, type, entity, skipped, function, TypeDeclaration, Entity, own, redeclared, Explicit, Derived, Rule, Body, parsed, set_aside, DataType, named, integer, real, list, Bounds, value, unlimited, other_bound, Underlying, select, data_type, unsaid}
use Rattle.express_syntax.specs.Schemas as schemas
use Rattle.express_syntax.specs.declared.fault.NameFault.TheVariants.{UnknownName, DuplicateName, SupertypeCycle, TypeCycle}
use Rattle.schema_semantics.specs.declared.unchecked.PartKind.{PartKind}
use Rattle.schema_semantics.specs.declared.unchecked.Reason.{Reason}
use Rattle.schema_semantics.specs.declared.unchecked.PartKind.TheVariants as parts
use Rattle.schema_semantics.specs.declared.unchecked.Reason.TheVariants as reasons
use Rattle.schema_semantics.specs.Names.{Name, IsFirst, IsMadeOf, IsEntity, IsType, IsBelow, IsKindOf, IsEntityAt, IsTypeAt, IsSubtypeOf, listed, Among, entities, supertypes_of, explicit_names}
use Rattle.schema_semantics.specs.Faults.{Demand, IsMet, a_type, an_entity, inherited, inverted, demands, declared, Declared, IsFirstAgain, IsFault, IsOwnSupertype}
use Rattle.schema_semantics.specs.Shapes.{AreAlikeTypes, KeepsShapes, HasShape, AreOne, TypeShape, of_lists, an_aggregate}
use Rattle.schema_semantics.specs.Attributes.{Place, IsPlaces, Derivation, IsNth, IsOrigin}
use Rattle.schema_semantics.specs.Reasons.{SaysName, BodyMayUse, HasBadKind, MayBeDeep, HasUnclearName}
use Rattle.schema_semantics.specs.Sets.{May, MayTake, TakesTwo, itself, variable, attribute_of_self, item_of_type, item}
use Rattle.schema_semantics.specs.Shapes as shapes
use Rattle.schema_semantics.specs.Ranks.{Self, Uses, LeadsToItself, HasReason, IsRank, IsDerivedAt}
use Rattle.schema_semantics.proofs.Lists.{again-twice, fresh-once, last-step}
use Rattle.schema_semantics.proofs.Supertypes.{entity-name}
use Rattle.schema_semantics.proofs.Bools.{both-hold}
use Rattle.schema_semantics.proofs.Facts.{is-declarer, named-in, of_self, takes-own, means-attribute}
use Rattle.schema_semantics.specs.Parts.{Unchecked, all_reasons, AreUnchecked}

-- An entity with these supertypes and attributes, and nothing else.
abbrev an : Name → List Name → List Explicit → Entity
an n supertypes explicits =
    record {
      name = n;
      is_abstract = false;
      supertype = unsaid;
      subtype_of = Some supertypes;
      explicits = explicits;
      derived = None;
      inverses = None;
      uniques = None;
      rules = None;
    }

abbrev a_type_of : Name → Underlying → Declaration
a_type_of n u = type (record { name = n; underlying = u; rules = None })

abbrev with_one : Name → DataType → List Explicit
with_one n k = record { attributes = own n ∷ []; optional = false; data_type = k } ∷ []

abbrev schema : List Declaration → Schema
schema ds = record { name = codes "GEO"; version = None; declarations = ds }

abbrev A : Name
A = codes "A"

abbrev B : Name
B = codes "B"

abbrev C : Name
C = codes "C"

abbrev D : Name
D = codes "D"

abbrev X : Name
X = codes "X"

differ : true ≡ false → ⊥
differ e = cc

abbrev name-declared : Name → Declared
name-declared n = (0, n)

-- ENTITY a; x : b; END_ENTITY;
abbrev first : Schema
first = schema (entity (an A [] (with_one X (named B))) ∷ [])

lacks-entity : (e : Entity) → None ≡ Some (entity e) → ⊥
lacks-entity e h = cc

lacks-type : (t : TypeDeclaration) → None ≡ Some (type t) → ⊥
lacks-type t h = cc

unknown-name : IsFault first UnknownName B
unknown-name = (a_type B, inl (unmet, refl), refl)
  where
    unmet : (IsType first B ⊎ IsEntity first B) → ⊥
    unmet (inl t) = lacks-type t.0 t.1
    unmet (inr e) = lacks-entity e.0 e.1

-- ENTITY a; END_ENTITY; ENTITY b SUBTYPE OF (a); SELF\a.x : INTEGER; END_ENTITY;
abbrev astray : Schema
astray =
    schema (entity (an A [] []) ∷ entity (an B (A ∷ []) (record {
      attributes = redeclared A X ∷ [];
      optional = false;
      data_type = integer;
    } ∷ [])) ∷ [])

unknown-attribute : IsFault astray UnknownName X
unknown-attribute = (inherited (A ∷ []) A X, inr (met, inr (met, inl (unmet, refl))), refl)
  where
    met : (IsEntity astray A → ⊥) → ⊥
    met h = h (an A [] [], refl)

    unmet : IsMet astray (inherited (A ∷ []) A X) → ⊥
    unmet (some, (p, (kind, declares))) = is-declarer astray p X declares

-- ENTITY a; INVERSE i : b FOR x; END_ENTITY; ENTITY b; END_ENTITY;
abbrev lacking : Schema
lacking =
    schema (entity (record (an A [] []) {
      inverses = Some (record {
        attribute = own (codes "I");
        collection = schemas.alone;
        entity = B;
        holder = None;
        inverted = X;
      } ∷ []);
    }) ∷ entity (an B [] []) ∷ [])

unknown-inverted : IsFault lacking UnknownName X
unknown-inverted = (inverted B X, inr ((λ h. h (an B [] [], refl)), inl (unmet, refl)), refl)
  where
    unmet : IsMet lacking (inverted B X) → ⊥
    unmet (p, kind, (e, at, m)) = named-in lacking explicit_names p X e at m

-- ENTITY a; END_ENTITY; ENTITY A; END_ENTITY;
abbrev second : Schema
second = schema (entity (an A [] []) ∷ entity (an A [] []) ∷ [])

duplicate-name : IsFault second DuplicateName A
duplicate-name = ((λ n h. h.1), (0, inr ((λ m. m), inl (inl refl, refl))))

-- of a, b, b, a the name that is repeated first is answered, though a stands before it
abbrev nested : Schema
nested = schema (entity (an A [] []) ∷ entity (an B [] []) ∷ entity (an B [] []) ∷ entity (an A [] []) ∷ [])

first-repeated : IsFault nested DuplicateName B
first-repeated = ((λ n h. h.1), (0, inr ((λ m. m), inr (fresh, inl (inl refl, refl)))))
  where
    fresh : Among (name-declared B) (name-declared A ∷ []) → ⊥
    fresh (inl e) = differ (sym (ap (λ (p : Declared). bytes_eq p.1 B) e))
    fresh (inr k) = k

-- ENTITY a; END_ENTITY; ENTITY a; x : b; END_ENTITY; shows two faults, and the least is answered
abbrev both : Schema
both = schema (entity (an A [] []) ∷ entity (an A [] (with_one X (named B))) ∷ [])

least-fault : IsFault both UnknownName B
least-fault = (a_type B, inl (unmet, refl), refl)
  where
    unmet : (IsType both B ⊎ IsEntity both B) → ⊥
    unmet (inl t) = lacks-type t.0 t.1
    unmet (inr e) = lacks-entity e.0 e.1

-- ENTITY a SUBTYPE OF (b); END_ENTITY; ENTITY b SUBTYPE OF (a); END_ENTITY;
abbrev third : Schema
third = schema (entity (an A (B ∷ []) []) ∷ entity (an B (A ∷ []) []) ∷ [])

a-names-b : demands third ≡ an_entity B ∷ an_entity A ∷ []
a-names-b = refl

cycle-of-supertypes : IsFault third SupertypeCycle A
cycle-of-supertypes = (
  (λ n h. known h.1),
  (λ n h. apart h.1),
  inl (
    (
      B ∷ [],
      (
        (an A (B ∷ []) [], refl, inl refl),
        (an B (A ∷ []) [], refl, inl refl),
      ),
    ),
    refl,
  ),
)
  where
    known : {d : Demand} → IsFirst (λ (d : Demand). IsMet third d → ⊥) (demands third) d → ⊥
    known (inl h) = h.0 (an B (A ∷ []) [], refl)
    known (inr (_, inl h)) = h.0 (an A (B ∷ []) [], refl)
    known (inr (_, inr (_, h))) = h

    apart : {x : Declared} → IsFirstAgain [] (declared third) x → ⊥
    apart {x} h = fresh-once (declared third) (fresh, ((λ k. k), tt)) x (again-twice (declared third) x h)
      where
        fresh : Among (name-declared A) (name-declared B ∷ []) → ⊥
        fresh (inl e) = differ (ap (λ (p : Declared). bytes_eq p.1 B) e)
        fresh (inr k) = k

-- TYPE a = SELECT (b); END_TYPE; TYPE b = SELECT (a); END_TYPE;
abbrev fourth : Schema
fourth = schema (a_type_of A (select (B ∷ [])) ∷ a_type_of B (select (A ∷ [])) ∷ [])

cycle-of-types : IsFault fourth TypeCycle A
cycle-of-types =
    ((λ n h. known h.1), (λ n h. apart h.1), (λ n h. h), inl ((named B ∷ [], (made A B refl, made B A refl)), refl))
  where
    made : (m n : Name) → IsTypeAt fourth m (record { name = m; underlying = select (n ∷ []); rules = None })
        → IsMadeOf fourth (named m) (named n)
    made m n at = inr (n ∷ [], (record { name = m; underlying = select (n ∷ []); rules = None }, at, refl), inl refl)

    known : {d : Demand} → IsFirst (λ (d : Demand). IsMet fourth d → ⊥) (demands fourth) d → ⊥
    known (inl h) = h.0 (inl (record { name = B; underlying = select (A ∷ []); rules = None }, refl))
    known (inr (_, inl h)) = h.0 (inl (record { name = A; underlying = select (B ∷ []); rules = None }, refl))
    known (inr (_, inr (_, h))) = h

    apart : {x : Declared} → IsFirstAgain [] (declared fourth) x → ⊥
    apart {x} h = fresh-once (declared fourth) (fresh, ((λ k. k), tt)) x (again-twice (declared fourth) x h)
      where
        fresh : Among (name-declared A) (name-declared B ∷ []) → ⊥
        fresh (inl e) = differ (ap (λ (p : Declared). bytes_eq p.1 B) e)
        fresh (inr k) = k

-- b and c are subtypes of a, d is one of both
abbrev diamond : Schema
diamond =
    schema (entity (an A [] (with_one X integer)) ∷ entity (an B (A ∷ []) (with_one (codes "Y") integer))
    ∷ entity (an C (A ∷ []) (with_one (codes "Z") integer))
    ∷ entity (an D (B ∷ C ∷ []) (with_one (codes "W") integer)) ∷ [])

d-is-an-a : IsKindOf diamond D A
d-is-an-a =
    inr (
      B ∷ [],
      (
        (an D (B ∷ C ∷ []) (with_one (codes "W") integer), refl, inl refl),
        (an B (A ∷ []) (with_one (codes "Y") integer), refl, inl refl),
      ),
    )

abbrev places : Name → List Place
places n =
    cond (bytes_eq n A) ((A, X) ∷ []) (cond (bytes_eq n B) ((A, X) ∷ (B, codes "Y") ∷ [])
    (cond (bytes_eq n C) ((A, X) ∷ (C, codes "Z") ∷ [])
    ((A, X) ∷ (B, codes "Y") ∷ (C, codes "Z") ∷ (D, codes "W") ∷ [])))

places-of-d : IsPlaces diamond D ((A, X) ∷ (B, codes "Y") ∷ (C, codes "Z") ∷ (D, codes "W") ∷ [])
places-of-d =
    ((an D (B ∷ C ∷ []) (with_one (codes "W") integer), refl), places, (refl, (refl, (refl, (refl, tt)))), refl)

-- ENTITY a SUBTYPE OF (b); END_ENTITY; ENTITY b SUBTYPE OF (c); END_ENTITY; ENTITY c SUBTYPE OF (b); END_ENTITY;
-- a isn't on the cycle
abbrev behind : Schema
behind = schema (entity (an A (B ∷ []) []) ∷ entity (an B (C ∷ []) []) ∷ entity (an C (B ∷ []) []) ∷ [])

b-is-its-own-supertype : IsBelow behind B B
b-is-its-own-supertype = (C ∷ [], ((an B (C ∷ []) [], refl, inl refl), (an C (B ∷ []) [], refl, inl refl)))

-- TYPE a = LIST OF a; END_TYPE; TYPE b = LIST OF b; END_TYPE; the pair comes again inside its own comparison
abbrev list_of : Name → DataType
list_of n = list None false (named n)

abbrev lists : Schema
lists = schema (a_type_of A (data_type (list_of A)) ∷ a_type_of B (data_type (list_of B)) ∷ [])

abbrev is_name : Name → DataType → Bool
is_name m (named n) = bytes_eq n m
is_name m k = false

abbrev relates : DataType → DataType → Bool
relates k l = is_name A k && is_name B l

is-named : (m : Name) (k : DataType) → is_name m k ≡ true → k ≡ named m
is-named m (named n) h = ap named ((bytes_eq-Decides n m).0 h)
is-named m integer h = absurd (cc)
is-named m schemas.number h = absurd (cc)
is-named m schemas.boolean h = absurd (cc)
is-named m schemas.logical h = absurd (cc)
is-named m (real w) h = absurd (cc)
is-named m (schemas.string w) h = absurd (cc)
is-named m (schemas.binary w) h = absurd (cc)
is-named m (schemas.array b o u k) h = absurd (cc)
is-named m (list b u k) h = absurd (cc)
is-named m (schemas.bag b k) h = absurd (cc)
is-named m (schemas.set b k) h = absurd (cc)

a-is-a-list : (n : Name) → IsTypeAt lists n (record { name = n; underlying = data_type (list_of n); rules = None })
    → HasShape lists (named n) (of_lists (named n))
a-is-a-list n at =
    (list_of n, inr ([], (record { name = n; underlying = data_type (list_of n); rules = None }, at, refl)), refl)

a-and-b-are-alike : AreAlikeTypes lists (named A) (named B)
a-and-b-are-alike = (relates, refl, keeps)
  where
    names : (k l : DataType) → (is_name A k && is_name B l) ≡ true → (k ≡ named A) × (l ≡ named B)
    names k l h = let two = both-hold (is_name A k) (is_name B l) h in (is-named A k two.0, is-named B l two.1)

    alike : DataType → DataType → Type 0
    alike k l = (f g : TypeShape) × HasShape lists k f × HasShape lists l g × AreOne relates f g

    keeps : KeepsShapes lists relates
    keeps k l h =
        let same = names k l h in
        subst (λ x. alike x l) (sym same.0) (subst (λ y. alike (named A) y) (sym same.1)
        (of_lists (named A), of_lists (named B), a-is-a-list A refl, a-is-a-list B refl, refl))

-- the reason is Profile, whatever the others
because-profile : IsFirst (λ (q : Reason). (q ≡ reasons.Profile) × Unit {0}) all_reasons reasons.Profile
because-profile = inr ((λ h. unlike h.0), inl ((refl, tt), refl))
  where
    unlike : reasons.Skipped ≡ reasons.Profile → ⊥
    unlike e = cc

-- a skipped declaration, a rule that is no expression and has no label, a bound that is no number
abbrev aside : Schema
aside =
    schema (skipped (function (codes "F") (ending (name (codes "END_FUNCTION"))))
    ∷ entity (record {
      name = A;
      is_abstract = false;
      supertype = unsaid;
      subtype_of = None;
      explicits = with_one X (list (Some (record {
        lower = other_bound ended;
        upper = unlimited;
      })) false real-number);
      derived = None;
      inverses = None;
      uniques = None;
      rules = Some (record { label = None; body = set_aside ended } ∷ []);
    }) ∷ [])
  where
    real-number : DataType
    real-number = real None

abbrev part : PartKind → Name → Reason → Unchecked
part k n r = record { kind = k; name = n; reason = r }

unchecked-parts : AreUnchecked aside (part parts.Function (codes "F") reasons.Skipped
    ∷ part parts.Bound (codes "A.X") reasons.Profile ∷ part parts.Where (codes "A.?1") reasons.Profile ∷ [])
unfolding digits
unchecked-parts =
    inl (
      reasons.Skipped,
      inl ((refl, tt), refl),
      part parts.Bound (codes "A.X") reasons.Profile ∷ part parts.Where (codes "A.?1") reasons.Profile ∷ [],
      refl,
      inl (
        reasons.Profile,
        because-profile,
        part parts.Where (codes "A.?1") reasons.Profile ∷ [],
        refl,
        inl (reasons.Profile, inr ((λ h. h), inl (tt, refl)), [], refl, refl),
      ),
    )

-- a schema without what may be set aside lists nothing
nothing-unchecked : AreUnchecked diamond []
nothing-unchecked = refl

-- the string 'GEO.A'
names-a : SaysName diamond (literal (text (codes "'GEO.A'"))) A
unfolding is_utf8 chars
names-a = (codes "GEO.A", refl, refl)

-- DERIVE x : REAL := x;
abbrev own_name : Name → Tree
own_name n = reference (trees.named n) plain

abbrev looping : Entity
looping =
    record {
      name = A;
      is_abstract = false;
      supertype = unsaid;
      subtype_of = None;
      explicits = [];
      derived = Some (record { attribute = own X; data_type = real None; body = parsed (own_name X) } ∷ []);
      inverses = None;
      uniques = None;
      rules = None;
    }

abbrev loop : Schema
loop = schema (entity looping ∷ [])

takes-x : MayTake loop (of_self loop A X) A
takes-x = takes-own loop A X (looping, refl, inl refl)

uses-itself : Uses loop (A, 0) (A, 0)
uses-itself = (
  x,
  (looping, refl, refl),
  inl (
    attribute_of_self,
    means-attribute loop (Self A) [] X A plain (λ h. h) takes-x,
    inl (A, takes-x, (x, (looping, refl, refl), inl (refl, refl))),
  ),
)
  where
    x : Derived
    x = record { attribute = own X; data_type = real None; body = parsed (own_name X) }

leads-to-itself : LeadsToItself loop (A, 0)
leads-to-itself = ([], uses-itself)

-- DERIVE y : INTEGER := 3; uses nothing
abbrev constant : Entity
constant =
    record {
      name = A;
      is_abstract = false;
      supertype = unsaid;
      subtype_of = None;
      explicits = [];
      derived = Some (record {
        attribute = own X;
        data_type = integer;
        body = parsed (literal (number (whole (codes "3"))));
      } ∷ []);
      inverses = None;
      uniques = None;
      rules = None;
    }

abbrev still : Schema
still = schema (entity constant ∷ [])

rank-of-a-constant : IsRank still (λ d. 0) (A, 0)
rank-of-a-constant = record { above = above; least = inl refl }
  where
    same : (e : Entity) → Some (entity constant) ≡ Some (entity e) → constant ≡ e
    same e h = cc

    above : (u : Derivation) → Uses still (A, 0) u → 0 < 0
    above u (x, (e, at, nth), uses) =
        absurd (none x (subst (λ y. IsNth (listed y.derived) 0 x) (sym (same e at)) nth) uses)
      where
        none : (x : Derived) → IsNth (listed constant.derived) 0 x → BodyMayUse still (Self A) x.body u → ⊥
        none x h k = subst (λ y. BodyMayUse still (Self A) y.body u → ⊥) h (λ z. z) k

-- ENTITY a; x : LIST OF REAL; WHERE x = x; END_ENTITY; compares aggregates
abbrev compared : Tree
compared = comparison (own_name X) relations.Equal (own_name X)

abbrev points : Schema
points = schema (entity (an A [] (with_one X (list None false (real None)))) ∷ [])

compares-aggregates : HasBadKind points (Self A) compared
compares-aggregates = inl (deep, deep)
  where
    point : Entity
    point = an A [] (with_one X (list None false (real None)))

    taken : MayTake points (of_self points A X) A
    taken = takes-own points A X (point, refl, inl refl)

    atom : May points (Self A) [] (own_name X) (shapes.value (an_aggregate (real None)) false)
    atom = (
      attribute_of_self,
      means-attribute points (Self A) [] X A plain (λ h. h) taken,
      (
        A,
        list None false (real None),
        taken,
        inl (point, refl, inl (inl (inl refl, refl))),
        (list None false (real None), inl refl, refl),
      ),
    )

    deep : MayBeDeep (May points (Self A) [] (own_name X))
    deep = inr (real None, false, atom)

-- in the schema above, the fault is told at b
not-above-a : (m : Name) → IsSubtypeOf behind m A → ⊥
not-above-a m (e, at, sup) = by (entity-name behind m e at).0
  where
    other : (n : Name) → bytes_eq n A ≡ false → Among A (n ∷ []) → ⊥
    other n apart (inl same) = differ (sym ((bytes_eq-Decides n A).1 same) ∙ apart)
    other n apart (inr h) = h

    by : Among e (entities behind) → ⊥
    by (inl f) = other B refl (subst (λ x. Among A (supertypes_of x)) (sym f) sup)
    by (inr (inl f)) = other C refl (subst (λ x. Among A (supertypes_of x)) (sym f) sup)
    by (inr (inr (inl f))) = other B refl (subst (λ x. Among A (supertypes_of x)) (sym f) sup)
    by (inr (inr (inr h))) = h

cycle-behind-the-first : IsOwnSupertype behind B
cycle-behind-the-first = inr (not-a, inl (b-is-its-own-supertype, refl))
  where
    not-a : IsBelow behind A A → ⊥
    not-a h = let step = last-step (IsSubtypeOf behind) A A h in not-above-a step.0 step.1

-- Of the schema above in which x leads to itself all that isn't checked is `DERIVE A.X Leads`.
is-looping : (p : Name) (e : Entity) → IsEntityAt loop p e → p ≡ A
is-looping p e at = by (entity-name loop p e at)
  where
    by : Among e (entities loop) × (e.name ≡ p) → p ≡ A
    by (inl same, told) = sym (ap (λ (x : Entity). x.name) same ∙ told)
    by (inr h, told) = elim h [ ]

takes-one : TakesTwo loop (of_self loop A X) → ⊥
takes-one (e, p, q, m, (k, (c, at, h)), (l, (d, be, g)), apart) =
    apart (is-looping p c at ∙ sym (is-looping q d be))

is-clear : HasUnclearName loop (Self A) (own_name X) → ⊥
is-clear (inl (inl lost)) = lost attribute_of_self (A, takes-x)
is-clear (inl (inr (itself, means, h))) = h
is-clear (inl (inr (variable, means, h))) = h
is-clear (inl (inr (attribute_of_self, means, inl (inl lost)))) = lost A takes-x
is-clear (inl (inr (attribute_of_self, means, inl (inr two)))) = takes-one two
is-clear (inl (inr (attribute_of_self, means, inr h))) = h
is-clear (inl (inr (item_of_type, means, h))) = h
is-clear (inl (inr (item, means, h))) = h
is-clear (inr h) = h

neither : ⊥ ⊎ ⊥ → ⊥
neither (inl h) = h
neither (inr h) = h

-- x may be used, and leads to itself
looping-is-set-aside : AreUnchecked loop (part parts.Derive (codes "A.X") reasons.Leads ∷ [])
unfolding uses-itself
looping-is-set-aside =
    inl (
      reasons.Leads,
      inr ((λ h. h), inr (neither, inr (is-clear, inr (neither, inr (neither, inl (leads, refl)))))),
      [],
      refl,
      refl,
    )
  where
    leads : HasReason loop (Self A) (parsed (own_name X)) reasons.Leads
    leads = ((A, 0), uses-itself.2, ((A, 0), inl refl, inr leads-to-itself))

-- marks are shapes with a look; plain ones derive the label that they have as shapes, which has its place still
abbrev SHAPE : Name
SHAPE = codes "SHAPE"

abbrev MARKED : Name
MARKED = codes "MARKED"

abbrev PLAIN_MARK : Name
PLAIN_MARK = codes "PLAIN_MARK"

abbrev plain_mark : Entity
plain_mark =
    record {
      name = PLAIN_MARK;
      is_abstract = false;
      supertype = unsaid;
      subtype_of = Some (MARKED ∷ []);
      explicits = [];
      derived = Some (record {
        attribute = redeclared SHAPE (codes "LABEL");
        data_type = schemas.string None;
        body = parsed (literal (text (codes "'p'")));
      } ∷ []);
      inverses = None;
      uniques = None;
      rules = None;
    }

abbrev marks : Schema
marks =
    schema (entity (an SHAPE [] (with_one (codes "LABEL") (schemas.string None)))
    ∷ entity (an MARKED (SHAPE ∷ []) (with_one (codes "LOOK") integer)) ∷ entity plain_mark ∷ [])

abbrev places_of_marks : Name → List Place
places_of_marks n =
    cond (bytes_eq n SHAPE) ((SHAPE, codes "LABEL") ∷ []) ((SHAPE, codes "LABEL") ∷ (MARKED, codes "LOOK") ∷ [])

places-of-plain-marks : IsPlaces marks PLAIN_MARK ((SHAPE, codes "LABEL") ∷ (MARKED, codes "LOOK") ∷ [])
places-of-plain-marks = ((plain_mark, refl), places_of_marks, (refl, (refl, (refl, tt))), refl)

-- `SELF\shape.label` means the label that shape declares, and its derivation stands under plain_mark
abbrev lines_of_marks : Name → List Name
lines_of_marks n =
    cond (bytes_eq n SHAPE) (SHAPE ∷ []) (cond (bytes_eq n MARKED) (MARKED ∷ SHAPE ∷ [])
    (PLAIN_MARK ∷ MARKED ∷ SHAPE ∷ []))

label-is-of-shape : IsOrigin marks SHAPE (codes "LABEL") SHAPE
label-is-of-shape = (
  (an SHAPE [] (with_one (codes "LABEL") (schemas.string None)), refl),
  lines_of_marks,
  (refl, (refl, (refl, tt))),
  inl (
    (
      an SHAPE [] (with_one (codes "LABEL") (schemas.string None)),
      refl,
      inl refl,
    ),
    refl,
  ),
)

label-is-derived : IsDerivedAt marks (PLAIN_MARK, codes "LABEL") (PLAIN_MARK, 0)
label-is-derived = (refl, (plain_mark, refl, refl))
