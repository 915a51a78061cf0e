-- One fault is answered at most, and none exactly where the names are resolved.
use Rattle.std.specs.Prelude.{◌≡◌, List, [], ◌∷◌, map}
use Rattle.std.proofs.Common.{refl, inl, inr, ap, subst}
use Rattle.express_syntax.specs.Schemas.{Schema, Declaration, type, entity, skipped, TypeDeclaration, Entity, DataType, named}
use Rattle.express_syntax.specs.declared.fault.NameFault.{NameFault}
use Rattle.express_syntax.specs.declared.fault.NameFault.TheVariants.{UnknownName, DuplicateName, SupertypeCycle, TypeCycle}
use Rattle.schema_semantics.specs.Names.{Name, Among, entities, types, type_declarations_of, IsType, IsTypeAt, IsSubtypeOf, IsBelow, IsMadeOf}
use Rattle.schema_semantics.specs.Faults.{Demand, Declared, IsMet, demands, declared, asked, IsAboveItself, IsMadeOfItself, IsFirstUnknownName, IsDuplicate, IsFault, IsFreeOf, IsResolved}
use Rattle.express_syntax.specs.Profile.{Every}
use Rattle.schema_semantics.specs.Laws.{FaultsAreOne}
use Rattle.schema_semantics.proofs.Lists.{among-map, every-at, every-may-hold, none-holds, none-twice, again-is-one, again-twice, first-is-one, first-holds, first-among, first-step}
use Rattle.schema_semantics.proofs.Supertypes.{found, entity-name}

unknown-is-one : (s : Schema) (m n : Name) → IsFirstUnknownName s m → IsFirstUnknownName s n → m ≡ n
unknown-is-one s m n (d, f, x) (e, g, y) =
    let same : d ≡ e = first-is-one (λ (d : Demand). IsMet s d → ⊥) (demands s) d e f g in
    let names : asked d ≡ asked e = ap asked same in cc

duplicate-is-one : (s : Schema) (m n : Name) → IsDuplicate s m → IsDuplicate s n → m ≡ n
duplicate-is-one s m n (i, f) (j, g) =
    ap (λ (d : Declared). d.1) (again-is-one [] (declared s) (i, m) (j, n) f g)

-- what leads to itself is declared
entity-named : (s : Schema) (n : Name) → IsBelow s n n → Among n (map (λ (e : Entity). e.name) (entities s))
entity-named s n h =
    let step = first-step (IsSubtypeOf s) n n h in
    let at = entity-name s n step.1.0 step.1.1 in
    subst (λ x. Among x (map (λ (e : Entity). e.name) (entities s))) at.1
    (among-map (λ (e : Entity). e.name) step.1.0 (entities s) at.0)

among-types : (ds : List Declaration) (t : TypeDeclaration) → Among (type t) ds → Among t (type_declarations_of ds)
among-types [] t h = elim h [ ]
among-types (type x ∷ ds) t (inl h) = inl (cc)
among-types (type x ∷ ds) t (inr h) = inr (among-types ds t h)
among-types (entity e ∷ ds) t (inl h) = absurd (cc)
among-types (entity e ∷ ds) t (inr h) = among-types ds t h
among-types (skipped p ∷ ds) t (inl h) = absurd (cc)
among-types (skipped p ∷ ds) t (inr h) = among-types ds t h

pub type-name : (s : Schema) (n : Name) (t : TypeDeclaration) → IsTypeAt s n t → Among t (types s) × (t.name ≡ n)
type-name s n t h = let d = found s.declarations n (type t) h in (among-types s.declarations t d.0, (cc))

is-type : (s : Schema) (n : Name) (k : DataType) → IsMadeOf s (named n) k → IsType s n
is-type s n k (inl (t, at, u)) = (t, at)
is-type s n (named m) (inr (items, (t, at, u), h)) = (t, at)
is-type s n k (inr h) = absurd h

type-named : (s : Schema) (n : Name) → IsMadeOfItself s n → Among n (map (λ (t : TypeDeclaration). t.name) (types s))
type-named s n h =
    let step = first-step (IsMadeOf s) (named n) (named n) h in
    let some = is-type s n step.0 step.1 in
    let at = type-name s n some.0 some.1 in
    subst (λ x. Among x (map (λ (t : TypeDeclaration). t.name) (types s))) at.1
    (among-map (λ (t : TypeDeclaration). t.name) some.0 (types s) at.0)

-- where all demands are met, no name is unknown
pub none-unknown : (s : Schema) → Every (IsMet s) (demands s) → IsFreeOf s UnknownName
none-unknown s known n (d, f, e) =
    first-holds (λ (d : Demand). IsMet s d → ⊥) (demands s) d f (every-at (IsMet s) d (demands s) known
    (first-among (λ (d : Demand). IsMet s d → ⊥) (demands s) d f))

-- If all demands are met and no other fault shows, the names are resolved.
pub resolved : (s : Schema) → Every (IsMet s) (demands s) → IsFreeOf s DuplicateName → IsFreeOf s SupertypeCycle
    → IsFreeOf s TypeCycle → IsResolved s
resolved s known d c t = record {
  known = known;
  once = none-twice (declared s) (λ x f. d x.1 (x.0, f));
  no_supertype_cycle = λ n h. none-holds (IsAboveItself s) (map (λ (e : Entity). e.name) (entities s)) c n
      (entity-named s n h) h;
  no_type_cycle = λ n h. none-holds (IsMadeOfItself s) (map (λ (t : TypeDeclaration). t.name) (types s)) t n
      (type-named s n h) h;
}

-- where no fault shows, nothing but the demands is left
may-be-resolved : (s : Schema) → IsFreeOf s UnknownName → IsFreeOf s DuplicateName → IsFreeOf s SupertypeCycle
    → IsFreeOf s TypeCycle → (IsResolved s → ⊥) → ⊥
may-be-resolved s u d c t k =
    every-may-hold (IsMet s) (demands s) (none-holds (λ (d : Demand). IsMet s d → ⊥) (demands s)
    (λ d f. u (asked d) (d, f, refl))) (λ known. k (resolved s known d c t))

pub faults-are-one : FaultsAreOne
faults-are-one s = (one, none, some)
  where
    one : (f g : NameFault) (m n : Name) → IsFault s f m → IsFault s g n → (f ≡ g) × (m ≡ n)
    one UnknownName UnknownName m n h k = (refl, unknown-is-one s m n h k)
    one UnknownName DuplicateName m n h k = absurd (k.0 m h)
    one UnknownName SupertypeCycle m n h k = absurd (k.0 m h)
    one UnknownName TypeCycle m n h k = absurd (k.0 m h)
    one DuplicateName UnknownName m n h k = absurd (h.0 n k)
    one DuplicateName DuplicateName m n h k = (refl, duplicate-is-one s m n h.1 k.1)
    one DuplicateName SupertypeCycle m n h k = absurd (k.1 m h.1)
    one DuplicateName TypeCycle m n h k = absurd (k.1 m h.1)
    one SupertypeCycle UnknownName m n h k = absurd (h.0 n k)
    one SupertypeCycle DuplicateName m n h k = absurd (h.1 n k.1)
    one SupertypeCycle SupertypeCycle m n h k = (refl, first-is-one _ _ m n h.2 k.2)
    one SupertypeCycle TypeCycle m n h k = absurd (k.2 m h.2)
    one TypeCycle UnknownName m n h k = absurd (h.0 n k)
    one TypeCycle DuplicateName m n h k = absurd (h.1 n k.1)
    one TypeCycle SupertypeCycle m n h k = absurd (h.2 n k.2)
    one TypeCycle TypeCycle m n h k = (refl, first-is-one _ _ m n h.3 k.3)

    none : (f : NameFault) (n : Name) → IsFault s f n → IsResolved s → ⊥
    none UnknownName n h r = none-unknown s r.known n h
    none DuplicateName n h r = r.once (h.1.0, n) (again-twice (declared s) (h.1.0, n) h.1.1)
    none SupertypeCycle n h r = r.no_supertype_cycle n (first-holds _ _ n h.2)
    none TypeCycle n h r = r.no_type_cycle n (first-holds _ _ n h.3)

    some : ((f : NameFault) (n : Name) → IsFault s f n → ⊥) → (IsResolved s → ⊥) → ⊥
    some h = may-be-resolved s unknown duplicate cycle (λ n k. h TypeCycle n (unknown, duplicate, cycle, k))
      where
        unknown : IsFreeOf s UnknownName
        unknown n k = h UnknownName n k

        duplicate : IsFreeOf s DuplicateName
        duplicate n k = h DuplicateName n (unknown, k)

        cycle : IsFreeOf s SupertypeCycle
        cycle n k = h SupertypeCycle n (unknown, duplicate, k)
