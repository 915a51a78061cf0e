-- Facts of a schema that is given, by going over its declarations.
use Rattle.std.specs.Prelude.{◌≡◌, ℕ, zero, suc, ◌^◌, ◌<◌, Bool, true, false, cond, List, [], ◌∷◌, map, flat_map, pos, ◌+ℤ◌, ◌*ℤ◌, bytes_eq, ◌⊎◌}
use Rattle.std.specs.List.{list_any}
use Rattle.std.proofs.Common.{refl, inl, inr, ap, sym, subst, ◌∙◌, arith}
use Rattle.std.proofs.lemmas.Int.{ints}
use Rattle.step_literals.specs.Decimals.{mantissa, exponent, units, finest, ten_to, IsWorth}
use Rattle.express_syntax.specs.Trees.{Tree, Root, Qualifiers}
use Rattle.express_syntax.specs.Trees as trees
use Rattle.express_syntax.specs.Schemas.{Schema, TypeDeclaration, Entity, Derived, own, parsed}
use Rattle.express_syntax.specs.Profile.{Every}
use Rattle.schema_semantics.specs.declared.unchecked.Reason.{Reason}
use Rattle.schema_semantics.specs.declared.unchecked.Reason.TheVariants as reasons
use Rattle.schema_semantics.specs.Names.{Name, IsOrLeads, OneOf, Among, listed, entities, types, attribute_names, IsEntityAt, Declares}
use Rattle.schema_semantics.specs.Faults.{enumerated_items}
use Rattle.schema_semantics.specs.Shapes.{Atom}
use Rattle.schema_semantics.specs.Attributes.{Derivation, IsNth, IsDerivation, IsRedeclaration, Derives}
use Rattle.schema_semantics.specs.Sets.{Set, WithSubtypes, AttributeReference, of_set, of_entity, attribute_name, MayTake, IsUnclear, MayUse, QueryVariable, IsVariable, Meaning, itself, variable, attribute_of_self, item_of_type, item, MayMean, Means, path, IsItemOf, OfReference, IsUnclearReference, ReferenceMayUse}
use Rattle.schema_semantics.specs.Reasons.{HasLooseAggregate, HasUnclearName, HasBadTypeof, HasBadKind, BodyMayUse, GivesReason}
use Rattle.schema_semantics.specs.Ranks.{Self, Uses, LeadsToItself, HasOwnReason, IsSetAside, HasReason, derived_name}
use Rattle.schema_semantics.specs.Parts.{IsBeyond}
use Rattle.schema_semantics.proofs.Lists.{among-map, among-flat, every-at, first-is-one, first-holds, first-step}
use Rattle.schema_semantics.proofs.Faults.{type-name}
use Rattle.schema_semantics.proofs.Supertypes.{entity-name}
use Rattle.schema_semantics.proofs.Recursion.{to-any}

pub neither : {P Q : Type 0} → (P → ⊥) → (Q → ⊥) → P ⊎ Q → ⊥
neither p q (inl h) = p h
neither p q (inr h) = q h

pub never : ⊥ → ⊥
never h = h

-- the entities that have a name in a list
abbrev pub naming : (Entity → List Name) → Name → List Entity → List Name
naming names a [] = []
naming names a (e ∷ es) = cond (list_any (bytes_eq a) (names e)) (e.name ∷ naming names a es) (naming names a es)

in-naming : (names : Entity → List Name) (a : Name) (e : Entity) (es : List Entity) → Among e es
    → Among a (names e) → Among e.name (naming names a es)
in-naming names a e [] m h = elim m [ ]
in-naming names a e (x ∷ xs) (inl same) h =
    by (list_any (bytes_eq a) (names x)) (to-any a (names x) (subst (λ y. Among a (names y)) (sym same) h))
  where
    by : (b : Bool) → b ≡ true → Among e.name (cond b (x.name ∷ naming names a xs) (naming names a xs))
    by true q = inl (ap (λ (y : Entity). y.name) same)
    by false q = absurd (cc)
in-naming names a e (x ∷ xs) (inr m) h = by (list_any (bytes_eq a) (names x)) (in-naming names a e xs m h)
  where
    by : (b : Bool) → Among e.name (naming names a xs)
        → Among e.name (cond b (x.name ∷ naming names a xs) (naming names a xs))
    by true k = inr k
    by false k = k

pub named-in : (s : Schema) (names : Entity → List Name) (p a : Name) (e : Entity) → IsEntityAt s p e
    → Among a (names e) → Among p (naming names a (entities s))
named-in s names p a e at m =
    let known = entity-name s p e at in
    subst (λ n. Among n (naming names a (entities s))) known.1 (in-naming names a e (entities s) known.0 m)

-- those that declare an attribute of this name, and those that derive one
abbrev pub declarers : Schema → Name → List Name
declarers s a = naming attribute_names a (entities s)

abbrev pub names_derived : Entity → List Name
names_derived e = map (λ (d : Derived). derived_name d.attribute) (listed e.derived)

abbrev pub derivers : Schema → Name → List Name
derivers s a = naming names_derived a (entities s)

pub is-declarer : (s : Schema) (p a : Name) → Declares s p a → Among p (declarers s a)
is-declarer s p a (e, at, m) = named-in s attribute_names p a e at m

pub one-declarer : (s : Schema) (p q a : Name) → declarers s a ≡ p ∷ [] → Declares s q a → p ≡ q
one-declarer s p q a one h = by (subst (λ ns. Among q ns) one (is-declarer s q a h))
  where
    by : Among q (p ∷ []) → p ≡ q
    by (inl e) = e
    by (inr k) = elim k [ ]

-- `SELF.a`, or a alone, in the entity e
abbrev pub of_self : Schema → Name → Name → AttributeReference
of_self s e a = of_set (WithSubtypes s (Self e)) a

-- `SELF.a`, or `a` alone, in the entity `e` means the attribute `a` that `e` itself declares, if
-- any.
pub takes-own : (s : Schema) (e a : Name) → Declares s e a → MayTake s (of_self s e a) e
takes-own s e a h = (e, (e, refl, inl refl), (inl refl, h))

-- a name that one entity declares, and that is taken
pub clear : (s : Schema) (q : AttributeReference) (p : Name) → declarers s (attribute_name q) ≡ p ∷ [] → MayTake s q p → IsUnclear s q → ⊥
clear s q p one taken (inl lost) = lost p taken
clear s (of_set M a) p one taken (inr (e, x, y, m, h, k, apart)) =
    apart (sym (one-declarer s p x a one h.1) ∙ one-declarer s p y a one k.1)
clear s (of_entity e a) p one taken (inr h) = h

is-nth : {A : Type 0} (xs : List A) (n : ℕ) (x : A) → IsNth xs n x → Among x xs
is-nth [] n x h = elim h [ ]
is-nth (y ∷ ys) zero x h = inl h
is-nth (y ∷ ys) (suc n) x h = inr (is-nth ys n x h)

pub is-deriver : (s : Schema) (p a e : Name) (n : ℕ) → Derives s p a (e, n) → Among e (derivers s a)
is-deriver s p a e n (d, (x, at, nth), how) =
    named-in s names_derived e a x at (subst (λ b. Among b (names_derived x)) (same how)
    (among-map (λ (d : Derived). derived_name d.attribute) d (listed x.derived) (is-nth (listed x.derived) n d nth)))
  where
    same : ((d.attribute ≡ own a) × (e ≡ p)) ⊎ IsRedeclaration s d.attribute p a → derived_name d.attribute ≡ a
    same (inl h) = ap derived_name h.0
    same (inr h) = ap derived_name h.1

-- a name that nothing derives
pub uses-none : (s : Schema) (d : Derivation) (q : AttributeReference) → derivers s (attribute_name q) ≡ [] → MayUse s d q → ⊥
uses-none s (e, n) q free (p, taken, derives) =
    subst (λ ns. Among e ns) free (is-deriver s p (attribute_name q) e n derives)

-- one that a single entity derives
pub uses-one : (s : Schema) (e h : Name) (n : ℕ) (q : AttributeReference) → derivers s (attribute_name q) ≡ h ∷ [] → MayUse s (e, n) q → h ≡ e
uses-one s e h n q one (p, taken, derives) = by (subst (λ ns. Among e ns) one (is-deriver s p (attribute_name q) e n derives))
  where
    by : Among e (h ∷ []) → h ≡ e
    by (inl same) = same
    by (inr k) = elim k [ ]

-- what a reference means is one
module _ (s : Schema) (self : Set) (vs : List QueryVariable) (r : Root) (qs : Qualifiers) (m : Meaning)
    (means : Means s self vs r qs m) where
  alone : (P : Meaning → Type 0) → ((k : Meaning) × Means s self vs r qs k × P k) → P m
  alone P (k, other, h) =
      subst P (first-is-one (MayMean s self vs r qs)
      (itself ∷ variable ∷ attribute_of_self ∷ item_of_type ∷ item ∷ []) k m other means) h

  pub clear-reference : (OneOf (IsUnclear s) (path s self vs r qs m).attributes → ⊥) → IsUnclearReference s self vs r qs → ⊥
  clear-reference free (inl lost) =
      lost m (first-holds (MayMean s self vs r qs)
      (itself ∷ variable ∷ attribute_of_self ∷ item_of_type ∷ item ∷ []) m means)
  clear-reference free (inr h) = free (alone (λ k. OneOf (IsUnclear s) (path s self vs r qs k).attributes) h)

  pub uses-only : (d : Derivation) → ReferenceMayUse s self d vs r qs → OneOf (MayUse s d) (path s self vs r qs m).attributes
  uses-only d h = alone (λ k. OneOf (MayUse s d) (path s self vs r qs k).attributes) h

  pub may-only : (x : Atom) → OfReference s self vs r qs x → (path s self vs r qs m).may x
  may-only x h = alone (λ k. (path s self vs r qs k).may x) h

pub means-attribute : (s : Schema) (self : Set) (vs : List QueryVariable) (n p : Name) (qs : Qualifiers)
    → (IsVariable vs n → ⊥) → MayTake s (of_set (WithSubtypes s self) n) p
    → Means s self vs (trees.named n) qs attribute_of_self
means-attribute s self vs n p qs free taken = inr (never, inr (free, inl ((p, taken), refl)))

pub means-variable : (s : Schema) (self : Set) (vs : List QueryVariable) (n : Name) (qs : Qualifiers)
    → IsVariable vs n → Means s self vs (trees.named n) qs variable
means-variable s self vs n qs is = inr (never, inl (is, refl))

-- an expression without a reason
pub no-reason : (s : Schema) (self : Set) (x : Tree) → (HasLooseAggregate s self x → ⊥) → (HasUnclearName s self x → ⊥)
    → (HasBadTypeof s self x → ⊥) → (HasBadKind s self x → ⊥)
    → ((u : Derivation) → BodyMayUse s self (parsed x) u → IsSetAside s u → ⊥)
    → (r : Reason) → HasReason s self (parsed x) r → ⊥
no-reason s self x loose name typeof kind leads reasons.Skipped h = h
no-reason s self x loose name typeof kind leads reasons.Profile h = loose h
no-reason s self x loose name typeof kind leads reasons.Name h = name h
no-reason s self x loose name typeof kind leads reasons.Typeof h = typeof h
no-reason s self x loose name typeof kind leads reasons.Kind h = kind h
no-reason s self x loose name typeof kind leads reasons.Leads (u, uses, aside) = leads u uses aside

-- a derived attribute that gives no reason and uses none isn't set aside
IsSound : Schema → Name → Derived → Type 0
IsSound s e d =
    ((u : Derivation) → BodyMayUse s (Self e) d.body u → ⊥) × ((r : Reason) → GivesReason s (Self e) d.body r → ⊥)

pub not-set-aside : (s : Schema) (e : Name) (x : Entity) → IsEntityAt s e x
    → Every (λ (d : Derived). ((u : Derivation) → BodyMayUse s (Self e) d.body u → ⊥)
    × ((r : Reason) → GivesReason s (Self e) d.body r → ⊥)) (listed x.derived)
    → (n : ℕ) → IsSetAside s (e, n) → ⊥
unfolding IsSound
not-set-aside s e x at sound n (u, way, why) = by way why
  where
    same : (y : Entity) → IsEntityAt s e y → x ≡ y
    same y h = let q = sym at ∙ h in cc

    is-sound : (d : Derived) → IsDerivation s (e, n) d → IsSound s e d
    is-sound d (y, h, nth) =
        every-at (IsSound s e) d (listed x.derived) sound (is-nth (listed x.derived) n d
        (subst (λ z. IsNth (listed z.derived) n d) (sym (same y h)) nth))

    unused : (v : Derivation) → Uses s (e, n) v → ⊥
    unused v (d, is, uses) = (is-sound d is).0 v uses

    faultless : (d : Derived) → IsDerivation s (e, n) d → (r : Reason) → GivesReason s (Self e) d.body r → ⊥
    faultless d is = (is-sound d is).1

    at-start : HasOwnReason s (e, n) ⊎ LeadsToItself s (e, n) → ⊥
    at-start (inl (d, is, r, gives)) = faultless d is r gives
    at-start (inr back) = let step = first-step (Uses s) (e, n) (e, n) back in unused step.0 step.1

    by : IsOrLeads (Uses s) (e, n) u → HasOwnReason s u ⊎ LeadsToItself s u → ⊥
    by (inl here) why = at-start (subst (λ v. HasOwnReason s v ⊎ LeadsToItself s v) (sym here) why)
    by (inr on) why = let step = first-step (Uses s) (e, n) u on in unused step.0 step.1

-- a number within 64 bits
worth-is : (t : List ℕ) (m : ℕ) → mantissa t ≡ pos m → exponent t ≡ pos 0
    → units t ≡ pos m *ℤ ten_to (pos finest)
unfolding units
worth-is t m hm he =
    let z : pos 0 +ℤ pos finest ≡ pos finest = omega (arith, ints) in
    ap (λ k. k *ℤ ten_to (exponent t +ℤ pos finest)) hm ∙ ap (λ e. pos m *ℤ ten_to (e +ℤ pos finest)) he
    ∙ ap (λ e. pos m *ℤ ten_to e) z

pub is-within : (t : List ℕ) (m : ℕ) → mantissa t ≡ pos m → exponent t ≡ pos 0 → m < 2 ^ 63 → (r : Reason)
    → (r ≡ reasons.Profile) × IsBeyond (IsWorth t) → ⊥
is-within t m hm he small r (e, beyond) = beyond (pos m) (record { sfits = small }) (worth-is t m hm he)

-- items of enumerations
pub item-among : (s : Schema) (t n : Name) → IsItemOf s t n
    → Among n (flat_map (λ (d : TypeDeclaration). enumerated_items d.underlying) (types s))
item-among s t n (e, items, way, (d, at, u), m) =
    among-flat (λ (d : TypeDeclaration). enumerated_items d.underlying) d n (types s) (type-name s e d at).0
    (subst (λ x. Among n (enumerated_items x)) (sym u) m)

-- no derived attribute uses another
pub no-uses : (s : Schema) → Every (λ (x : Entity). Every (λ (d : Derived). (u : Derivation)
    → BodyMayUse s (Self x.name) d.body u → ⊥) (listed x.derived)) (entities s) → (d u : Derivation) → Uses s d u → ⊥
no-uses s all (e, n) u (d, (x, at, nth), uses) =
    let known = entity-name s e x at in
    every-at (λ (d : Derived). (u : Derivation) → BodyMayUse s (Self x.name) d.body u → ⊥) d (listed x.derived)
    (every-at (λ (x : Entity). Every (λ (d : Derived). (u : Derivation)
    → BodyMayUse s (Self x.name) d.body u → ⊥) (listed x.derived)) x (entities s) all known.0)
    (is-nth (listed x.derived) n d nth) u (subst (λ m. BodyMayUse s (Self m) d.body u) (sym known.1) uses)
