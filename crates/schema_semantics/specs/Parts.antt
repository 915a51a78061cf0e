-- The parts of a schema that aren't checked, each with its reason, in the order of the text (ISO 10303-11, 9).
use Rattle.std.specs.Prelude.{◌≡◌, ◌≢◌, ℕ, ◌+◌, Bool, List, [], ◌∷◌, ◌++◌, Option, None, Some, ℤ, FitsSigned, ◌⊎◌, codes, decimal}
use Rattle.std.specs.Int.{w64}
use Rattle.step_literals.specs.Decimals.{IsWorth}
use Rattle.express_syntax.specs.Schemas.{Schema, Declaration, type, entity, skipped, function, procedure, rule, constants, subtype_constraint, Skipped, TypeDeclaration, Entity, Attribute, own, redeclared, Explicit, Derived, Inverse, Unique, Rule, Body, Bound, value, unlimited, Bounds, other_bound, Width, width, other_width, Underlying, data_type, DataType, named, real, string, binary, array, list, bag, set, Supertype, of_other, Collection, alone, in_set, in_bag}
use Rattle.express_syntax.specs.Clauses.{IsInteger}
use Rattle.schema_semantics.specs.declared.unchecked.PartKind.{PartKind}
use Rattle.schema_semantics.specs.declared.unchecked.PartKind.TheVariants as parts
use Rattle.schema_semantics.specs.declared.unchecked.Reason.{Reason}
use Rattle.schema_semantics.specs.declared.unchecked.Reason.TheVariants as reasons
use Rattle.schema_semantics.specs.Names.{Name, OneOf, IsFirst, listed, IsKindOf, Has, DeclaresExplicit}
use Rattle.schema_semantics.specs.Shapes.{IsOf, IsOverSelect}
use Rattle.schema_semantics.specs.Attributes.{IsRedeclaration, HasFirstShape}
use Rattle.schema_semantics.specs.Sets.{MayTake, of_entity}
use Rattle.schema_semantics.specs.Ranks.{Self, HasReason}

-- A part that isn't checked, and the reason.
pub record Unchecked : Type 0 where
  pub kind : PartKind
  pub name : Name
  pub reason : Reason

-- A part that may be listed as unchecked, and the reasons that hold for it.
pub record Candidate : Type 1 where
  pub kind : PartKind
  pub name : Name
  pub has_reason : Reason → Type 0

abbrev pub all_reasons : List Reason
all_reasons =
    reasons.Skipped ∷ reasons.Profile ∷ reasons.Name ∷ reasons.Typeof ∷ reasons.Kind ∷ reasons.Leads ∷ []

-- The list of the parts that have a reason, each with the first one that holds.
abbrev pub Lists : List Candidate → List Unchecked → Type 0
Lists [] us = us ≡ []
Lists (c ∷ cs) us =
    ((r : Reason) × IsFirst c.has_reason all_reasons r × (vs : List Unchecked)
    × (us ≡ record { kind = c.kind; name = c.name; reason = r } ∷ vs) × Lists cs vs)
    ⊎ (((r : Reason) → c.has_reason r → ⊥) × Lists cs us)

-- A part that has this reason if `P` holds.
abbrev pub because : PartKind → Name → Reason → Type 0 → Candidate
because k n r P = record { kind = k; name = n; has_reason = λ q. (q ≡ r) × P }

abbrev pub always : PartKind → Name → Reason → Candidate
always k n r = because k n r (Unit {0})

-- The candidates of each element in turn.
abbrev pub for_each : {X : Type 0} → (X → List Candidate) → List X → List Candidate
for_each f [] = []
for_each f (x ∷ xs) = f x ++ for_each f xs

-- HOLDER.LABEL.
abbrev pub dotted : Name → Name → Name
dotted h n = h ++ 46 ∷ n

-- The label of a rule; a rule without one has `?` and its number in its clause, counted from 1.
abbrev pub label_of : ℕ → Option Name → Name
label_of n None = 63 ∷ decimal n
label_of n (Some l) = l

-- No signed integer of 64 bits satisfies `Is`.
abbrev pub IsBeyond : (ℤ → Type 0) → Type 0
IsBeyond Is = (n : ℤ) → FitsSigned w64 n → Is n → ⊥

-- The unchecked parts of a bound: a bound that isn't an integer literal or `?`, or whose integer
-- needs more than 64 bits (ISO 10303-11, 8.2).
abbrev pub parts_of_bound : Name → Bound → List Candidate
parts_of_bound n (other_bound r) = always parts.Bound n reasons.Profile ∷ []
parts_of_bound n (value sign t) =
    because parts.Bound n reasons.Profile (IsBeyond (IsInteger (value sign t))) ∷ []
parts_of_bound n unlimited = []

abbrev pub parts_of_bounds : Name → Bounds → List Candidate
parts_of_bounds n b = parts_of_bound n b.lower ++ parts_of_bound n b.upper

abbrev pub parts_of_some_bounds : Name → Option Bounds → List Candidate
parts_of_some_bounds n None = []
parts_of_some_bounds n (Some b) = parts_of_bounds n b

-- The unchecked parts of a width: one that isn't an integer literal, or whose integer needs more
-- than 64 bits (ISO 10303-11, 8.1.6 and 8.1.7).
abbrev pub parts_of_width : Name → Width → List Candidate
parts_of_width n (other_width r) = always parts.Width n reasons.Profile ∷ []
parts_of_width n (width t) = because parts.Width n reasons.Profile (IsBeyond (IsWorth t)) ∷ []

abbrev pub parts_of_some_width : Name → Option (Width × Bool) → List Candidate
parts_of_some_width n None = []
parts_of_some_width n (Some w) = parts_of_width n w.0

-- The unchecked bounds and widths of a data type, from the outermost on, each lower bound before
-- the upper one. The precision of a REAL limits no value in an exchange file (ISO 10303-11, 8.1.2).
abbrev pub parts_of_data_type : Name → DataType → List Candidate
parts_of_data_type n (string w) = parts_of_some_width n w
parts_of_data_type n (binary w) = parts_of_some_width n w
parts_of_data_type n (array b o u k) = parts_of_bounds n b ++ parts_of_data_type n k
parts_of_data_type n (list b u k) = parts_of_some_bounds n b ++ parts_of_data_type n k
parts_of_data_type n (bag b k) = parts_of_some_bounds n b ++ parts_of_data_type n k
parts_of_data_type n (set b k) = parts_of_some_bounds n b ++ parts_of_data_type n k
parts_of_data_type n k = []

-- HOLDER.ATTRIBUTE.
abbrev pub attribute_label : Name → Attribute → Name
attribute_label h (own n) = dotted h n
attribute_label h (redeclared q n) = dotted h n

-- The declaration redeclares an attribute with another shape.
abbrev pub HasOtherShape : Schema → Attribute → DataType → Type 0
HasOtherShape s x k = (p : Name) × (a : Name) × IsRedeclaration s x p a × (HasFirstShape s p a k → ⊥)

-- A redeclaration as explicit with another shape isn't checked (ISO 10303-11, 9.2.3.4).
abbrev pub parts_of_redeclared : Schema → Name → DataType → Attribute → List Candidate
parts_of_redeclared s h k (own a) = []
parts_of_redeclared s h k (redeclared q a) =
    because parts.Redeclared (dotted h a) reasons.Profile (HasOtherShape s (redeclared q a) k) ∷ []

-- A declaration of several attributes counts once for each of them (ISO 10303-11, 9.2.1.1).
abbrev pub parts_of_explicit : Schema → Name → Explicit → List Candidate
parts_of_explicit s h x =
    for_each (λ (a : Attribute). parts_of_redeclared s h x.data_type a
    ++ parts_of_data_type (attribute_label h a) x.data_type) x.attributes

-- The unchecked parts of a derived attribute (ISO 10303-11, 9.2.1.2).
abbrev pub parts_of_derived : Schema → Name → Derived → List Candidate
parts_of_derived s h d =
    record { kind = parts.Derive; name = attribute_label h d.attribute; has_reason = HasReason s (Self h) d.body }
    ∷ parts_of_data_type (attribute_label h d.attribute) d.data_type

abbrev pub parts_of_collection : Name → Collection → List Candidate
parts_of_collection n alone = []
parts_of_collection n (in_set b) = parts_of_some_bounds n b
parts_of_collection n (in_bag b) = parts_of_some_bounds n b

-- A redeclared inverse attribute isn't checked.
abbrev pub parts_of_redeclared_inverse : Name → Attribute → List Candidate
parts_of_redeclared_inverse h (own a) = []
parts_of_redeclared_inverse h (redeclared q a) = always parts.Inverse (dotted h a) reasons.Profile ∷ []

-- The unchecked parts of an inverse attribute (ISO 10303-11, 9.2.1.3).
abbrev pub parts_of_inverse : Name → Inverse → List Candidate
parts_of_inverse h i =
    parts_of_redeclared_inverse h i.attribute ++ parts_of_collection (attribute_label h i.attribute) i.collection

-- A name in a UNIQUE rule of `e` means the attribute `n` of `p` (ISO 10303-11, 9.2.2.1).
abbrev pub NamesAttribute : Schema → Name → Attribute → Name → Name → Type 0
NamesAttribute s e (own a) p n = (a ≡ n) × Has s e p a
NamesAttribute s e (redeclared q a) p n = (a ≡ n) × IsKindOf s e q × MayTake s (of_entity q a) p

-- A name in a UNIQUE rule of `e` means an attribute that is derived or inverse.
abbrev pub NamesOther : Schema → Name → Attribute → Type 0
NamesOther s e x = (p : Name) × (a : Name) × NamesAttribute s e x p a × (DeclaresExplicit s p a → ⊥)

-- A name in a UNIQUE rule of `e` means no attribute, or more than one.
abbrev pub NamesNotOne : Schema → Name → Attribute → Type 0
NamesNotOne s e x =
    ((p : Name) (a : Name) → NamesAttribute s e x p a → ⊥)
    ⊎ ((p : Name) × (q : Name) × (a : Name) × NamesAttribute s e x p a × NamesAttribute s e x q a × (p ≢ q))

abbrev pub UniqueHasReason : Schema → Name → List Attribute → Reason → Type 0
UniqueHasReason s e xs reasons.Profile = OneOf (NamesOther s e) xs
UniqueHasReason s e xs reasons.Name = OneOf (NamesNotOne s e) xs
UniqueHasReason s e xs r = ⊥

-- The rules of a UNIQUE clause, numbered from `n`.
abbrev pub parts_of_uniques : Schema → Name → ℕ → List Unique → List Candidate
parts_of_uniques s h n [] = []
parts_of_uniques s h n (u ∷ us) =
    record { kind = parts.Unique; name = dotted h (label_of n u.label); has_reason = UniqueHasReason s h u.attributes }
    ∷ parts_of_uniques s h (n + 1) us

-- The rules of a WHERE clause, numbered from `n` (ISO 10303-11, 9.2.2.2).
abbrev pub parts_of_rules : Name → (Body → Reason → Type 0) → ℕ → List Rule → List Candidate
parts_of_rules h has n [] = []
parts_of_rules h has n (r ∷ rs) =
    record { kind = parts.Where; name = dotted h (label_of n r.label); has_reason = has r.body }
    ∷ parts_of_rules h has (n + 1) rs

-- A supertype expression that isn't supported isn't checked (ISO 10303-11, 9.2.5).
abbrev pub parts_of_supertype : Name → Supertype → List Candidate
parts_of_supertype n (of_other r) = always parts.Supertype n reasons.Profile ∷ []
parts_of_supertype n s = []

abbrev pub parts_of_entity : Schema → Entity → List Candidate
parts_of_entity s e =
    parts_of_supertype e.name e.supertype
    ++ for_each (parts_of_explicit s e.name) e.explicits
    ++ for_each (parts_of_derived s e.name) (listed e.derived)
    ++ for_each (parts_of_inverse e.name) (listed e.inverses)
    ++ parts_of_uniques s e.name 1 (listed e.uniques)
    ++ parts_of_rules e.name (HasReason s (Self e.name)) 1 (listed e.rules)

abbrev pub parts_of_underlying : Name → Underlying → List Candidate
parts_of_underlying n (data_type k) = parts_of_data_type n k
parts_of_underlying n u = []

-- The reasons of a rule of a defined type, whose SELF is a value of the type (ISO 10303-11, 9.1).
abbrev pub TypeRuleHasReason : Schema → DataType → Body → Reason → Type 0
TypeRuleHasReason s k b reasons.Profile = IsOverSelect s k ⊎ HasReason s (IsOf s k) b reasons.Profile
TypeRuleHasReason s k b r = HasReason s (IsOf s k) b r

abbrev pub parts_of_type : Schema → TypeDeclaration → List Candidate
parts_of_type s t =
    parts_of_underlying t.name t.underlying
    ++ parts_of_rules t.name (TypeRuleHasReason s (named t.name)) 1 (listed t.rules)

-- Functions, procedures, rules, constants and subtype constraints aren't checked (ISO 10303-11, 9.4
-- to 9.7).
abbrev pub part_of_skipped : Skipped → Candidate
part_of_skipped (function n r) = always parts.Function n reasons.Skipped
part_of_skipped (procedure n r) = always parts.Procedure n reasons.Skipped
part_of_skipped (rule n r) = always parts.Rule n reasons.Skipped
part_of_skipped (constants r) = always parts.Constant (codes "CONSTANT") reasons.Skipped
part_of_skipped (subtype_constraint n r) = always parts.SubtypeConstraint n reasons.Skipped

abbrev pub parts_of_declaration : Schema → Declaration → List Candidate
parts_of_declaration s (type t) = parts_of_type s t
parts_of_declaration s (entity e) = parts_of_entity s e
parts_of_declaration s (skipped p) = part_of_skipped p ∷ []

-- All parts that may be unchecked, in the order of the text.
abbrev pub candidates : Schema → List Candidate
candidates s = for_each (parts_of_declaration s) s.declarations

-- `us` are the unchecked parts of the schema.
abbrev pub AreUnchecked : Schema → List Unchecked → Type 0
AreUnchecked s us = Lists (candidates s) us
