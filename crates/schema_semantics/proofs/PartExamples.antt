-- What isn't checked of small schemas.
use Rattle.std.specs.Prelude.{◌≡◌, true, false, cond, List, [], ◌∷◌, None, Some, bytes_eq, codes}
use Rattle.std.specs.Str.{is_utf8, chars}
use Rattle.std.proofs.Common.{refl, inl, inr, ap, sym, subst}
use Rattle.express_syntax.specs.declared.expression.Function.TheVariants as functions
use Rattle.express_syntax.specs.declared.expression.Relation.TheVariants as relations
use Rattle.express_syntax.specs.Trees.{Tree, reference, comparison, call, literal, plain, text}
use Rattle.express_syntax.specs.Trees as trees
use Rattle.express_syntax.specs.Runs.{ended}
use Rattle.express_syntax.specs.Schemas.{Schema, Declaration, type, entity, TypeDeclaration, Entity, own, redeclared, Derived, Inverse, alone, parsed, DataType, named, integer, real, string, width, other_width, enumeration, data_type, of_other}
use Rattle.schema_semantics.specs.declared.unchecked.PartKind.{PartKind}
use Rattle.schema_semantics.specs.declared.unchecked.PartKind.TheVariants as parts
use Rattle.schema_semantics.specs.declared.unchecked.Reason.{Reason}
use Rattle.schema_semantics.specs.declared.unchecked.Reason.TheVariants as reasons
use Rattle.schema_semantics.specs.Names.{Name, IsFirst, IsEntityAt, Renames, DeclaresExplicit, explicit_names}
use Rattle.schema_semantics.specs.Shapes.{TypeShape, of_numbers, of_strings, IsShapeAt, HasShape, AreOne, AreAlikeTypes, Sort, Atom, an_item}
use Rattle.schema_semantics.specs.Shapes as shapes
use Rattle.schema_semantics.specs.Attributes.{Derivation, IsOrigin, DeclaresAs, IsFirstType, HasFirstShape}
use Rattle.schema_semantics.specs.Sets.{MayTake, attribute_of_self, item, Means, IsItemOf, OfReference, IsUnclearReference, ReferenceMayUse}
use Rattle.schema_semantics.specs.Reasons.{IsTypeTest, MayBeDeep}
use Rattle.schema_semantics.specs.Ranks.{Self, derived_name}
use Rattle.schema_semantics.specs.Parts.{Unchecked, AreUnchecked, all_reasons, HasOtherShape, NamesOther}
use Rattle.schema_semantics.proofs.Lists.{first-step}
use Rattle.schema_semantics.proofs.Facts.{neither, never, named-in, is-declarer, derivers, of_self, takes-own, clear, uses-none, clear-reference, uses-only, may-only, means-attribute, no-reason}
use Rattle.schema_semantics.proofs.Geo.{bare, having, rule, name_tree, number_tree, POINT, point, geo, FINISH, A, B}

differ : true ≡ false → ⊥
differ e = cc

abbrev part : PartKind → Name → Reason → Unchecked
part k n r = record { kind = k; name = n; reason = r }

abbrev X : Name
X = codes "X"

abbrev Y : Name
Y = codes "Y"

abbrev schema : List Declaration → Schema
schema ds = record { name = codes "S"; version = None; declarations = ds }

-- numbers and strings have different shapes
of-integer : (s : Schema) (f : TypeShape) → HasShape s integer f → f ≡ of_numbers
of-integer s f (k, inl e, at) = subst (λ l. IsShapeAt s l f) (sym e) at
of-integer s f (k, inr way, at) = absurd ((first-step (Renames s) integer k way).1)

of-string : (s : Schema) (f : TypeShape) → HasShape s (string None) f → f ≡ of_strings
of-string s f (k, inl e, at) = subst (λ l. IsShapeAt s l f) (sym e) at
of-string s f (k, inr way, at) = absurd ((first-step (Renames s) (string None) k way).1)

numbers-are-no-strings : (s : Schema) → AreAlikeTypes s integer (string None) → ⊥
numbers-are-no-strings s (R, related, keeps) = by (keeps integer (string None) related)
  where
    by : (f g : TypeShape) × HasShape s integer f × HasShape s (string None) g × AreOne R f g → ⊥
    by (f, g, h, k, one) =
        subst (λ x. AreOne R of_numbers x) (of-string s g k) (subst (λ x. AreOne R x g) (of-integer s f h) one)

-- TYPE t = REAL(5); END_TYPE; TYPE w = STRING(..); END_TYPE;
-- ENTITY a SUPERTYPE OF (..); x : INTEGER; DERIVE y : INTEGER := 3; UNIQUE u : y; END_ENTITY;
-- ENTITY b SUBTYPE OF (a); SELF\a.x : STRING; INVERSE SELF\a.i : b FOR x; END_ENTITY;
abbrev precise : Declaration
precise = type (record { name = codes "T"; underlying = data_type (real (Some (width (codes "5")))); rules = None })

abbrev vague : Declaration
vague = type (record { name = codes "W"; underlying = data_type (string (Some (other_width ended, false))); rules = None })

abbrev three : Derived
three = record { attribute = own Y; data_type = integer; body = parsed (number_tree (codes "3")) }

abbrev above : Entity
above =
    record (bare A) {
      supertype = of_other ended;
      explicits = having X integer ∷ [];
      derived = Some (three ∷ []);
      uniques = Some (record { label = Some (codes "U"); attributes = own Y ∷ [] } ∷ []);
    }

abbrev again : Inverse
again =
    record {
      attribute = redeclared A (codes "I");
      collection = alone;
      entity = B;
      holder = None;
      inverted = X;
    }

abbrev below : Entity
below =
    record (bare B) {
      subtype_of = Some (A ∷ []);
      explicits = record { attributes = redeclared A X ∷ []; optional = false; data_type = string None } ∷ [];
      inverses = Some (again ∷ []);
    }

abbrev odd : Schema
odd = schema (precise ∷ vague ∷ entity above ∷ entity below ∷ [])

first-profile : (P : Type 0) → P → IsFirst (λ (q : Reason). (q ≡ reasons.Profile) × P) all_reasons reasons.Profile
first-profile P p = inr ((λ h. unlike h.0), inl ((refl, p), refl))
  where
    unlike : reasons.Skipped ≡ reasons.Profile → ⊥
    unlike e = cc

-- y is derived
names-derived : NamesOther odd A (own Y)
names-derived = (A, Y, (refl, (inl refl, (above, refl, inr (inl refl)))), other)
  where
    other : DeclaresExplicit odd A Y → ⊥
    other (e, at, m) = named-in odd explicit_names A Y e at m

-- x is redeclared with another shape
abbrev lines : Name → List Name
lines n = cond (bytes_eq n A) (A ∷ []) (B ∷ A ∷ [])

x-is-of-a : IsOrigin odd A X A
x-is-of-a = ((above, refl), lines, (refl, (refl, tt)), inl ((above, refl, inl refl), refl))

type-of-x : (k : DataType) → IsFirstType odd A X k → integer ≡ k
type-of-x k (e, at, declares) = by (subst (λ y. DeclaresAs X k y) (sym (same at)) declares)
  where
    same : IsEntityAt odd A e → above ≡ e
    same h = cc

    by : DeclaresAs X k above → integer ≡ k
    by (inl (inl h)) = h.1
    by (inl (inr h)) = elim h [ ]
    by (inr (inl (inl h))) = absurd (differ (ap (λ x. bytes_eq (derived_name x) Y) h.0))
    by (inr (inl (inr h))) = elim h [ ]
    by (inr (inr h)) = elim h [ ]

other-shape : HasOtherShape odd (redeclared A X) (string None)
other-shape = (A, X, (A, refl, x-is-of-a), unlike)
  where
    unlike : HasFirstShape odd A X (string None) → ⊥
    unlike (first, is, alike) =
        numbers-are-no-strings odd (subst (λ k. AreAlikeTypes odd k (string None)) (sym (type-of-x first is)) alike)

odd-lists : AreUnchecked odd (part parts.Width (codes "W") reasons.Profile
    ∷ part parts.Supertype (codes "A") reasons.Profile ∷ part parts.Unique (codes "A.U") reasons.Profile
    ∷ part parts.Redeclared (codes "B.X") reasons.Profile ∷ part parts.Inverse (codes "B.I") reasons.Profile ∷ [])
odd-lists =
    inl (
      reasons.Profile,
      first-profile (Unit {0}) tt,
      _,
      refl,
      inl (
        reasons.Profile,
        first-profile (Unit {0}) tt,
        _,
        refl,
        inr (
          no-reason odd (Self A) (number_tree (codes "3")) never never never never (λ u uses aside. uses),
          inl (
            reasons.Profile,
            inr (never, inl (inl names-derived, refl)),
            _,
            refl,
            inl (
              reasons.Profile,
              first-profile (HasOtherShape odd (redeclared A X) (string None)) other-shape,
              _,
              refl,
              inl (reasons.Profile, first-profile (Unit {0}) tt, [], refl, refl),
            ),
          ),
        ),
      ),
    )

-- TYPE finish = ENUMERATION OF (rough, fine); END_TYPE;
-- ENTITY a; f : finish; WHERE wr1 : f = fine; wr2 : fine < 1; wr3 : EXISTS(rough); END_ENTITY;
-- ENTITY b SUBTYPE OF (a); rough : REAL; END_ENTITY;
abbrev F : Name
F = codes "F"

abbrev ROUGH : Name
ROUGH = codes "ROUGH"

abbrev FINE : Name
FINE = codes "FINE"

abbrev finish : TypeDeclaration
finish = record { name = FINISH; underlying = enumeration (ROUGH ∷ FINE ∷ []); rules = None }

abbrev is_fine : Tree
is_fine = comparison (name_tree F) relations.Equal (name_tree FINE)

abbrev below_one : Tree
below_one = comparison (name_tree FINE) relations.Less (number_tree (codes "1"))

abbrev has_rough : Tree
has_rough = call functions.Exists (name_tree ROUGH)

abbrev finished : Entity
finished =
    record (bare A) {
      explicits = having F (named FINISH) ∷ [];
      rules = Some (rule (codes "WR1") is_fine ∷ rule (codes "WR2") below_one ∷ rule (codes "WR3") has_rough ∷ []);
    }

abbrev measured : Entity
measured = record (bare B) { subtype_of = Some (A ∷ []); explicits = having ROUGH (real None) ∷ [] }

abbrev finishes : Schema
finishes = schema (type finish ∷ entity finished ∷ entity measured ∷ [])

-- `fine` is the item, since no entity has an attribute of this name
means-item : Means finishes (Self A) [] (trees.named FINE) plain item
means-item = inr (never, inr (never, inr (no-attribute, inr (never, inl ((FINISH, is-item), refl)))))
  where
    no-attribute : ((p : Name) × MayTake finishes (of_self finishes A FINE) p) → ⊥
    no-attribute (p, (e, is, (kind, declares))) = is-declarer finishes p FINE declares

    is-item : IsItemOf finishes FINISH FINE
    is-item = (FINISH, ROUGH ∷ FINE ∷ [], inl refl, (finish, refl, refl), inr (inl refl))

-- `rough` is the attribute that b alone has, and not the item
takes-rough : MayTake finishes (of_self finishes A ROUGH) B
takes-rough = (B, (A, refl, inr ([], (measured, refl, inl refl))), (inl refl, (measured, refl, inl refl)))

means-rough : Means finishes (Self A) [] (trees.named ROUGH) plain attribute_of_self
means-rough = means-attribute finishes (Self A) [] ROUGH B plain never takes-rough

clear-rough : IsUnclearReference finishes (Self A) [] (trees.named ROUGH) plain → ⊥
clear-rough =
    clear-reference finishes (Self A) [] (trees.named ROUGH) plain attribute_of_self means-rough
    (neither (clear finishes (of_self finishes A ROUGH) B refl takes-rough) never)

takes-f : MayTake finishes (of_self finishes A F) A
takes-f = takes-own finishes A F (finished, refl, inl refl)

means-f : Means finishes (Self A) [] (trees.named F) plain attribute_of_self
means-f = means-attribute finishes (Self A) [] F A plain never takes-f

clear-f : IsUnclearReference finishes (Self A) [] (trees.named F) plain → ⊥
clear-f =
    clear-reference finishes (Self A) [] (trees.named F) plain attribute_of_self means-f
    (neither (clear finishes (of_self finishes A F) A refl takes-f) never)

-- nothing is derived
unused : (a : Name) → Means finishes (Self A) [] (trees.named a) plain attribute_of_self
    → derivers finishes a ≡ [] → (u : Derivation) → ReferenceMayUse finishes (Self A) u [] (trees.named a) plain → ⊥
unused a means none u h =
    neither (uses-none finishes u (of_self finishes A a) none) never
    (uses-only finishes (Self A) [] (trees.named a) plain attribute_of_self means u h)

clear-fine : IsUnclearReference finishes (Self A) [] (trees.named FINE) plain → ⊥
clear-fine = clear-reference finishes (Self A) [] (trees.named FINE) plain item means-item never

not-deep : MayBeDeep (OfReference finishes (Self A) [] (trees.named FINE) plain) → ⊥
not-deep (inl (e, h)) = unlike (may-only finishes (Self A) [] (trees.named FINE) plain item means-item (shapes.instance e) h)
  where
    unlike : shapes.instance e ≡ shapes.value an_item false → ⊥
    unlike q = cc
not-deep (inr (k, w, h)) =
    unlike (may-only finishes (Self A) [] (trees.named FINE) plain item means-item
    (shapes.value (shapes.an_aggregate k) w) h)
  where
    unlike : shapes.value (shapes.an_aggregate k) w ≡ shapes.value an_item false → ⊥
    unlike q = cc

finishes-list : AreUnchecked finishes (part parts.Where (codes "A.WR2") reasons.Kind ∷ [])
finishes-list =
    inr (
      no-reason finishes (Self A) is_fine
          (neither never (neither (neither never never) (neither never never)))
          (neither never (neither (neither clear-f never) (neither clear-fine never)))
          (neither never (neither (neither never never) (neither never never)))
          (neither (λ h. not-deep h.1) (neither (neither never never) (neither never never)))
          (λ u uses aside. neither never (neither (neither (unused F means-f refl u) never)
          (neither (λ h. uses-only finishes (Self A) [] (trees.named FINE) plain item means-item u h) never)) uses),
      inl (
        reasons.Kind,
        inr (
          never,
          inr (
            neither never (neither (neither never never) never),
            inr (
              neither never (neither (neither clear-fine never) never),
              inr (
                neither never (neither (neither never never) never),
                inl (inl (inl (an_item, false, tt, (item, means-item, refl))), refl),
              ),
            ),
          ),
        ),
        [],
        refl,
        inr (
          no-reason finishes (Self A) has_rough
              (neither never (neither never never))
              (neither never (neither clear-rough never))
              (neither never (neither never never))
              (neither never (neither never never))
              (λ u uses aside. neither never (neither (unused ROUGH means-rough refl u) never) uses),
          refl,
        ),
      ),
    )

-- 'GEO.POINT' IN TYPEOF(SELF) has an answer
is-point-test : IsTypeTest geo (Self POINT) [] (literal (text (codes "'GEO.POINT'"))) (reference trees.own plain)
unfolding is_utf8 chars
is-point-test = (POINT, (codes "GEO.POINT", refl, refl), inl (point, refl))
