-- From trees that are alike to numbers that are.
use Rattle.std.specs.Prelude.{◌≡◌, ℕ, Bool, true, false, ◌&&◌, List, Option, None, Some, slice_get}
use Rattle.std.proofs.Common.{refl, ap, sym, subst, ◌∙◌, arith}
use Rattle.express_syntax.specs.Schemas.{Schema, DataType, integer, number, boolean, logical, real, string, binary, named, array, list, bag, set}
use Rattle.schema_semantics.specs.Names.{declaration_of}
use Rattle.schema_semantics.specs.Faults.{IsResolved}
use Rattle.schema_semantics.specs.Shapes.{TypeShape, of_numbers, of_logicals, of_strings, of_binaries, of_items, of_instances, of_arrays, of_lists, of_collections, AreOne, KeepsShapes, AreAlikeTypes}
use Rattle.schema_semantics.proofs.Bools.{both-hold}
use Rattle.schema_data_types.specs.NumberedTypes.{all_data_types}
use Rattle.schema_data_types.specs.declared.shapes.Shape.{Shape as NumberedShape}
use Rattle.schema_data_types.specs.declared.shapes.Shape.TheVariants.{Numbers, Logicals, Strings, Binaries, Items, Instances, Arrays, Lists, Collections}
use Rattle.schema_data_types.specs.steps.Alike.{AreAlikeAt, AreOne as AreOneAt, KeepsShapes as KeepsShapesAt}
use Rattle.schema_data_types.specs.steps.Comparing.{kind, element}
use Rattle.schema_data_types.specs.ShapeTables.{IsKnown, IsShown, AreShapes}
use Rattle.schema_data_types.proofs.Parts.{kind_of, part, kind-shown, part-known}
use Rattle.schema_data_types.proofs.Fitting.{is_known, known-met, met-known, both}
use Rattle.schema_data_types.proofs.OneShape.{shape-one}

-- shapes that are one are of one kind, with elements that R relates
one-kind : (R : DataType → DataType → Bool) (f g : TypeShape) → AreOne R f g → kind_of f ≡ kind_of g
one-kind R of_numbers of_numbers h = refl
one-kind R of_logicals of_logicals h = refl
one-kind R of_strings of_strings h = refl
one-kind R of_binaries of_binaries h = refl
one-kind R of_items of_items h = refl
one-kind R of_instances of_instances h = refl
one-kind R (of_arrays d) (of_arrays e) h = refl
one-kind R (of_lists d) (of_lists e) h = refl
one-kind R (of_collections d) (of_collections e) h = refl
one-kind R f g h = absurd h

moved : (R : DataType → DataType → Bool) (a b d e : DataType) → R a b ≡ true → Some a ≡ Some d → Some b ≡ Some e
    → R d e ≡ true
moved R a b d e h p q =
    let one : a ≡ d = cc in
    let two : b ≡ e = cc in subst (λ x. R x e ≡ true) one (subst (λ y. R a y ≡ true) two h)

one-parts : (R : DataType → DataType → Bool) (f g : TypeShape) (d e : DataType) → AreOne R f g → part f ≡ Some d
    → part g ≡ Some e → R d e ≡ true
one-parts R of_numbers of_numbers d e h p q = absurd (cc)
one-parts R of_logicals of_logicals d e h p q = absurd (cc)
one-parts R of_strings of_strings d e h p q = absurd (cc)
one-parts R of_binaries of_binaries d e h p q = absurd (cc)
one-parts R of_items of_items d e h p q = absurd (cc)
one-parts R of_instances of_instances d e h p q = absurd (cc)
one-parts R (of_arrays a) (of_arrays b) d e h p q = moved R a b d e h p q
one-parts R (of_lists a) (of_lists b) d e h p q = moved R a b d e h p q
one-parts R (of_collections a) (of_collections b) d e h p q = moved R a b d e h p q
one-parts R f g d e h p q = absurd h

one-at : (Q : ℕ → ℕ → Bool) (x y : NumberedShape) → kind x ≡ kind y
    → ((a b : ℕ) → element x ≡ Some a → element y ≡ Some b → Q a b ≡ true) → AreOneAt Q x y
one-at Q Numbers Numbers k h = tt
one-at Q Logicals Logicals k h = tt
one-at Q Strings Strings k h = tt
one-at Q Binaries Binaries k h = tt
one-at Q Items Items k h = tt
one-at Q Instances Instances k h = tt
one-at Q (Arrays a) (Arrays b) k h = h a b refl refl
one-at Q (Lists a) (Lists b) k h = h a b refl refl
one-at Q (Collections a) (Collections b) k h = h a b refl refl
one-at Q x y k h = absurd (omega arith)

-- the data type at the number of the elements
abbrev HasPart : List DataType → TypeShape → ℕ → Type 0
HasPart all f c = (d : DataType) × (part f ≡ Some d) × (slice_get all c ≡ Some d)

part-moved : (all : List DataType) (f : TypeShape) (k : DataType) (a c : ℕ) → Some a ≡ Some c → slice_get all a ≡ Some k
    → part f ≡ Some k → HasPart all f c
part-moved all f k a c e at p = let same : a ≡ c = cc in (k, p, sym (ap (slice_get all) same) ∙ at)

element-shown : (all : List DataType) (x : NumberedShape) (f : TypeShape) (c : ℕ) → IsShown all x f → element x ≡ Some c
    → HasPart all f c
element-shown all Numbers f c h e = absurd (cc)
element-shown all Logicals f c h e = absurd (cc)
element-shown all Strings f c h e = absurd (cc)
element-shown all Binaries f c h e = absurd (cc)
element-shown all Items f c h e = absurd (cc)
element-shown all Instances f c h e = absurd (cc)
element-shown all (Arrays a) f c (k, at, h) e = part-moved all f k a c e at (ap part h)
element-shown all (Lists a) f c (k, at, h) e = part-moved all f k a c e at (ap part h)
element-shown all (Collections a) f c (k, at, h) e = part-moved all f k a c e at (ap part h)

module _ (s : Schema) (r : IsResolved s) (shapes : List NumberedShape) (t : AreShapes s shapes) where
  known : DataType → Bool
  known (named n) = is_known (declaration_of s.declarations n)
  known (array b o u k) = known k
  known (list b u k) = known k
  known (bag b k) = known k
  known (set b k) = known k
  known k = true

  known-so : (k : DataType) → known k ≡ true → IsKnown s k
  unfolding known
  known-so integer h = tt
  known-so number h = tt
  known-so boolean h = tt
  known-so logical h = tt
  known-so (real w) h = tt
  known-so (string w) h = tt
  known-so (binary w) h = tt
  known-so (array b o u k) h = known-so k h
  known-so (list b u k) h = known-so k h
  known-so (bag b k) h = known-so k h
  known-so (set b k) h = known-so k h
  known-so (named n) h = (known-met s n (declaration_of s.declarations n) refl h, tt)

  so-known : (k : DataType) → IsKnown s k → known k ≡ true
  unfolding known
  so-known integer h = refl
  so-known number h = refl
  so-known boolean h = refl
  so-known logical h = refl
  so-known (real w) h = refl
  so-known (string w) h = refl
  so-known (binary w) h = refl
  so-known (array b o u k) h = so-known k h
  so-known (list b u k) h = so-known k h
  so-known (bag b k) h = so-known k h
  so-known (set b k) h = so-known k h
  so-known (named n) h = met-known s n h.0

  module _ (R : DataType → DataType → Bool) (keeps : KeepsShapes s R) where
    relates : Option DataType → Option DataType → Bool
    relates (Some k) (Some l) = R k l && (known k && known l)
    relates o p = false

    record Related (o p : Option DataType) : Type 0 where
      ours : DataType
      theirs : DataType
      first : o ≡ Some ours
      second : p ≡ Some theirs
      holds : R ours theirs ≡ true
      ours_known : IsKnown s ours
      theirs_known : IsKnown s theirs

    related-so : (o p : Option DataType) → relates o p ≡ true → Related o p
    unfolding relates
    related-so None p h = absurd (cc)
    related-so (Some k) None h = absurd (cc)
    related-so (Some k) (Some l) h =
        let parted = both-hold (R k l) (known k && known l) h in
        let more = both-hold (known k) (known l) parted.1 in record {
          ours = k;
          theirs = l;
          first = refl;
          second = refl;
          holds = parted.0;
          ours_known = known-so k more.0;
          theirs_known = known-so l more.1;
        }

    so-related : (o p : Option DataType) (k l : DataType) → o ≡ Some k → p ≡ Some l → R k l ≡ true → IsKnown s k
        → IsKnown s l → relates o p ≡ true
    unfolding relates
    so-related o p k l e f h kk lk =
        ap (λ (x : Option DataType). relates x p) e ∙ ap (relates (Some k)) f
        ∙ both (R k l) (known k && known l) h (both (known k) (known l) (so-known k kk) (so-known l lk))

    relates_at : ℕ → ℕ → Bool
    relates_at m n = relates (slice_get (all_data_types s) m) (slice_get (all_data_types s) n)

    keeps-at : KeepsShapesAt shapes relates_at
    unfolding relates_at
    keeps-at m n h =
        let a = related-so (slice_get (all_data_types s) m) (slice_get (all_data_types s) n) h in
        let (f, g, ours, theirs, alike) = keeps a.ours a.theirs a.holds in
        let (x, at, of) = t.each m a.ours a.first a.ours_known in
        let (y, there, other) = t.each n a.theirs a.second a.theirs_known in
        let shown = subst (IsShown (all_data_types s) x) (shape-one s a.ours of.0 f of.1 ours) of.2 in
        let seen = subst (IsShown (all_data_types s) y) (shape-one s a.theirs other.0 g other.1 theirs) other.2 in (
          x,
          y,
          at,
          there,
          one-at relates_at x y
              (kind-shown (all_data_types s) x f shown ∙ one-kind R f g alike
              ∙ sym (kind-shown (all_data_types s) y g seen))
              (λ b c p q.
              (let (d, dp, dat) = element-shown (all_data_types s) x f b shown p in
              let (e, ep, eat) = element-shown (all_data_types s) y g c seen q in
              so-related (slice_get (all_data_types s) b) (slice_get (all_data_types s) c) d e dat eat
              (one-parts R f g d e alike dp ep) (part-known s r a.ours d f a.ours_known ours dp)
              (part-known s r a.theirs e g a.theirs_known theirs ep))),
        )

  pub numbers-alike : (m n : ℕ) (k l : DataType) → slice_get (all_data_types s) m ≡ Some k
      → slice_get (all_data_types s) n ≡ Some l → IsKnown s k → IsKnown s l → AreAlikeTypes s k l → AreAlikeAt shapes m n
  unfolding relates_at
  numbers-alike m n k l mk nl kk lk (R, h, keeps) = (
    relates_at R keeps,
    so-related R keeps (slice_get (all_data_types s) m) (slice_get (all_data_types s) n) k l mk nl h kk lk,
    keeps-at R keeps,
  )
