-- Rows of data types, by the declarations that they are of.
use Rattle.std.specs.Prelude.{◌≡◌, ℕ, ◌+◌, ◌<◌, List, [], ◌∷◌, ◌++◌, Option, Some, map, length, slice_get, get_or}
use Rattle.std.proofs.Common.{refl, inl, inr, ap, sym, subst, ◌∙◌, arith, zero, suc}
use Rattle.graphs.specs.Graphs.{Graph, next}
use Rattle.express_syntax.specs.declared.tree.Declaration.{Declaration as Declared}
use Rattle.express_syntax.specs.declared.tree.Declaration.TheVariants as declared
use Rattle.express_syntax.specs.declared.tree.Entity.{Entity as DeclaredEntity}
use Rattle.express_syntax.specs.Schemas.{Schema, Declaration, entity, Entity, Explicit, Derived, DataType}
use Rattle.express_syntax.specs.Views.{declaration_of}
use Rattle.express_syntax.specs.Profile.{Every}
use Rattle.schema_semantics.specs.Names.{Name, Among, listed}
use Rattle.schema_semantics.specs.Faults.{IsResolved}
use Rattle.schema_names.specs.Numbers.{IsAt, AreAt, AreNumberRowsOf}
use Rattle.schema_names.proofs.Items.{front-at, back-at, row-at}
use Rattle.schema_data_types.specs.NumberedTypes.{whole_types, all_data_types, explicit_types, derived_types, inverse_types, attribute_types}
use Rattle.schema_data_types.specs.ShapeTables.{IsKnown}
use Rattle.schema_data_types.specs.Laws.{DataTypesAreKnown}
use Rattle.schema_attributes.specs.declared.declaration.AttributeDeclaration.{AttributeDeclaration}
use Rattle.schema_attributes.specs.Derivations.{derivations_from}
use Rattle.schema_attributes.specs.steps.Gathering.{AreKnownFrom, SaysDeclaration}

-- the number of an item of a row
pub number-at : {A : Type 0} (all : List A) (row : List ℕ) (xs : List A) (n : ℕ) (x : A) → AreAt all row xs
    → slice_get xs n ≡ Some x → (t : ℕ) × (slice_get row n ≡ Some t) × (slice_get all t ≡ Some x)
number-at all row [] n x h at = absurd (cc)
number-at all [] (y ∷ xs) n x h at = absurd (cc)
number-at all (t ∷ row) (y ∷ xs) zero x h at = (t, refl, front-at all t row y xs h ∙ at)
number-at all (t ∷ row) (y ∷ xs) (suc n) x h at = number-at all row xs n x (back-at all t row y xs h) at

-- in joined lists
pub in-first : {A : Type 0} (xs ys : List A) (n : ℕ) (x : A) → slice_get xs n ≡ Some x → slice_get (xs ++ ys) n ≡ Some x
in-first [] ys n x h = absurd (cc)
in-first (y ∷ xs) ys zero x h = h
in-first (y ∷ xs) ys (suc n) x h = in-first xs ys n x h

pub in-second : {A : Type 0} (xs ys : List A) (n : ℕ) → slice_get (xs ++ ys) (length xs + n) ≡ slice_get ys n
in-second [] ys n = ap (slice_get ys) none
  where
    none : 0 + n ≡ n
    none = omega arith
in-second (x ∷ xs) ys n = ap (slice_get (x ∷ (xs ++ ys))) next ∙ in-second xs ys n
  where
    next : suc (length xs) + n ≡ suc (length xs + n)
    next = omega arith

pub at-map : {A B : Type 0} (f : A → B) (xs : List A) (n : ℕ) (x : A) → slice_get xs n ≡ Some x
    → slice_get (map f xs) n ≡ Some (f x)
at-map f [] n x h = absurd (cc)
at-map f (y ∷ xs) zero x h = let same : y ≡ x = cc in ap (λ z. Some (f z)) same
at-map f (y ∷ xs) (suc n) x h = at-map f xs n x h

pub at-within : {A : Type 0} (xs : List A) (n : ℕ) → n < length xs → (x : A) × (slice_get xs n ≡ Some x)
at-within [] n lt = absurd (omega (arith, lt))
at-within (x ∷ xs) zero lt = (x, refl)
at-within (x ∷ xs) (suc n) lt = at-within xs n (omega (arith, lt))

pub at-among : {A : Type 0} (xs : List A) (n : ℕ) (x : A) → slice_get xs n ≡ Some x → Among x xs
at-among [] n x h = absurd (cc)
at-among (y ∷ xs) zero x h = inl (cc)
at-among (y ∷ xs) (suc n) x h = inr (at-among xs n x h)

pub among-at : {A : Type 0} (xs : List A) (x : A) → Among x xs → (n : ℕ) × (slice_get xs n ≡ Some x)
among-at [] x h = elim h [ ]
among-at (y ∷ xs) x (inl e) = (0, ap Some e)
among-at (y ∷ xs) x (inr h) = let (n, at) = among-at xs x h in (suc n, at)

every-of-it : {A : Type 0} (P : A → Type 0) (xs : List A) (n : ℕ) (x : A) → Every P xs → slice_get xs n ≡ Some x → P x
every-of-it P [] n x h at = absurd (cc)
every-of-it P (y ∷ xs) zero x h at = let same : y ≡ x = cc in subst P same h.0
every-of-it P (y ∷ xs) (suc n) x h at = every-of-it P xs n x h.1 at

pub derivations-many : (e : Name) (n : ℕ) (ds : List Derived) → length (derivations_from e n ds) ≡ length ds
derivations-many e n [] = refl
derivations-many e n (d ∷ ds) = ap (λ m. suc m) (derivations-many e (n + 1) ds)

module _ (s : Schema) where
  -- the row of an entity
  pub row-of : (rows : Graph) → AreNumberRowsOf whole_types (all_data_types s) s.declarations rows → (i : ℕ) (e : Entity)
      → IsAt s i (entity e) → AreAt (all_data_types s) (next rows i) (attribute_types e)
  row-of rows h i e at = row-at whole_types (all_data_types s) s.declarations rows i (entity e) h at

  first-of : (e : Entity) (n : ℕ) (k : DataType) → slice_get (explicit_types e.explicits) n ≡ Some k
      → slice_get (attribute_types e) n ≡ Some k
  first-of e n k h =
      in-first (explicit_types e.explicits ++ derived_types (listed e.derived)) (inverse_types (listed e.inverses)) n k
      (in-first (explicit_types e.explicits) (derived_types (listed e.derived)) n k h)

  -- its first data types are known
  pub known-from : DataTypesAreKnown → IsResolved s → (rows : Graph) → AreNumberRowsOf whole_types (all_data_types s) s.declarations rows
      → (i : ℕ) (e : Entity) → IsAt s i (entity e) → AreKnownFrom s (length e.explicits) (next rows i)
  known-from law r rows h i e at n t lt here =
      let (x, there) = at-within e.explicits n lt in
      let k = x.data_type in
      let as-type = at-map (λ (y : Explicit). y.data_type) e.explicits n x there in
      let known = every-of-it (IsKnown s) (explicit_types e.explicits) n k
      (((law s r).1 e (at-among s.declarations i (entity e) at)).0) as-type in
      let (u, is, standing) = number-at (all_data_types s) (next rows i) (attribute_types e) n k (row-of rows h i e at)
      (first-of e n k as-type) in
      let same : u ≡ t = let q = sym is ∙ here in cc in
      (k, subst (λ j. slice_get (all_data_types s) j ≡ Some k) same standing, known)

  -- only entities say something
  pub only-entities : (i : ℕ) (row : List ℕ) (count : ℕ) (d : Declared)
      → ((e : DeclaredEntity) → d ≡ declared.Entity e → ⊥) → (a : Name) (x : AttributeDeclaration)
      → SaysDeclaration s i row count (declaration_of d) a x → ⊥
  only-entities i row count (declared.Type t) not a x h = h
  only-entities i row count (declared.Entity e) not a x h = not e refl
  only-entities i row count (declared.Skipped p) not a x h = h
