-- Names by their numbers.
use Rattle.std.specs.Prelude.{◌≡◌, ℕ, Bool, true, false, ◌||◌, List, [], ◌∷◌, map, Some, eqb, bytes_eq}
use Rattle.std.proofs.Common.{refl, ap, sym, subst, ◌∙◌, arith}
use Rattle.std.proofs.lemmas.Bool.Decides.{nat_tests}
use Rattle.std.proofs.lemmas.Slice.Eq.{bytes_eq-Decides}
use Rattle.graphs.specs.Graphs.{has}
use Rattle.express_syntax.specs.Schemas.{Schema, Entity, entity}
use Rattle.express_syntax.specs.Profile.{Every}
use Rattle.schema_semantics.specs.Names.{Name, IsEntityAt}
use Rattle.schema_semantics.specs.Faults.{IsResolved}
use Rattle.schema_names.specs.Numbers.{HasNumber, IsAt}
use Rattle.schema_names.proofs.Numbers.{what-stands, stands-at, one-name}
use Rattle.schema_explicit_attributes.proofs.OwnNumbers.{own-number-of}
use Rattle.schema_underlying_types.specs.BaseViews.{or_empty, name_in, name_at}
use Rattle.conformance.specs.ParameterFits.{is_listed}

-- two tests that hold of each other are one
pub same-test : (a b : Bool) → (a ≡ true → b ≡ true) → (b ≡ true → a ≡ true) → a ≡ b
same-test true b f g = sym (f refl)
same-test false true f g = g refl
same-test false false f g = refl

pub same-number : (i j : ℕ) → eqb i j ≡ true → i ≡ j
same-number i j e = grind (arith, nat_tests)

pub equals-itself : (i : ℕ) → eqb i i ≡ true
equals-itself i = grind (arith, nat_tests)

some-is : (i j : ℕ) → Some i ≡ Some j → i ≡ j
some-is i j e = cc

module _ (s : Schema) where
  -- the name of what has a number
  pub name-at : (n : Name) (i : ℕ) → HasNumber s n i → name_at s i ≡ n
  name-at n i h = let (d, at, named) = what-stands s n i h in ap name_in at ∙ ap or_empty named

  pub has-own-name : (n : Name) (i : ℕ) → HasNumber s n i → HasNumber s (name_at s i) i
  has-own-name n i h = subst (λ m. HasNumber s m i) (sym (name-at n i h)) h

  -- a name has one number
  pub one-number-of : (n : Name) (i j : ℕ) → HasNumber s n i → HasNumber s n j → i ≡ j
  one-number-of n i j h k = some-is i j (sym h ∙ k)

  pub entity-at : (n : Name) (i : ℕ) (e : Entity) → IsEntityAt s n e → HasNumber s n i → IsAt s i (entity e)
  entity-at n i e at h = sym (stands-at s n i h) ∙ at

  -- where no name is declared twice, a number is that of the name of its entity
  pub own-number : IsResolved s → (i : ℕ) (e : Entity) → IsAt s i (entity e) → HasNumber s e.name i
  own-number r i e at = own-number-of s i (entity e) e.name r.once at refl

  pub same-name : (m n : Name) (i j : ℕ) → HasNumber s m i → HasNumber s n j → bytes_eq m n ≡ eqb i j
  same-name m n i j h k = same-test (bytes_eq m n) (eqb i j) forth back
    where
      forth : bytes_eq m n ≡ true → eqb i j ≡ true
      forth e =
          let same : m ≡ n = (bytes_eq-Decides m n).0 e in
          let is : i ≡ j = one-number-of n i j (subst (λ x. HasNumber s x i) same h) k in
          subst (λ x. eqb i x ≡ true) is (equals-itself i)

      back : eqb i j ≡ true → bytes_eq m n ≡ true
      back e =
          let is : i ≡ j = same-number i j e in
          (bytes_eq-Decides m n).1 (one-name s m n j (subst (HasNumber s m) is h) k)

  -- the numbers of a row are those of their names
  abbrev pub AreNumbered : List ℕ → Type 0
  AreNumbered row = Every (λ i. HasNumber s (name_at s i) i) row

  -- whether a name is among those of a row is told by its number
  pub among-is : (n : Name) (i : ℕ) → HasNumber s n i → (row : List ℕ) → AreNumbered row
      → is_listed n (map (name_at s) row) ≡ has row i
  among-is n i h [] each = refl
  among-is n i h (j ∷ row) each =
      ap (λ b. b || is_listed n (map (name_at s) row)) (same-name n (name_at s j) i j h each.0)
      ∙ ap (λ b. eqb i j || b) (among-is n i h row each.1)
