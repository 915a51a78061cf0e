-- The inverse attribute of a place, by its number.
use Rattle.std.specs.Prelude.{◌≡◌, ℕ, suc, ◌+◌, ◌≤◌, Bool, true, false, cond, List, [], ◌∷◌, length, map, drop, Option, None, Some, slice_get}
use Rattle.std.proofs.Common.{refl, sym, ap, subst, ◌∙◌, zero, add-one, arith}
use Rattle.std.proofs.Math.Logic.{∥∥₁_elim, ∥∥₁_map}
use Rattle.std.proofs.Math.Nat.{ℕ_set}
use Rattle.std.proofs.Props.{props}
use Rattle.express_syntax.specs.Profile.{Every}
use Rattle.express_syntax.specs.Schemas.{Schema}
use Rattle.schema_names.specs.Numbers.{HasNumber}
use Rattle.schema_underlying_types.specs.BaseViews.{name_at}
use Rattle.schema_semantics.specs.Attributes.{Place, same_place}
use Rattle.conformance.specs.Populations.{Instance}
use Rattle.conformance.specs.Referrers.{inverse_value, inverse_of}
use Rattle.schema_constraints.specs.RuleViews.{inverse_seen, IsNumberedInverse, AreNumbered}
use Rattle.schema_constraints.specs.RuleTables.{AreRuleTables}
use Rattle.schema_constraints.specs.declared.tables.RuleTables.{RuleTables}
use Rattle.schema_constraints.specs.declared.inverses.InverseAttribute.{InverseAttribute}
use Rattle.typed_populations.proofs.Turns.{drop-item}
use Rattle.population_inverses.specs.Extents.{inverse_value_by}
use Rattle.population_inverses.specs.steps.Places.{place_of_inverse, number_from}

abbrev pub at : List InverseAttribute → Option ℕ → Option InverseAttribute
at all None = None
at all (Some n) = slice_get all n

module _ (s : Schema) (p : Place) where
  -- the value found by the place is that of the attribute with its number
  module _ (is : List Instance) (y : ℕ) (all : List InverseAttribute) where
    value-from : (inverses : List InverseAttribute) (k : ℕ)
        → ((j : ℕ) → slice_get all (k + j) ≡ slice_get inverses j)
        → inverse_value_by s (at all (number_from k (map (inverse_seen s) inverses) p)) is y
        ≡ inverse_of (map (inverse_seen s) inverses) is y p
    value-from [] k there = refl
    value-from (i ∷ inverses) k there =
        by (same_place (place_of_inverse (inverse_seen s i)) p)
        (value-from inverses (suc k) (λ j. ap (slice_get all) (omega arith) ∙ there (suc j)))
      where
        rest : Option ℕ
        rest = number_from (suc k) (map (inverse_seen s) inverses) p

        here : slice_get all k ≡ Some i
        here = ap (slice_get all) (omega arith) ∙ there 0

        by : (b : Bool) → inverse_value_by s (at all rest) is y ≡ inverse_of (map (inverse_seen s) inverses) is y p
            → inverse_value_by s (at all (cond b (Some k) rest)) is y
            ≡ cond b (inverse_value is (inverse_seen s i) y) (inverse_of (map (inverse_seen s) inverses) is y p)
        by true more = ap (λ o. inverse_value_by s o is y) here
        by false more = more

    pub value-of : inverse_value_by s (at all (number_from 0 (map (inverse_seen s) all) p)) is y
        ≡ inverse_of (map (inverse_seen s) all) is y p
    value-of = value-from all 0 (λ j. ap (slice_get all) (omega arith))

  -- one attribute more is looked at
  pub number-next : (all : List InverseAttribute) (n : ℕ) (i : InverseAttribute) → slice_get all n ≡ Some i
      → number_from n (map (inverse_seen s) (drop n all)) p
      ≡ cond (same_place (place_of_inverse (inverse_seen s i)) p) (Some n)
      (number_from (n + 1) (map (inverse_seen s) (drop (n + 1) all)) p)
  number-next all n i e =
      ap (λ l. number_from n (map (inverse_seen s) l) p) (drop-item all n i e)
      ∙ ap (λ m. cond (same_place (place_of_inverse (inverse_seen s i)) p) (Some n)
      (number_from m (map (inverse_seen s) (drop (n + 1) all)) p)) (sym (add-one n))

  past : (all : List InverseAttribute) (n : ℕ) → length all ≤ n → drop n all ≡ []
  past [] zero h = refl
  past [] (suc n) h = refl
  past (i ∷ all) zero h = absurd (omega (arith, h))
  past (i ∷ all) (suc n) h = past all n (omega (arith, h))

  -- there is none left
  pub number-past : (all : List InverseAttribute) (n : ℕ) → length all ≤ n
      → None ≡ number_from n (map (inverse_seen s) (drop n all)) p
  number-past all n h = sym (ap (λ l. number_from n (map (inverse_seen s) l) p) (past all n h))

option-set : (a b : Option ℕ) → IsProp (a ≡ b)
option-set a b = hlevel (props, ℕ_set)

-- the entity of an inverse attribute has its number
-- the numbers of rules that are those of a schema
pub numbered-are : (s : Schema) (t : RuleTables) → ∥ AreRuleTables s t ∥₁ → ∥ AreNumbered s t ∥₁
numbered-are s t are = ∥∥₁_map are (λ r. r.numbered)

pub numbered-entity : (s : Schema) (t : RuleTables) → ∥ AreNumbered s t ∥₁ → (n : ℕ) (i : InverseAttribute)
    → slice_get t.inverses.items n ≡ Some i → HasNumber s (name_at s i.entity) i.entity
numbered-entity s t numbered n i e =
    ∥∥₁_elim numbered (option-set _ _) (λ h. (by t.inverses.items n h.inverses e).entity)
  where
    by : (xs : List InverseAttribute) (m : ℕ) → Every (IsNumberedInverse s) xs → slice_get xs m ≡ Some i
        → IsNumberedInverse s i
    by [] m h e = absurd (cc)
    by (x ∷ xs) zero h e = let same : x ≡ i = cc in subst (IsNumberedInverse s) same h.0
    by (x ∷ xs) (suc m) h e = by xs m h.1 e
