-- The findings of a list of parameters: of their number, of each, and of all together.
use Rattle.std.proofs.Common.{◌≡◌, ℕ, zero, suc, ◌+◌, Bool, true, false, cond, List, [], ◌∷◌, Option, Some, None, length, drop, slice_get, refl, sym, ◌∙◌, ap, add-one}
use Rattle.std.specs.Prelude.{not, ◌&&◌, ◌||◌, is_some}
use Rattle.step_structures.specs.Trees.{Tree, group}
use Rattle.step_records.specs.Cells.{all_of}
use Rattle.express_syntax.specs.Schemas.{Schema}
use Rattle.conformance.specs.Bases as bases
use Rattle.conformance.specs.Bases.{Domain, base}
use Rattle.conformance.specs.ParameterFits.{Target, count, in_bounds, is_dollar, misfit, misfit_each, needs, first_finding, are_distinct, values_as}
use Rattle.conformance.specs.declared.finding.FindingKind.{FindingKind}
use Rattle.conformance.specs.declared.finding.FindingKind.TheVariants.{OutOfBounds, NotDistinct}
use Rattle.schema_underlying_types.specs.declared.base.Base.{Base}
use Rattle.schema_underlying_types.specs.declared.base.Base.TheVariants as variants
use Rattle.schema_underlying_types.specs.declared.base.Aggregate.{Aggregate}
use Rattle.schema_underlying_types.specs.BaseViews.{base_seen, aggregate_seen, type_at}

pub counted : (xs : List Tree) → count (all_of xs) ≡ length xs
counted [] = refl
counted (x ∷ xs) = ap suc (counted xs)

dropped : {A : Type 0} (xs : List A) (i : ℕ) (x : A) → slice_get xs i ≡ Some x → drop i xs ≡ x ∷ drop (suc i) xs
dropped [] i x e = absurd (cc)
dropped (y ∷ xs) zero x e = let same : y ≡ x = cc in ap (λ z. z ∷ xs) same
dropped (y ∷ xs) (suc i) x e = dropped xs i x e

-- what is left at a place of a list is what stands there, and what is left behind it
pub drop_at : {A : Type 0} (xs : List A) (i : ℕ) (x : A) → slice_get xs i ≡ Some x → drop i xs ≡ x ∷ drop (i + 1) xs
drop_at xs i x e = dropped xs i x e ∙ ap (λ n. x ∷ drop n xs) (sym (add-one i))

or_first : (f g : Option FindingKind) → is_some f ≡ true → f ≡ first_finding f g
or_first None g e = absurd (cc)
or_first (Some k) g e = refl

or_last : (f g : Option FindingKind) → is_some f ≡ false → g ≡ first_finding f g
or_last None g e = refl
or_last (Some k) g e = absurd (cc)

is_none : (f : Option FindingKind) → is_some f ≡ false → f ≡ None
is_none None e = refl
is_none (Some k) e = absurd (cc)

module _ (s : Schema) (d : Domain) (target : ℕ → Target) where
  module _ (o : Bool) (b : bases.Base) (xs : List Tree) (i : ℕ) (x : Tree) (at : slice_get xs i ≡ Some x)
      (f : Option FindingKind) (found : f ≡ cond (o && is_dollar x) None (misfit s d target b x)) where
    each : List Tree → Option FindingKind
    each ys = misfit_each s d target o b (all_of ys)

    at_first : first_finding f (misfit_each s d target o b (all_of (drop (i + 1) xs)))
        ≡ misfit_each s d target o b (all_of (drop i xs))
    at_first =
        ap (λ g. first_finding g (misfit_each s d target o b (all_of (drop (i + 1) xs)))) found
        ∙ ap (λ ys. misfit_each s d target o b (all_of ys)) (sym (drop_at xs i x at))

    -- the element at a place has a finding
    pub this_element : is_some f ≡ true → f ≡ misfit_each s d target o b (all_of (drop i xs))
    this_element e = or_first f (misfit_each s d target o b (all_of (drop (i + 1) xs))) e ∙ at_first

    -- or it has none
    pub later_elements : is_some f ≡ false
        → misfit_each s d target o b (all_of (drop (i + 1) xs)) ≡ misfit_each s d target o b (all_of (drop i xs))
    later_elements e = or_last f (misfit_each s d target o b (all_of (drop (i + 1) xs))) e ∙ at_first

  module _ (b : Base) (a : Aggregate) (is : b ≡ variants.Aggregate a) (xs : List Tree) where
    abbrev of_each : Option FindingKind
    of_each = misfit_each s d target a.is_optional (base d (type_at s a.element)) (all_of xs)

    abbrev of_all : Bool → Option FindingKind
    of_all lax =
        needs (lax || are_distinct (values_as s d (base d (type_at s a.element)) (all_of xs))) NotDistinct

    whole : misfit s d target (base_seen s b) (group (all_of xs))
        ≡ first_finding (needs (in_bounds (aggregate_seen s a) (length xs)) OutOfBounds)
        (first_finding of_each (of_all (not a.is_unique)))
    whole =
        ap (λ z. misfit s d target (base_seen s z) (group (all_of xs))) is
        ∙ ap (λ n. first_finding (needs (in_bounds (aggregate_seen s a) n) OutOfBounds)
        (first_finding of_each (of_all (not a.is_unique))))
        (counted xs)

    pub out_of_bounds : in_bounds (aggregate_seen s a) (length xs) ≡ false
        → Some OutOfBounds ≡ misfit s d target (base_seen s b) (group (all_of xs))
    out_of_bounds e =
        sym (whole ∙ ap (λ t. first_finding (needs t OutOfBounds) (first_finding of_each (of_all (not a.is_unique)))) e)

    module _ (filled : in_bounds (aggregate_seen s a) (length xs) ≡ true) (inside : bases.Base)
        (element : inside ≡ base d (type_at s a.element)) (f : Option FindingKind)
        (found : f ≡ misfit_each s d target a.is_optional inside (all_of xs)) where
      within : first_finding of_each (of_all (not a.is_unique)) ≡ misfit s d target (base_seen s b) (group (all_of xs))
      within = sym (whole ∙ ap (λ t. first_finding (needs t OutOfBounds) (first_finding of_each (of_all (not a.is_unique)))) filled)

      is_each : f ≡ of_each
      is_each = found ∙ ap (λ z. misfit_each s d target a.is_optional z (all_of xs)) element

      pub an_element : is_some f ≡ true → f ≡ misfit s d target (base_seen s b) (group (all_of xs))
      an_element e =
          or_first f (of_all (not a.is_unique)) e ∙ ap (λ g. first_finding g (of_all (not a.is_unique))) is_each ∙ within

      no_element : is_some f ≡ false → of_all (not a.is_unique) ≡ misfit s d target (base_seen s b) (group (all_of xs))
      no_element e =
          or_last f (of_all (not a.is_unique)) e ∙ ap (λ g. first_finding g (of_all (not a.is_unique))) is_each ∙ within

      pub not_unique : is_some f ≡ false → not a.is_unique ≡ true
          → f ≡ misfit s d target (base_seen s b) (group (all_of xs))
      not_unique e u = is_none f e ∙ sym (ap of_all u) ∙ no_element e

      pub by_distinct : is_some f ≡ false → not a.is_unique ≡ false → (t : Bool)
          → t ≡ are_distinct (values_as s d inside (all_of xs))
          → needs t NotDistinct ≡ misfit s d target (base_seen s b) (group (all_of xs))
      by_distinct e u t distinct =
          ap (λ z. needs z NotDistinct) (distinct ∙ ap (λ z. are_distinct (values_as s d z (all_of xs))) element)
          ∙ sym (ap of_all u) ∙ no_element e
