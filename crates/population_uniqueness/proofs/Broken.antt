-- The inverse attributes whose bounds an instance breaks are among those that it has, by number.
use Rattle.std.specs.Prelude.{◌≡◌, ℕ, zero, suc, ◌+◌, ◌&&◌, not, Bool, true, false, cond, List, [], ◌∷◌, ◌++◌, map, filter, flat_map, length, Option, None, Some, slice_get}
use Rattle.std.proofs.Common.{refl, sym, ap, ◌∙◌, ◌<◌, arith}
use Rattle.std.proofs.lemmas.List.Concat.{flat_map-cons}
use Rattle.graphs.specs.Graphs.{has}
use Rattle.express_syntax.specs.Schemas.{Schema}
use Rattle.express_syntax.specs.Profile.{Every}
use Rattle.schema_underlying_types.specs.BaseViews.{name_at}
use Rattle.conformance.specs.Populations.{Instance}
use Rattle.step_values.specs.Values.{Values}
use Rattle.population_rows.specs.declared.form.Form.{Form}
use Rattle.population_forms.proofs.Naming.{among-is}
use Rattle.conformance.specs.Rules as rules
use Rattle.conformance.specs.RuleFindings.{Breach, may_hold, breaks, breaches_of_inverse}
use Rattle.conformance.specs.Referrers.{inverse_value}
use Rattle.schema_constraints.specs.declared.inverses.InverseAttribute.{InverseAttribute}
use Rattle.schema_constraints.specs.declared.tables.RuleTables.{RuleTables}
use Rattle.schema_constraints.specs.RuleViews.{inverse_seen, rules_seen, IsNumberedInverse}
use Rattle.typed_populations.specs.Rows.{instance_seen}
use Rattle.typed_populations.specs.PopulationTables.{form_among, AreNumbered}
use Rattle.population_inverses.specs.steps.Inverses.{numbers_by, row_by}
use Rattle.population_uniqueness.specs.steps.Bounds.{keeps, breach_in, breaches_at}

module _ (s : Schema) (is : List Instance) (y section : ℕ) (vs : Values) where
  -- an instance of this form
  abbrev Seen : Option Form → Instance
  Seen o = instance_seen s y section o vs

  abbrev told : rules.InverseAttribute → Breach
  told i = record { instance = y; holder = i.entity; label = i.name }

  -- what is told of the attributes of a list
  abbrev Told : Option Form → List InverseAttribute → List Breach
  Told o inverses = map told (filter (breaks is (Seen o)) (map (inverse_seen s) inverses))

  none-told : (inverses : List InverseAttribute) → Told None inverses ≡ []
  none-told [] = refl
  none-told (i ∷ inverses) = none-told inverses

  module _ (x : Form) (numbers : AreNumbered s x) (all : List InverseAttribute) where
    one : (i : InverseAttribute) → IsNumberedInverse s i → (has-it : Bool) → has x.types.items i.entity ≡ has-it
        → breaks is (Seen (Some x)) (inverse_seen s i)
        ≡ (has-it && not (may_hold (inverse_seen s i).gathering (length (inverse_value is (inverse_seen s i) y))))
    one i numbered b e =
        ap (λ c. c && not (may_hold (inverse_seen s i).gathering (length (inverse_value is (inverse_seen s i) y))))
        (among-is s (name_at s i.entity) i.entity numbered.entity x.types.items numbers ∙ e)

    -- The attributes of a list, which has this place in the list of all.
    told-by : (inverses : List InverseAttribute) (n : ℕ) → ((k : ℕ) → slice_get all (n + k) ≡ slice_get inverses k)
        → Every (IsNumberedInverse s) inverses
        → flat_map (λ k. breach_in s is y (slice_get all k)) (numbers_by inverses n x) ≡ Told (Some x) inverses
    told-by [] n at h = refl
    told-by (i ∷ inverses) n at h =
        by (has x.types.items i.entity) refl
        (told-by inverses (suc n) (λ k. ap (slice_get all) (omega arith) ∙ at (suc k)) h.1)
      where
        at-n : slice_get all n ≡ Some i
        at-n = ap (slice_get all) (omega arith) ∙ at 0

        rest : List ℕ
        rest = numbers_by inverses (suc n) x

        f : ℕ → List Breach
        f k = breach_in s is y (slice_get all k)

        holds : Bool
        holds = keeps s is y i

        shown : (c : Bool) → cond (not c) (told (inverse_seen s i) ∷ []) [] ++ Told (Some x) inverses
            ≡ map told (cond (true && not c) (inverse_seen s i ∷ filter (breaks is (Seen (Some x))) (map (inverse_seen s) inverses))
            (filter (breaks is (Seen (Some x))) (map (inverse_seen s) inverses)))
        shown true = refl
        shown false = refl

        by : (b : Bool) → has x.types.items i.entity ≡ b → flat_map f rest ≡ Told (Some x) inverses
            → flat_map f (cond b (n ∷ rest) rest) ≡ Told (Some x) (i ∷ inverses)
        by true e more =
            flat_map-cons f n rest
            ∙ ap (λ o. breach_in s is y o ++ flat_map f rest) at-n
            ∙ ap (λ l. breach_in s is y (Some i) ++ l) more
            ∙ shown holds
            ∙ ap (λ c. map told (cond c (inverse_seen s i ∷ filter (breaks is (Seen (Some x))) (map (inverse_seen s) inverses))
            (filter (breaks is (Seen (Some x))) (map (inverse_seen s) inverses)))) (sym (one i h.0 true e))
        by false e more =
            more
            ∙ ap (λ c. map told (cond c (inverse_seen s i ∷ filter (breaks is (Seen (Some x))) (map (inverse_seen s) inverses))
            (filter (breaks is (Seen (Some x))) (map (inverse_seen s) inverses)))) (sym (one i h.0 false e))

  -- what is told by the number of a form
  pub told-of : (inverses : List InverseAttribute) → Every (IsNumberedInverse s) inverses → (forms : List Form)
      (n : Option ℕ) → Every (AreNumbered s) forms
      → breaches_at s is y inverses (row_by (map (numbers_by inverses 0) forms) n) ≡ Told (form_among forms n) inverses
  told-of inverses each forms None h = sym (none-told inverses)
  told-of inverses each [] (Some n) h = sym (none-told inverses)
  told-of inverses each (x ∷ forms) (Some zero) h =
      told-by x h.0 inverses inverses 0 (λ k. ap (slice_get inverses) (omega arith)) each
  told-of inverses each (x ∷ forms) (Some (suc n)) h = told-of inverses each forms (Some n) h.1

  pub breaches-are : (t : RuleTables) (o : Option Form)
      → breaches_of_inverse (rules_seen s t) is (Seen o) ≡ Told o t.inverses.items
  breaches-are t None = refl
  breaches-are t (Some x) = refl

-- the numbers are within the list
pub numbers-within : (inverses : List InverseAttribute) (n m : ℕ) (x : Form) → n + length inverses ≡ m
    → Every (λ k. k < m) (numbers_by inverses n x)
numbers-within [] n m x e = tt
numbers-within (i ∷ inverses) n m x e =
    by (has x.types.items i.entity) (numbers-within inverses (suc n) m x (omega (arith, e)))
  where
    by : (b : Bool) → Every (λ k. k < m) (numbers_by inverses (suc n) x)
        → Every (λ k. k < m) (cond b (n ∷ numbers_by inverses (suc n) x) (numbers_by inverses (suc n) x))
    by true h = (omega (arith, e), h)
    by false h = h

pub row-within : (inverses : List InverseAttribute) (forms : List Form) (n : Option ℕ)
    → Every (λ k. k < length inverses) (row_by (map (numbers_by inverses 0) forms) n)
row-within inverses forms None = tt
row-within inverses [] (Some n) = tt
row-within inverses (x ∷ forms) (Some zero) = numbers-within inverses 0 (length inverses) x (omega arith)
row-within inverses (x ∷ forms) (Some (suc n)) = row-within inverses forms (Some n)
