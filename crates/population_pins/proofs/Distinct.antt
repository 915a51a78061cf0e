-- No two instances of a population have one name.
use Rattle.std.specs.Prelude.{◌≡◌, ℕ, ◌==◌, ◌||◌, List, [], ◌∷◌, ◌++◌, length, Option, None, Some}
use Rattle.std.specs.List.{IsDistinct}
use Rattle.std.proofs.Common.{refl, sym, ap, subst, ◌∙◌, arith}
use Rattle.express_syntax.specs.Schemas.{Schema}
use Rattle.step_values.specs.Values.{Values}
use Rattle.population_rows.specs.declared.form.Form.{Form}
use Rattle.step_exchange.proofs.Named.{distinct}
use Rattle.conformance.specs.RuleLaws.{names}
use Rattle.typed_populations.specs.Rows.{instance_seen, instances_seen, section_numbers}
use Rattle.typed_populations.specs.PopulationViews.{population_seen}
use Rattle.typed_populations.specs.PopulationTables.{form_among}
use Rattle.typed_populations.specs.declared.population.Population.{Population}
use Rattle.typed_populations.proofs.Found.{kept, schema_seen}

module _ (s : Schema) (forms : List Form) where
  name-seen : (y k : ℕ) (o : Option Form) (vs : Values) → (instance_seen s y k o vs).name ≡ y
  name-seen y k None vs = refl
  name-seen y k (Some x) vs = refl

  names-seen : (ns ks : List ℕ) (fs : List (Option ℕ)) (vss : List Values) → length ks ≡ length ns
      → length fs ≡ length ns → length vss ≡ length ns → names (instances_seen s forms ns ks fs vss) ≡ ns
  names-seen [] ks fs vss a b c = refl
  names-seen (n ∷ ns) [] fs vss a b c = absurd (omega (arith, a))
  names-seen (n ∷ ns) (k ∷ ks) [] vss a b c = absurd (omega (arith, b))
  names-seen (n ∷ ns) (k ∷ ks) (f ∷ fs) [] a b c = absurd (omega (arith, c))
  names-seen (n ∷ ns) (k ∷ ks) (f ∷ fs) (vs ∷ vss) a b c =
      ap (λ m. m ∷ names (instances_seen s forms ns ks fs vss)) (name-seen n k (form_among forms f) vs)
      ∙ ap (λ l. n ∷ l) (names-seen ns ks fs vss (omega (arith, a)) (omega (arith, b)) (omega (arith, c)))

module _ (p : Population) where
  population-names : names (population_seen p) ≡ p.exchange.now.names
  population-names =
      names-seen (schema_seen p) p.rows.forms.items p.exchange.now.names
      (section_numbers 0 0 p.exchange.now.sections.items) p.rows.form_of.items p.values.rows (kept p).sections
      (kept p).forms (kept p).values

  pub names-distinct : IsDistinct (◌==◌) (names (population_seen p))
  names-distinct = subst (IsDistinct (◌==◌)) (sym population-names) (distinct p.exchange.now)
