-- What is found of a file, by the tables of its schema.
use Rattle.std.specs.Prelude.{◌≡◌, ℕ, ◌<◌, ◌≤◌, List, [], ◌∷◌, length}
use Rattle.std.proofs.Common.{refl, sym, subst, ◌∙◌, arith}
use Rattle.schema_semantics.specs.Faults.{IsResolved}
use Rattle.schema_names.specs.declared.names.Names.{Names}
use Rattle.schema_names.specs.Schemas.{the_schema}
use Rattle.step_exchange.specs.declared.structure.Exchange.{Exchange}
use Rattle.step_exchange.specs.Exchanges.{structure}
use Rattle.step_values.specs.steps.Building.{Kept}
use Rattle.step_values.specs.steps.Targets.{LeadTo, ReferTo}
use Rattle.population_rows.specs.Index.{found}
use Rattle.schema_underlying_types.specs.declared.lookup.Bases.{Bases}
use Rattle.schema_underlying_types.specs.Tables.{AreBases}
use Rattle.conformance.specs.declared.finding.Finding.{Finding}
use Rattle.conformance.specs.OtherNames.{other_names}
use Rattle.conformance.specs.Bases.{Domain, IsDomain}
use Rattle.conformance.specs.Entities.{Entities, AreEntities}
use Rattle.conformance.specs.Findings.{findings}
use Rattle.conformance.specs.Populations.{population_of}
use Rattle.population_forms.specs.declared.knowledge.Knowledge.{Knowledge}
use Rattle.parameter_fits.specs.steps.References.{AreFound}
use Rattle.population_findings.specs.steps.Rows.{rows_in, AreRowsOf}
use Rattle.population_rows.specs.declared.rows.Rows.{Rows}
use Rattle.typed_populations.specs.PopulationTables.{IsWhole}
use Rattle.typed_populations.specs.Rows.{instances_seen, section_numbers}
use Rattle.population_reader.specs.steps.Making.{AreRowsReady, rows_by}
use Rattle.typed_populations.specs.TypedPopulations.{HasFunctions, IsTyped, IsPopulation, typed_seen}
use Rattle.population_reader.proofs.Judged.{names-found, as-many-forms, rows-are-ready, all-whole, seen-is}

pub empty-so : {A : Type 0} (xs : List A) (n : ℕ) → n ≡ length xs → n ≤ 0 → xs ≡ []
empty-so [] n e le = refl
empty-so (x ∷ xs) n e le = absurd (omega (arith, e, le))

pub full-so : {A : Type 0} (xs : List A) (n : ℕ) → n ≡ length xs → 0 < n → xs ≡ [] → ⊥
full-so [] n e lt is = absurd (omega (arith, e, lt))
full-so (x ∷ xs) n e lt is = absurd (cc)

module _ (n : Names) (k : Knowledge) (b : Bases) (x : Exchange) (t : Rows) (same : k.names.now ≡ n)
    (same-bases : b.names.now ≡ n) (said : (en : Entities) × AreEntities (the_schema k.names.now) en)
    (bases : AreBases b)
    (rows : (en : Entities) → AreEntities (the_schema k.names.now) en
    → AreRowsOf (the_schema k.names.now) en (rows_in x) t) where
  en-is : (en : Entities) × AreEntities (the_schema n) en
  en-is = subst (λ m. (en : Entities) × AreEntities (the_schema m) en) same said

  d-is : (d : Domain) × IsDomain (the_schema n) d
  d-is = subst (λ m. (d : Domain) × IsDomain (the_schema m) d) same-bases bases.1.exists

  pub functions-are : HasFunctions (the_schema n)
  functions-are = (d-is, en-is)

  resolved-is : IsResolved (the_schema n)
  resolved-is = subst (λ m. IsResolved (the_schema m)) same-bases bases.0

  rows-said : (en : Entities) → AreEntities (the_schema n) en → AreRowsOf (the_schema n) en (rows_in x) t
  rows-said =
      subst (λ m. (en : Entities) → AreEntities (the_schema m) en → AreRowsOf (the_schema m) en (rows_in x) t) same rows

  are-rows : AreRowsOf (the_schema n) en-is.0 (rows_in x) t
  are-rows = rows-said en-is.0 en-is.1

  pub index-is : AreFound x.names (found t.index)
  index-is = names-found (the_schema n) d-is.0 en-is.0 x t are-rows

  pub matched-is : length t.form_of.items ≡ length x.names
  matched-is = as-many-forms (the_schema n) d-is.0 en-is.0 x t are-rows

  module _ (fs : List Finding) (told : (d : Domain) → (en : Entities) → IsDomain (the_schema k.names.now) d
      → AreEntities (the_schema k.names.now) en
      → fs ≡ findings (the_schema k.names.now) d en (other_names k.names.now.schema.now) (structure x)) where
    pub told-so : (d : Domain) (en : Entities) → IsDomain (the_schema n) d → AreEntities (the_schema n) en
        → fs ≡ findings (the_schema n) d en (other_names n.schema.now) (structure x)
    told-so =
        subst (λ m. (d : Domain) → (en : Entities) → IsDomain (the_schema m) d → AreEntities (the_schema m) en
        → fs ≡ findings (the_schema m) d en (other_names m.schema.now) (structure x)) same told

    none-so : fs ≡ [] → findings (the_schema n) d-is.0 en-is.0 (other_names n.schema.now) (structure x) ≡ []
    none-so none = sym (told-so d-is.0 en-is.0 d-is.1 en-is.1) ∙ none

    module _ (none : fs ≡ []) where
      pub ready-is : AreRowsReady (the_schema b.names.now) (found t.index) t.forms.items (rows_in x) t.form_of.items
      ready-is =
          subst (λ m. AreRowsReady (the_schema m) (found t.index) t.forms.items (rows_in x) t.form_of.items)
          (sym same-bases)
          (rows-are-ready (the_schema n) d-is.0 en-is.0 x t are-rows (other_names n.schema.now) (none-so none)
          resolved-is en-is.1)

      module _ (now : Kept) (made : (d : Domain) → IsDomain (the_schema b.names.now) d
          → now.rows ≡ rows_by (the_schema b.names.now) d t.forms.items (rows_in x) t.form_of.items)
          (leads : LeadTo x.names now.targets) (refers : ReferTo x.names now.rows) where
        made-so : (d : Domain) → IsDomain (the_schema n) d
            → now.rows ≡ rows_by (the_schema n) d t.forms.items (rows_in x) t.form_of.items
        made-so =
            subst (λ m. (d : Domain) → IsDomain (the_schema m) d
            → now.rows ≡ rows_by (the_schema m) d t.forms.items (rows_in x) t.form_of.items) same-bases made

        whole-is : IsWhole (the_schema n) x.names t now
        whole-is =
            all-whole (the_schema n) d-is.0 en-is.0 x t are-rows (other_names n.schema.now) (none-so none) now (made-so d-is.0 d-is.1) leads refers
            resolved-is

        population-so : (d : Domain) (en : Entities) → IsDomain (the_schema n) d → AreEntities (the_schema n) en
            → instances_seen (the_schema n) t.forms.items x.names (section_numbers 0 0 x.sections.items)
            t.form_of.items now.rows ≡ population_of (the_schema n) d en (structure x)
        population-so d en domain entities =
            seen-is (the_schema n) d en x t (rows-said en entities) (other_names n.schema.now) (sym (told-so d en domain entities) ∙ none) now.rows
            (made-so d domain)

        pub typed-so : IsTyped (the_schema n) (other_names n.schema.now) (structure x) (typed_seen (the_schema n) x t now)
        typed-so = (
          functions-are,
          λ d en domain entities. (sym (told-so d en domain entities) ∙ none, population-so d en domain entities),
        )

        pub population-is : IsPopulation (the_schema n) (other_names n.schema.now) x t now
        population-is = record { whole = whole-is; typed = typed-so }
