-- Where no keyword of a file is unknown, its names lead to instances of the types that they have in its population.
use Rattle.std.specs.Prelude.{◌≡◌, ℕ, suc, ◌==◌, ◌&&◌, not, Bool, true, false, cond, List, [], ◌∷◌, ◌++◌, length, map, Option, Some, None}
use Rattle.std.specs.List.{filter, list_all}
use Rattle.std.specs.Option.{option_map}
use Rattle.std.proofs.Common.{refl, sym, ◌∙◌, ap}
use Rattle.step_structures.specs.Trees.{Record, ExchangeRow, Section, File, rows_of}
use Rattle.express_syntax.specs.Schemas.{Schema}
use Rattle.express_syntax.specs.Profile.{Every}
use Rattle.schema_semantics.specs.Names.{Name}
use Rattle.conformance.specs.Bases.{Domain}
use Rattle.conformance.specs.ParameterFits.{Target, absent, unknown, of_types, is_entity}
use Rattle.conformance.specs.Entities.{Entities, named_entity, records, types_of, unknown_entities}
use Rattle.conformance.specs.Findings.{target_form, target_in}
use Rattle.conformance.specs.Populations.{Instance, instance_of, instances_from, population_of, instance_at}
use Rattle.conformance.specs.Conforming.{typing_of}
use Rattle.conformance.specs.ValueLaws.{TargetsHaveTypes}

pub none_fails : {A : Type 0} (test : A → Bool) (xs : List A) → length (filter (λ x. not (test x)) xs) ≡ 0
    → list_all test xs ≡ true
none_fails test [] e = refl
none_fails test (x ∷ xs) e = by (test x) refl e (none_fails test xs)
  where
    by : (b : Bool) → test x ≡ b
        → length (cond (not b) (x ∷ filter (λ y. not (test y)) xs) (filter (λ y. not (test y)) xs)) ≡ 0
        → (length (filter (λ y. not (test y)) xs) ≡ 0 → list_all test xs ≡ true) → (b && list_all test xs) ≡ true
    by true h e more = more e
    by false h e more = absurd (cc)

-- what leads to these types, if to any
abbrev target_of : Option (List Name) → Target
target_of None = absent
target_of (Some types) = of_types types

never_unknown : (o : Option (List Name)) → target_of o ≡ unknown → ⊥
never_unknown None e = cc
never_unknown (Some types) e = cc

module _ (s : Schema) (d : Domain) (en : Entities) where
  -- the types of the first instance of a name
  abbrev looked_up : List ExchangeRow → ℕ → Option (List Name)
  looked_up [] y = None
  looked_up (r ∷ rows) y = cond (r.name == y) (Some (types_of s en r.form)) (looked_up rows y)

  abbrev pub IsKnown : ExchangeRow → Type 0
  IsKnown r = unknown_entities s en r.form ≡ 0

  leads : (rows : List ExchangeRow) → Every IsKnown rows → (y : ℕ) → target_in s d en rows y ≡ target_of (looked_up rows y)
  leads [] known y = refl
  leads (r ∷ rows) known y = by (r.name == y) (leads rows known.1 y)
    where
      all : list_all (λ (x : Record). is_entity s (named_entity x)) (records r.form) ≡ true
      all = none_fails (λ (x : Record). is_entity s (named_entity x)) (records r.form) known.0

      by : (b : Bool) → target_in s d en rows y ≡ target_of (looked_up rows y)
          → cond b (target_form s d en r.form) (target_in s d en rows y)
          ≡ target_of (cond b (Some (types_of s en r.form)) (looked_up rows y))
      by true more = ap (λ t. cond t (of_types (types_of s en r.form)) unknown) all
      by false more = more

  has_types : (k : ℕ) (rows rest : List ExchangeRow) (is : List Instance) (y : ℕ) → typing_of is y ≡ looked_up rest y
      → typing_of (map (instance_of s d en k) rows ++ is) y ≡ looked_up (rows ++ rest) y
  has_types k [] rest is y e = e
  has_types k (r ∷ rows) rest is y e = by (r.name == y) (has_types k rows rest is y e)
    where
      by : (b : Bool) → typing_of (map (instance_of s d en k) rows ++ is) y ≡ looked_up (rows ++ rest) y
          → option_map (λ (i : Instance). i.types) (cond b (Some (instance_of s d en k r))
          (instance_at (map (instance_of s d en k) rows ++ is) y))
          ≡ cond b (Some (types_of s en r.form)) (looked_up (rows ++ rest) y)
      by true more = refl
      by false more = more

  have_types : (k : ℕ) (xs : List Section) (y : ℕ) → typing_of (instances_from s d en k xs) y ≡ looked_up (rows_of xs) y
  have_types k [] y = refl
  have_types k (x ∷ xs) y =
      has_types k x.rows (rows_of xs) (instances_from s d en (suc k) xs) y (have_types (suc k) xs y)

  module _ (f : File) (known : Every IsKnown (rows_of f.sections)) where
    pub never : (y : ℕ) → target_in s d en (rows_of f.sections) y ≡ unknown → ⊥
    never y e =
        never_unknown (looked_up (rows_of f.sections) y) (sym (leads (rows_of f.sections) known y) ∙ e)

    pub tells : TargetsHaveTypes (target_in s d en (rows_of f.sections)) (typing_of (population_of s d en f))
    tells y types = (
      (λ e. have_types 0 f.sections y ∙ there (looked_up rows y) (sym (leads rows known y) ∙ e)),
      (λ e. leads rows known y ∙ ap target_of (sym (have_types 0 f.sections y) ∙ e)),
    )
      where
        rows : List ExchangeRow
        rows = rows_of f.sections

        there : (o : Option (List Name)) → target_of o ≡ of_types types → o ≡ Some types
        there None e = absurd (cc)
        there (Some ts) e = cc
