-- The population of a file without findings conforms.
use Rattle.std.specs.Prelude.{◌≡◌, ℕ, suc, Bool, true, false, cond, List, [], ◌∷◌, ◌++◌, map, flat_map}
use Rattle.std.specs.List.{filter}
use Rattle.std.proofs.Common.{refl, ◌∙◌, ap, inl, inr}
use Rattle.step_structures.specs.Trees.{ExchangeRow, Section, File, rows_of, Form, internal, external}
use Rattle.express_syntax.specs.Schemas.{Schema, DataType}
use Rattle.express_syntax.specs.Profile.{Every}
use Rattle.schema_semantics.specs.Names.{Name, Among}
use Rattle.schema_semantics.specs.Attributes.{Place}
use Rattle.conformance.specs.declared.finding.FindingKind.TheVariants.{UnknownEntity}
use Rattle.conformance.specs.Bases.{Domain, base}
use Rattle.conformance.specs.ParameterFits.{Target, entity_names, is_listed}
use Rattle.conformance.specs.Entities.{Entities, named_entity, types_of, unknown_entities, data_types}
use Rattle.conformance.specs.Findings.{target_in, row_findings, findings}
use Rattle.conformance.specs.Populations.{Instance, instance_of, instances_from, population_of}
use Rattle.conformance.specs.Conforming.{Conforms, typing_of, PopulationConforms}
use Rattle.conformance.specs.PopulationLaws.{AreOf}
use Rattle.conformance.proofs.ValueForms.{IsLike}
use Rattle.conformance.proofs.Declared.{all_like}
use Rattle.conformance.proofs.Instances.{front_empty, rest_empty, next_first, none_whole, row_conforms}
use Rattle.conformance.proofs.Targets.{IsKnown, never, tells}

among_filter : {A : Type 0} (test : A → Bool) (x : A) (xs : List A) → Among x (filter test xs) → Among x xs
among_filter test x [] h = h
among_filter test x (y ∷ ys) h = by (test y) h (among_filter test x ys)
  where
    by : (b : Bool) → Among x (cond b (y ∷ filter test ys) (filter test ys)) → (Among x (filter test ys) → Among x ys)
        → Among x (y ∷ ys)
    by true (inl e) more = inl e
    by true (inr m) more = inr (more m)
    by false m more = inr (more m)

known_types : (s : Schema) (en : Entities) (f : Form) (n : Name) → Among n (types_of s en f) → Among n (entity_names s)
known_types s en (internal r) n m = among_filter (en.is_kind_of (named_entity r)) n (entity_names s) m
known_types s en (external rs) n m = among_filter (λ e. is_listed e (map named_entity rs)) n (entity_names s) m

pub types_alike : (s : Schema) (d : Domain) (en : Entities) → AreOf s d en → (f : Form) (p : Place) (k l : DataType)
    → Among k (data_types s en (types_of s en f) p) → Among l (data_types s en (types_of s en f) p)
    → IsLike s d (base d k) (base d l)
types_alike s d en are f (p, a) k l h g =
    all_like s are.resolved d are.domain en are.entities (types_of s en f) (known_types s en f) p a k l h g

pub each_in_front : {A : Type 0} (P : A → Type 0) (xs ys : List A) → Every P (xs ++ ys) → Every P xs
each_in_front P [] ys h = tt
each_in_front P (x ∷ xs) ys h = (h.0, each_in_front P xs ys h.1)

pub each_behind : {A : Type 0} (P : A → Type 0) (xs ys : List A) → Every P (xs ++ ys) → Every P ys
each_behind P [] ys h = h
each_behind P (x ∷ xs) ys h = each_behind P xs ys h.1

pub each_joined : {A : Type 0} (P : A → Type 0) (xs ys : List A) → Every P xs → Every P ys → Every P (xs ++ ys)
each_joined P [] ys h g = g
each_joined P (x ∷ xs) ys h g = (h.0, each_joined P xs ys h.1 g)

pub empty_each : {A B : Type 0} (f : A → List B) (xs : List A) → flat_map f xs ≡ [] → Every (λ x. f x ≡ []) xs
empty_each f [] e = tt
empty_each f (x ∷ xs) e = (front_empty (f x) (flat_map f xs) e, empty_each f xs (rest_empty (f x) (flat_map f xs) e))

pub each_empty : {A B : Type 0} (f : A → List B) (xs : List A) → Every (λ x. f x ≡ []) xs → flat_map f xs ≡ []
each_empty f [] h = refl
each_empty f (x ∷ xs) h = ap (λ ys. ys ++ flat_map f xs) h.0 ∙ each_empty f xs h.1

pub every_other : {A : Type 0} (P Q : A → Type 0) → ((x : A) → P x → Q x) → (xs : List A) → Every P xs → Every Q xs
every_other P Q f [] h = tt
every_other P Q f (x ∷ xs) h = (f x h.0, every_other P Q f xs h.1)

module _ (s : Schema) (d : Domain) (en : Entities) where
  module _ (P : ExchangeRow → Type 0) (Q : Instance → Type 0)
      (forth : (k : ℕ) (r : ExchangeRow) → P r → Q (instance_of s d en k r)) where
    of_rows : (k : ℕ) (rows : List ExchangeRow) → Every P rows → Every Q (map (instance_of s d en k) rows)
    of_rows k [] h = tt
    of_rows k (r ∷ rows) h = (forth k r h.0, of_rows k rows h.1)

    -- what holds of the rows holds of their instances
    of_sections : (k : ℕ) (xs : List Section) → Every P (rows_of xs) → Every Q (instances_from s d en k xs)
    of_sections k [] h = tt
    of_sections k (x ∷ xs) h =
        each_joined Q (map (instance_of s d en k) x.rows) (instances_from s d en (suc k) xs)
        (of_rows k x.rows (each_in_front P x.rows (rows_of xs) h))
        (of_sections (suc k) xs (each_behind P x.rows (rows_of xs) h))

  module _ (are : AreOf s d en) (f : File) where
    target : ℕ → Target
    target = target_in s d en (rows_of f.sections)

    rows_conform : Every (λ r. row_findings s d en target r ≡ []) (rows_of f.sections)
        → PopulationConforms s d en (population_of s d en f)
    unfolding target
    rows_conform each =
        let known = every_other (λ r. row_findings s d en target r ≡ []) (IsKnown s d en)
        (λ r h. none_whole r.name UnknownEntity (unknown_entities s en r.form) (next_first _ _ h))
        (rows_of f.sections) each in
        of_sections (λ r. row_findings s d en target r ≡ []) (Conforms s d (typing_of (population_of s d en f)) en)
        (λ k r h. row_conforms s d en target (typing_of (population_of s d en f))
        (λ y types m. (tells s d en f known y types).0 m) (never s d en f known)
        are.resolved are.entities k r (types_alike s d en are r.form) h)
        0 f.sections each

    pub population_conforms : (others : List Name) → findings s d en others f ≡ []
        → PopulationConforms s d en (population_of s d en f)
    unfolding target
    population_conforms others e =
        rows_conform (empty_each (row_findings s d en target) (rows_of f.sections) (rest_empty _ _ e))
