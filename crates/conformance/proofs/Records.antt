-- There are no findings of a file whose population conforms, where its records are spelt as their entities ask.
use Rattle.std.specs.Prelude.{◌≡◌, ℕ, suc, ◌&&◌, Bool, true, false, cond, List, [], ◌∷◌, ◌++◌, map, flat_map, Option, Some, None}
use Rattle.std.proofs.Common.{refl, ◌∙◌, ap, subst, inl, inr}
use Rattle.std.proofs.lemmas.Bool.{and_from}
use Rattle.step_structures.specs.Trees as trees
use Rattle.step_structures.specs.Trees.{Tree, Trees, ExchangeRow, Section, File, rows_of}
use Rattle.step_values.specs.Leaves as leaves
use Rattle.step_values.specs.Values.{leaf}
use Rattle.express_syntax.specs.Schemas.{Schema, DataType}
use Rattle.express_syntax.specs.Profile.{Every}
use Rattle.schema_semantics.specs.Names.{Name, Among}
use Rattle.schema_semantics.specs.Attributes.{Place}
use Rattle.conformance.specs.declared.finding.FindingKind.{FindingKind}
use Rattle.conformance.specs.declared.finding.FindingKind.TheVariants.{UnknownEntity, AbstractInstance, MissingSupertype, OneOfBroken, ParameterCount, MisplacedStar, SchemaName}
use Rattle.conformance.specs.declared.finding.Spot.TheVariants.{Nothing}
use Rattle.conformance.specs.declared.finding.Finding.{Finding}
use Rattle.conformance.specs.Bases.{Domain, base}
use Rattle.conformance.specs.ParameterFits.{Target, of_types, is_dollar, is_star_or_dollar, value_as}
use Rattle.conformance.specs.Entities.{Entities, records, parameters, types_of, places_of, unknown_entities, abstract_leaves, missing_supertypes, broken_one_ofs, wrong_counts, is_derived, is_optional, data_types}
use Rattle.conformance.specs.Findings.{whole_findings, or_next, at_place, misfit_of, misfits_from, row_findings, target_in, is_of_schema, findings}
use Rattle.conformance.specs.Populations.{Instance, first_base, slots_of, instance_of, instances_from, population_of}
use Rattle.conformance.specs.Fits.{Typing, Fits}
use Rattle.conformance.specs.ValueSpellings.{IsSpelt}
use Rattle.conformance.specs.RecordSpellings.{GivenSpelt, AreSpelt, IsRowSpelt}
use Rattle.conformance.specs.Conforming.{FitsAll, ValueFits, SlotFits, Conforms, typing_of, PopulationConforms}
use Rattle.conformance.specs.PopulationLaws.{AreOf}
use Rattle.conformance.proofs.Returning.{both_none, unset_dollar, fits_back}
use Rattle.conformance.proofs.ValueForms.{IsLike, HasForm, form_fits, one_value}
use Rattle.conformance.proofs.Targets.{IsKnown, tells}
use Rattle.conformance.proofs.Populations.{types_alike, each_in_front, each_behind, each_joined, each_empty, every_other}

module _ (s : Schema) (d : Domain) (en : Entities) (target : ℕ → Target) (typing : Typing)
    (told : (y : ℕ) (types : List Name) → typing y ≡ Some types → target y ≡ of_types types) where
  none_misfits : (j : DataType) (x : Tree) (ks : List DataType)
      → ((k : DataType) → Among k ks → IsLike s d (base d j) (base d k)) → HasForm s d (base d j) x
      → Every (λ (k : DataType). IsSpelt s d (base d k) x) ks → FitsAll s d typing ks (value_as s d (base d j) x)
      → misfit_of s d en target ks x ≡ None
  none_misfits j x [] like form h f = refl
  none_misfits j x (k ∷ ks) like form h f =
      let same = one_value s d (base d j) (base d k) x (like k (inl refl)) form
      (form_fits s d typing (base d j) (base d k) x f.0) in
      both_none _ _
      (fits_back s d target typing told (base d k) x h.0 (subst (Fits s d typing (base d k)) same f.0))
      (none_misfits j x ks (λ l m. like l (inr m)) form h.1 f.1)

  either : (b : Bool) (o : Option FindingKind) → o ≡ None → cond b None o ≡ None
  either true o e = refl
  either false o e = e

  given_back : (ks : List DataType) → ((k l : DataType) → Among k ks → Among l ks → IsLike s d (base d k) (base d l))
      → (derived optional : Bool) (x : Tree) → GivenSpelt s d derived ks x
      → ValueFits s d typing derived optional ks
      (cond derived (leaf leaves.derived) (value_as s d (first_base s d en ks) x))
      → cond derived (cond (is_star_or_dollar x) None (Some MisplacedStar))
      (cond (is_dollar x && optional) None (misfit_of s d en target ks x)) ≡ None
  given_back ks alike true optional x h f = ap (λ b. cond b None (Some MisplacedStar)) h
  given_back [] alike false optional x h f = either (is_dollar x && optional) None refl
  given_back (j ∷ ks) alike false optional x h (inl f) =
      ap (λ b. cond b None (misfit_of s d en target (j ∷ ks) x))
      (and_from (is_dollar x) optional (unset_dollar s d (base d j) x h.0 f.1) f.0)
  given_back (j ∷ ks) alike false optional x h (inr f) =
      either (is_dollar x && optional) (misfit_of s d en target (j ∷ ks) x)
      (none_misfits j x (j ∷ ks) (λ k m. alike j k (inl refl) m) (form_fits s d typing (base d j) (base d j) x f.0) h f)

  module _ (types : List Name) (alike : (p : Place) (k l : DataType) → Among k (data_types s en types p)
      → Among l (data_types s en types p) → IsLike s d (base d k) (base d l)) where
    slots_back : (name n : ℕ) (ps : List Place) (xs : Trees) → AreSpelt s d en types ps xs
        → Every (SlotFits s d typing en types) (slots_of s d en types ps xs)
        → misfits_from s d en target name n types ps xs ≡ []
    slots_back name n [] xs h f = refl
    slots_back name n (p ∷ ps) trees.none h f = refl
    slots_back name n (p ∷ ps) (trees.one x xs) h f =
        ap (λ o. at_place name (suc n) o ++ misfits_from s d en target name (suc n) types ps xs)
        (given_back (data_types s en types p) (alike p) (is_derived s en types p) (is_optional s en types p) x h.0 f.0)
        ∙ slots_back name (suc n) ps xs h.1 f.1

  joined_empty : (xs ys : List Finding) → xs ≡ [] → ys ≡ [] → xs ++ ys ≡ []
  joined_empty xs ys e f = ap (λ zs. zs ++ ys) e ∙ f

  next_empty : (xs ys : List Finding) → xs ≡ [] → ys ≡ [] → or_next xs ys ≡ []
  next_empty xs ys e f = ap (λ zs. or_next zs ys) e ∙ f

  no_whole : (name : ℕ) (kind : FindingKind) (n : ℕ) → n ≡ 0 → whole_findings name kind n ≡ []
  no_whole name kind n e = ap (whole_findings name kind) e

  row_back : (k : ℕ) (r : ExchangeRow) → ((p : Place) (k l : DataType) → Among k (data_types s en (types_of s en r.form) p)
      → Among l (data_types s en (types_of s en r.form) p) → IsLike s d (base d k) (base d l)) → IsRowSpelt s d en r
      → Conforms s d typing en (instance_of s d en k r) → row_findings s d en target r ≡ []
  row_back k r alike h c =
      next_empty _ _ (no_whole r.name UnknownEntity (unknown_entities s en r.form) h.keywords)
      (next_empty _ _
      (joined_empty _ _
      (joined_empty _ _ (no_whole r.name AbstractInstance (abstract_leaves s en (types_of s en r.form)) c.leaves)
      (no_whole r.name MissingSupertype (missing_supertypes s en (types_of s en r.form)) c.supertypes))
      (no_whole r.name OneOfBroken (broken_one_ofs s en (types_of s en r.form)) c.one_ofs))
      (next_empty _ _ (no_whole r.name ParameterCount (wrong_counts s en r.form) h.counts)
      (slots_back (types_of s en r.form) alike r.name 0 (places_of s en r.form) (parameters (records r.form))
      h.values c.slots)))

module _ (s : Schema) (d : Domain) (en : Entities) (P Z : ExchangeRow → Type 0) (Q : Instance → Type 0)
    (back : (k : ℕ) (r : ExchangeRow) → P r → Q (instance_of s d en k r) → Z r) where
  rows_back : (k : ℕ) (rows : List ExchangeRow) → Every P rows → Every Q (map (instance_of s d en k) rows) → Every Z rows
  rows_back k [] h c = tt
  rows_back k (r ∷ rows) h c = (back k r h.0 c.0, rows_back k rows h.1 c.1)

  -- what holds of the instances holds of their rows
  sections_back : (k : ℕ) (xs : List Section) → Every P (rows_of xs) → Every Q (instances_from s d en k xs)
      → Every Z (rows_of xs)
  sections_back k [] h c = tt
  sections_back k (x ∷ xs) h c =
      let rest = instances_from s d en (suc k) xs in
      let here = map (instance_of s d en k) x.rows in
      each_joined Z x.rows (rows_of xs)
      (rows_back k x.rows (each_in_front P x.rows (rows_of xs) h) (each_in_front Q here rest c))
      (sections_back (suc k) xs (each_behind P x.rows (rows_of xs) h) (each_behind Q here rest c))

pub no_findings : (s : Schema) (d : Domain) (en : Entities) → AreOf s d en
    → (others : List Name) (f : File) → is_of_schema s others f ≡ true
    → Every (IsRowSpelt s d en) (rows_of f.sections) → PopulationConforms s d en (population_of s d en f)
    → findings s d en others f ≡ []
no_findings s d en are others f named spelt c =
    let target : ℕ → Target = target_in s d en (rows_of f.sections) in
    let typing : Typing = typing_of (population_of s d en f) in
    let known = every_other (IsRowSpelt s d en) (IsKnown s d en) (λ r h. h.keywords) (rows_of f.sections) spelt in
    ap (λ b. cond b [] (record { kind = SchemaName; instance = 0; spot = Nothing } ∷ [])
    ++ flat_map (row_findings s d en target) (rows_of f.sections)) named
    ∙ each_empty (row_findings s d en target) (rows_of f.sections)
    (sections_back s d en (IsRowSpelt s d en) (λ r. row_findings s d en target r ≡ []) (Conforms s d typing en)
    (λ k r h i. row_back s d en target typing (λ y types m. (tells s d en f known y types).1 m) k r
    (types_alike s d en are r.form) h i) 0 f.sections spelt c)
