-- An instance of which there are no findings conforms.
use Rattle.std.specs.Prelude.{◌≡◌, ℕ, zero, suc, ◌&&◌, Bool, true, false, cond, List, [], ◌∷◌, ◌++◌, Option, Some, None, ◌⊎◌}
use Rattle.std.proofs.Common.{refl, sym, subst, inl, inr}
use Rattle.std.proofs.lemmas.Bool.{and_parts}
use Rattle.step_structures.specs.Trees as trees
use Rattle.step_structures.specs.Trees.{Tree, Trees, Record, Form, internal, external, ExchangeRow}
use Rattle.step_values.specs.Leaves as leaves
use Rattle.step_values.specs.Values.{leaf}
use Rattle.express_syntax.specs.Schemas.{Schema, DataType}
use Rattle.express_syntax.specs.Profile.{Every}
use Rattle.schema_semantics.specs.Names.{Name, Among}
use Rattle.schema_semantics.specs.Attributes.{Place}
use Rattle.schema_semantics.specs.Faults.{IsResolved}
use Rattle.schema_semantics.proofs.Lists.{every-at, every-of}
use Rattle.conformance.specs.declared.finding.FindingKind.{FindingKind}
use Rattle.conformance.specs.declared.finding.FindingKind.TheVariants.{UnknownEntity, AbstractInstance, MissingSupertype, OneOfBroken, ParameterCount, MisplacedStar}
use Rattle.conformance.specs.declared.finding.Finding.{Finding}
use Rattle.conformance.specs.Bases.{Domain, base}
use Rattle.conformance.specs.ParameterFits.{Target, unknown, of_types, is_dollar, is_star_or_dollar, misfit, value_as}
use Rattle.conformance.specs.Entities.{Entities, AreEntities, records, parameters, types_of, places_of, unknown_entities, abstract_leaves, missing_supertypes, broken_one_ofs, wrong_counts, is_derived, is_optional, data_types}
use Rattle.conformance.specs.Findings.{whole_findings, or_next, at_place, misfit_of, misfit_at, misfits_from, row_findings}
use Rattle.conformance.specs.Populations.{first_base, slots_of, instance_of}
use Rattle.conformance.specs.Fits.{IsLeftOut, Typing, Fits}
use Rattle.conformance.specs.Conforming.{FitsAll, ValueFits, SlotFits, Conforms}
use Rattle.conformance.proofs.Linking.{first_none, second_none, dollar_unset, fits_none}
use Rattle.conformance.proofs.Attributes.{attributes_of}
use Rattle.conformance.proofs.ValueForms.{IsLike, form_fits, one_value}

pub next_first : (xs ys : List Finding) → or_next xs ys ≡ [] → xs ≡ []
next_first [] ys e = refl
next_first (x ∷ xs) ys e = absurd (cc)

pub next_second : (xs ys : List Finding) → or_next xs ys ≡ [] → ys ≡ []
next_second [] ys e = e
next_second (x ∷ xs) ys e = absurd (cc)

pub front_empty : {A : Type 0} (xs ys : List A) → xs ++ ys ≡ [] → xs ≡ []
front_empty [] ys e = refl
front_empty (x ∷ xs) ys e = absurd (cc)

pub rest_empty : {A : Type 0} (xs ys : List A) → xs ++ ys ≡ [] → ys ≡ []
rest_empty [] ys e = e
rest_empty (x ∷ xs) ys e = absurd (cc)

pub none_whole : (name : ℕ) (kind : FindingKind) (n : ℕ) → whole_findings name kind n ≡ [] → n ≡ 0
none_whole name kind zero e = refl
none_whole name kind (suc n) e = absurd (cc)

pub none_there : (name n : ℕ) (o : Option FindingKind) → at_place name n o ≡ [] → o ≡ None
none_there name n None e = refl
none_there name n (Some k) e = absurd (cc)

module _ (s : Schema) (d : Domain) (en : Entities) (target : ℕ → Target) (typing : Typing)
    (told : (y : ℕ) (types : List Name) → target y ≡ of_types types → typing y ≡ Some types)
    (all_known : (y : ℕ) → target y ≡ unknown → ⊥) where
  -- each data type takes the value that it makes of the parameter
  fits_each : (ks : List DataType) (x : Tree) → misfit_of s d en target ks x ≡ None
      → Every (λ (k : DataType). Fits s d typing (base d k) (value_as s d (base d k) x)) ks
  fits_each [] x e = tt
  fits_each (k ∷ ks) x e = (
    fits_none s d target typing told all_known (base d k) x (first_none (misfit s d target (base d k) x) _ e),
    fits_each ks x (second_none (misfit s d target (base d k) x) _ e),
  )

  module _ (ks : List DataType)
      (alike : (k l : DataType) → Among k ks → Among l ks → IsLike s d (base d k) (base d l)) where
    -- Each data type takes the value that the first one makes of the parameter.
    fits_all : (x : Tree) → misfit_of s d en target ks x ≡ None
        → FitsAll s d typing ks (value_as s d (first_base s d en ks) x)
    fits_all x e = first_fits ks alike (fits_each ks x e)
      where
        first_fits : (ls : List DataType)
            → ((k l : DataType) → Among k ls → Among l ls → IsLike s d (base d k) (base d l))
            → Every (λ (k : DataType). Fits s d typing (base d k) (value_as s d (base d k) x)) ls
            → FitsAll s d typing ls (value_as s d (first_base s d en ls) x)
        first_fits [] like f = tt
        first_fits (j ∷ ls) like f =
            every-of (λ (k : DataType). Fits s d typing (base d k) (value_as s d (base d j) x)) (j ∷ ls)
            (λ k m. let fit = every-at (λ (k : DataType). Fits s d typing (base d k) (value_as s d (base d k) x)) k
            (j ∷ ls) f m in
            subst (Fits s d typing (base d k)) (sym (one_value s d (base d j) (base d k) x (like j k (inl refl) m)
            (form_fits s d typing (base d j) (base d j) x f.0) (form_fits s d typing (base d k) (base d k) x fit))) fit)

    given_fits : (derived optional : Bool) (x : Tree)
        → cond derived (cond (is_star_or_dollar x) None (Some MisplacedStar))
        (cond (is_dollar x && optional) None (misfit_of s d en target ks x)) ≡ None
        → ValueFits s d typing derived optional ks
        (cond derived (leaf leaves.derived) (value_as s d (first_base s d en ks) x))
    given_fits true optional x e = refl
    given_fits false optional x e = go (is_dollar x && optional) refl e
      where
        go : (u : Bool) → (is_dollar x && optional) ≡ u → cond u None (misfit_of s d en target ks x) ≡ None
            → IsLeftOut optional (value_as s d (first_base s d en ks) x)
            ⊎ FitsAll s d typing ks (value_as s d (first_base s d en ks) x)
        go true h e =
            let parts = and_parts (is_dollar x) optional h in
            inl (parts.1, dollar_unset s d (first_base s d en ks) x parts.0)
        go false h e = inr (fits_all x e)

  module _ (types : List Name) (alike : (p : Place) (k l : DataType) → Among k (data_types s en types p)
      → Among l (data_types s en types p) → IsLike s d (base d k) (base d l)) where
    slots_fit : (name n : ℕ) (ps : List Place) (xs : Trees) → misfits_from s d en target name n types ps xs ≡ []
        → Every (SlotFits s d typing en types) (slots_of s d en types ps xs)
    slots_fit name n [] xs e = tt
    slots_fit name n (p ∷ ps) trees.none e = tt
    slots_fit name n (p ∷ ps) (trees.one x xs) e = (
      given_fits (data_types s en types p) (alike p) (is_derived s en types p) (is_optional s en types p) x
          (none_there name (suc n) (misfit_at s d en target types p x) (front_empty _ _ e)),
      slots_fit name (suc n) ps xs
          (rest_empty (at_place name (suc n) (misfit_at s d en target types p x)) _ e),
    )

  module _ (resolved : IsResolved s) (are : AreEntities s en) (section : ℕ) (r : ExchangeRow)
      (alike : (p : Place) (k l : DataType)
      → Among k (data_types s en (types_of s en r.form) p) → Among l (data_types s en (types_of s en r.form) p)
      → IsLike s d (base d k) (base d l)) where
    types : List Name
    types = types_of s en r.form

    pub row_conforms : row_findings s d en target r ≡ [] → Conforms s d typing en (instance_of s d en section r)
    unfolding types
    row_conforms e =
        let behind_names = next_second (whole_findings r.name UnknownEntity (unknown_entities s en r.form)) _ e in
        let of_types = next_first _ _ behind_names in
        let behind_types = next_second (whole_findings r.name AbstractInstance (abstract_leaves s en types)
        ++ whole_findings r.name MissingSupertype (missing_supertypes s en types)
        ++ whole_findings r.name OneOfBroken (broken_one_ofs s en types)) _ behind_names in
        let known = none_whole r.name UnknownEntity (unknown_entities s en r.form) (next_first _ _ e) in
        let counts = none_whole r.name ParameterCount (wrong_counts s en r.form) (next_first _ _ behind_types) in
        let values = next_second (whole_findings r.name ParameterCount (wrong_counts s en r.form)) _ behind_types in
        let two = front_empty (whole_findings r.name AbstractInstance (abstract_leaves s en types)
        ++ whole_findings r.name MissingSupertype (missing_supertypes s en types)) _ of_types in
        record {
          leaves = none_whole r.name AbstractInstance (abstract_leaves s en types) (front_empty _ _ two);
          supertypes = none_whole r.name MissingSupertype (missing_supertypes s en types)
              (rest_empty (whole_findings r.name AbstractInstance (abstract_leaves s en types)) _ two);
          one_ofs = none_whole r.name OneOfBroken (broken_one_ofs s en types)
              (rest_empty (whole_findings r.name AbstractInstance (abstract_leaves s en types)
              ++ whole_findings r.name MissingSupertype (missing_supertypes s en types)) _ of_types);
          attributes = attributes_of s d en resolved are section r known counts;
          slots = slots_fit types alike r.name 0 (places_of s en r.form) (parameters (records r.form)) values;
        }
