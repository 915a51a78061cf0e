-- What has no finding is spelt as it should be.
use Rattle.std.specs.Prelude.{◌≡◌, ℕ, suc, ◌&&◌, Bool, true, false, cond, List, [], ◌∷◌, ◌++◌, Some, None}
use Rattle.std.proofs.Common.{refl, sym, ◌∙◌, ap}
use Rattle.std.proofs.lemmas.Bool.{and_parts}
use Rattle.step_lexer.specs.declared.token.Mark.TheVariants.{Dollar, Asterisk}
use Rattle.step_structures.specs.Words as words
use Rattle.step_structures.specs.Words.{Word}
use Rattle.step_structures.specs.Trees as trees
use Rattle.step_structures.specs.Trees.{Tree, Trees, ExchangeRow}
use Rattle.express_syntax.specs.Schemas.{Schema, DataType}
use Rattle.express_syntax.specs.Profile.{Every}
use Rattle.schema_semantics.specs.Names.{Name}
use Rattle.schema_semantics.specs.Attributes.{Place}
use Rattle.conformance.specs.declared.finding.FindingKind.TheVariants.{UnknownEntity, AbstractInstance, MissingSupertype, OneOfBroken, ParameterCount, WrongKind, OutOfBounds, MisplacedStar}
use Rattle.conformance.specs.Bases.{Base, integer, Domain, base}
use Rattle.conformance.specs.ParameterFits.{Target, needs, in_bounds, is_dollar, is_star_or_dollar, is_integer, are_distinct, count, other_kind, values_as, misfit_word, misfit_inner, misfit_group, misfit, misfit_each}
use Rattle.conformance.specs.Entities.{Entities, records, parameters, types_of, places_of, unknown_entities, abstract_leaves, missing_supertypes, broken_one_ofs, wrong_counts, is_derived, is_optional, data_types}
use Rattle.conformance.specs.Findings.{whole_findings, at_place, misfit_of, misfit_at, misfits_from, row_findings}
use Rattle.conformance.specs.ValueSpellings.{WordSpelt, IsSpelt, EachSpelt}
use Rattle.conformance.specs.RecordSpellings.{GivenSpelt, AreSpelt, IsRowSpelt}
use Rattle.conformance.proofs.Linking.{needed, first_none, second_none, no_kind}
use Rattle.conformance.proofs.Instances.{next_first, next_second, front_empty, rest_empty, none_whole, none_there}

number_spelt : (s : Schema) (d : Domain) (target : ℕ → Target) (b : Base) (t : List ℕ)
    → misfit_word s d target b (words.number t) ≡ None → WordSpelt (words.number t) b
number_spelt s d target integer t m = needed (is_integer t) WrongKind m
number_spelt s d target b t m = tt

dollar_spelt : (s : Schema) (d : Domain) (b : Base) (x : Tree) → is_dollar x ≡ true → IsSpelt s d b x
dollar_spelt s d b (trees.leaf (words.mark Dollar)) e = tt
dollar_spelt s d b x e = absurd (cc)

module _ (s : Schema) (d : Domain) (target : ℕ → Target) where
  word_spelt : (b : Base) (w : Word) → misfit_word s d target b w ≡ None → WordSpelt w b
  word_spelt b (words.number t) m = number_spelt s d target b t m
  word_spelt b (words.string t) m = tt
  word_spelt b (words.binary t) m = tt
  word_spelt b (words.element t) m = tt
  word_spelt b (words.name y t) m = tt
  word_spelt b (words.mark Dollar) m = tt
  word_spelt b (words.mark Asterisk) m = tt
  word_spelt b w m = absurd (no_kind (other_kind b) m)

  one_spelt : (optional : Bool) (b : Base) (x : Tree) → (misfit s d target b x ≡ None → IsSpelt s d b x)
      → cond (optional && is_dollar x) None (misfit s d target b x) ≡ None → IsSpelt s d b x
  one_spelt optional b x f m = go (optional && is_dollar x) refl m
    where
      go : (t : Bool) → (optional && is_dollar x) ≡ t → cond t None (misfit s d target b x) ≡ None → IsSpelt s d b x
      go true e n = dollar_spelt s d b x (and_parts optional (is_dollar x) e).1
      go false e n = f n

  mutual
    -- a parameter of which there is no finding is spelt as its data type asks
    pub spelt_none : (b : Base) (x : Tree) → misfit s d target b x ≡ None → IsSpelt s d b x
    spelt_none b (trees.leaf w) m = word_spelt b w m
    spelt_none b (trees.typed word x) m = λ c e.
        spelt_none c x (ap (λ o. misfit_inner s d target (other_kind b) o (λ c. misfit s d target c x)) (sym e) ∙ m)
    spelt_none b (trees.group xs) m = λ a e.
        spelt_each a.optional (base d a.element) xs
        (first_none (misfit_each s d target a.optional (base d a.element) xs) _
        (second_none (needs (in_bounds a (count xs)) OutOfBounds) _
        (ap (λ c. misfit_group s d target c (count xs) (λ a. misfit_each s d target a.optional (base d a.element) xs)
        (λ a. are_distinct (values_as s d (base d a.element) xs))) (sym e) ∙ m)))

    spelt_each : (optional : Bool) (b : Base) (xs : Trees) → misfit_each s d target optional b xs ≡ None
        → EachSpelt s d b xs
    spelt_each optional b trees.none m = tt
    spelt_each optional b (trees.one x xs) m =
        let here = cond (optional && is_dollar x) None (misfit s d target b x) in (
          one_spelt optional b x (λ n. spelt_none b x n) (first_none here _ m),
          spelt_each optional b xs (second_none here _ m),
        )

  module _ (en : Entities) where
    each_type_spelt : (ks : List DataType) (x : Tree) → misfit_of s d en target ks x ≡ None
        → Every (λ (k : DataType). IsSpelt s d (base d k) x) ks
    each_type_spelt [] x m = tt
    each_type_spelt (k ∷ ks) x m = (
      spelt_none (base d k) x (first_none (misfit s d target (base d k) x) _ m),
      each_type_spelt ks x (second_none (misfit s d target (base d k) x) _ m),
    )

    dollar_by_all : (ks : List DataType) (x : Tree) → is_dollar x ≡ true
        → Every (λ (k : DataType). IsSpelt s d (base d k) x) ks
    dollar_by_all [] x e = tt
    dollar_by_all (k ∷ ks) x e = (dollar_spelt s d (base d k) x e, dollar_by_all ks x e)

    given_spelt : (derived optional : Bool) (ks : List DataType) (x : Tree)
        → cond derived (cond (is_star_or_dollar x) None (Some MisplacedStar))
        (cond (is_dollar x && optional) None (misfit_of s d en target ks x)) ≡ None → GivenSpelt s d derived ks x
    given_spelt true optional ks x m = needed (is_star_or_dollar x) MisplacedStar m
    given_spelt false optional ks x m = go (is_dollar x && optional) refl m
      where
        go : (t : Bool) → (is_dollar x && optional) ≡ t → cond t None (misfit_of s d en target ks x) ≡ None
            → Every (λ (k : DataType). IsSpelt s d (base d k) x) ks
        go true e n = dollar_by_all ks x (and_parts (is_dollar x) optional e).0
        go false e n = each_type_spelt ks x n

    are_spelt : (types : List Name) (name n : ℕ) (ps : List Place) (xs : Trees)
        → misfits_from s d en target name n types ps xs ≡ [] → AreSpelt s d en types ps xs
    are_spelt types name n [] xs e = tt
    are_spelt types name n (p ∷ ps) trees.none e = tt
    are_spelt types name n (p ∷ ps) (trees.one x xs) e = (
      given_spelt (is_derived s en types p) (is_optional s en types p) (data_types s en types p) x
          (none_there name (suc n) (misfit_at s d en target types p x) (front_empty _ _ e)),
      are_spelt types name (suc n) ps xs (rest_empty (at_place name (suc n) (misfit_at s d en target types p x)) _ e),
    )

    pub row_spelt : (r : ExchangeRow) → row_findings s d en target r ≡ [] → IsRowSpelt s d en r
    row_spelt r e =
        let types = types_of s en r.form in
        let behind_names = next_second (whole_findings r.name UnknownEntity (unknown_entities s en r.form)) _ e in
        let behind_types = next_second (whole_findings r.name AbstractInstance (abstract_leaves s en types)
        ++ whole_findings r.name MissingSupertype (missing_supertypes s en types)
        ++ whole_findings r.name OneOfBroken (broken_one_ofs s en types)) _ behind_names in
        record {
          keywords = none_whole r.name UnknownEntity (unknown_entities s en r.form) (next_first _ _ e);
          counts = none_whole r.name ParameterCount (wrong_counts s en r.form) (next_first _ _ behind_types);
          values = are_spelt types r.name 0 (places_of s en r.form) (parameters (records r.form))
              (next_second (whole_findings r.name ParameterCount (wrong_counts s en r.form)) _ behind_types);
        }
