-- How the records of an instance have to be spelled, beyond what its values say
-- (ISO 10303-21, 11.2).
use Rattle.std.specs.Prelude.{◌≡◌, ⊤, Bool, true, false, List, ◌∷◌}
use Rattle.step_structures.specs.Trees as trees
use Rattle.step_structures.specs.Trees.{Tree, Trees, ExchangeRow}
use Rattle.express_syntax.specs.Schemas.{Schema, DataType}
use Rattle.express_syntax.specs.Profile.{Every}
use Rattle.schema_semantics.specs.Names.{Name}
use Rattle.schema_semantics.specs.Attributes.{Place}
use Rattle.conformance.specs.Bases.{Domain, base}
use Rattle.conformance.specs.ParameterFits.{is_star_or_dollar}
use Rattle.conformance.specs.Entities.{Entities, records, parameters, types_of, places_of, unknown_entities, wrong_counts, is_derived, data_types}
use Rattle.conformance.specs.ValueSpellings.{IsSpelt}

module _ (s : Schema) (d : Domain) where
  -- A parameter for a derived value is `*` or `$`. Any other is spelled as each of the data types
  -- requires.
  abbrev pub GivenSpelt : Bool → List DataType → Tree → Type 0
  GivenSpelt true ks x = is_star_or_dollar x ≡ true
  GivenSpelt false ks x = Every (λ (k : DataType). IsSpelt s d (base d k) x) ks

  module _ (en : Entities) where
    -- Each of these parameters is spelled as its attribute requires.
    abbrev pub AreSpelt : List Name → List Place → Trees → Type 0
    AreSpelt types (p ∷ ps) (trees.one x xs) =
        GivenSpelt (is_derived s en types p) (data_types s en types p) x × AreSpelt types ps xs
    AreSpelt types ps xs = ⊤

    -- Each keyword is an entity, each record has as many parameters as attributes, and each
    -- parameter is spelled as its attribute requires.
    pub record IsRowSpelt (r : ExchangeRow) : Type 0 where
      pub keywords : unknown_entities s en r.form ≡ 0
      pub counts : wrong_counts s en r.form ≡ 0
      pub values : AreSpelt (types_of s en r.form) (places_of s en r.form) (parameters (records r.form))
