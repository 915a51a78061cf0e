-- The tables that are made of a schema, and their parts.
use Rattle.std.specs.Prelude.{◌≡◌, ◌<◌, ◌^◌, length, map}
use Rattle.graphs.specs.Graphs.{Graph, graph_of}
use Rattle.graphs.specs.Closures.{IsReversal}
use Rattle.express_syntax.specs.Schemas.{Schema}
use Rattle.express_syntax.specs.Profile.{Every}
use Rattle.schema_semantics.specs.Parts.{AreUnchecked}
use Rattle.schema_names.specs.Numbers.{AreNumberRowsOf}
use Rattle.schema_data_types.specs.NumberedTypes.{form_in, whole_types, all_data_types}
use Rattle.schema_data_types.specs.steps.Values.{AreParts}
use Rattle.schema_data_types.specs.ShapeTables.{AreShapes}
use Rattle.schema_explicit_attributes.specs.SupertypeLines.{HaveLines}
use Rattle.schema_explicit_attributes.specs.Places.{all_places, ArePlaceRows}
use Rattle.schema_explicit_attributes.specs.declared.places.AttributePlaces.{AttributePlaces}
use Rattle.schema_attributes.specs.steps.Declarations.{AreAttributes}
use Rattle.schema_data_types.specs.Items.{AreItems}
use Rattle.schema_derived_attributes.specs.AttributeRanks.{AreRanksOf}
use Rattle.schema_unchecked_declarations.specs.UncheckedLists.{unchecked_in}
use Rattle.conformance.specs.DomainRules.{AreDomainRules}
use Rattle.schema_derived_attributes.specs.Formulas.{AreFormulasOf}
use Rattle.schema_domain_rules.specs.RuleViews.{rule_seen, IsNumberedRule}
use Rattle.schema_constraints.specs.RuleTables.{AreRuleTables}
use Rattle.schema_resolution.specs.declared.findings.Types.{Types}
use Rattle.schema_resolution.specs.declared.findings.Meanings.{Meanings}
use Rattle.schema_resolution.specs.declared.findings.Judged.{Judged}
use Rattle.schema_resolution.specs.declared.findings.DomainTables.{DomainTables}
use Rattle.schema_resolution.specs.declared.findings.Found.{Found}

-- The tables have the data types of the schema.
pub record AreTypes (s : Schema) (t : Types) : Type 0 where
  pub forms : t.data_types.forms.items ≡ map (form_in s) (all_data_types s)
  pub few : length t.data_types.forms.items < 2 ^ 32
  pub rows : AreNumberRowsOf whole_types (all_data_types s) s.declarations (graph_of t.data_types.rows.items)
  pub parts : AreParts s t.parts
  pub shapes : AreShapes s t.shapes.items

-- The tables have the meanings of names in the schema's expressions.
pub record AreMeanings (s : Schema) (above : Graph) (t : Meanings) : Type 0 where
  pub lines : HaveLines s (graph_of t.lines.items)
  pub each : length t.lines.items ≡ length s.declarations
  pub below : IsReversal above (graph_of t.below.items)
  pub attributes : AreAttributes s t.attributes
  pub items : AreItems s t.items

-- The table has, by declaration, the numbers of the explicit attributes that an entity declares itself.
abbrev pub HasOwnPlaces : Schema → AttributePlaces → Type 0
HasOwnPlaces s t = ArePlaceRows (all_places s) s.declarations (graph_of t.own.items)

-- The table has the findings for the schema's rules and derived attributes.
pub record IsJudged (s : Schema) (t : Judged) : Type 0 where
  pub ranks : AreRanksOf s t.ranks.items
  pub unchecked : AreUnchecked s (unchecked_in t.unchecked.items)

-- The tables have the formulas of the schema's derived attributes, and its checked domain rules
-- with the numbers of the declarations that state them.
pub record AreDomainTables (s : Schema) (t : DomainTables) : Type 0 where
  pub formulas : AreFormulasOf s t.formulas
  pub rules : AreDomainRules s (map (rule_seen s) t.rules.items)
  pub numbered : Every (IsNumberedRule s) t.rules.items

-- The tables are those of the schema.
pub record AreFound (s : Schema) (t : Found) : Type 0 where
  pub judged : IsJudged s t.judged
  pub domain : AreDomainTables s t.domain
  pub rules : AreRuleTables s t.rules
