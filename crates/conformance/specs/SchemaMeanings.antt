-- The meaning of a schema, as functions and lists, and when a file conforms to it
-- (ISO 10303-21, 11; ISO 10303-11).
use Rattle.std.specs.Prelude.{◌≡◌, List, []}
use Rattle.step_structures.specs.Trees.{File}
use Rattle.express_syntax.specs.Schemas.{Schema}
use Rattle.schema_semantics.specs.Names.{Name}
use Rattle.schema_semantics.specs.Faults.{IsResolved}
use Rattle.conformance.specs.Bases.{Domain, IsDomain}
use Rattle.conformance.specs.Entities.{Entities, AreEntities}
use Rattle.conformance.specs.Findings.{findings}
use Rattle.conformance.specs.Populations.{Instance, population_of}
use Rattle.conformance.specs.Rules.{Rules, AreRules}
use Rattle.conformance.specs.RuleFindings.{unique_findings, inverse_findings}
use Rattle.conformance.specs.Attributes.{Attributes, AreAttributes}
use Rattle.conformance.specs.DomainRules.{DomainRule, AreDomainRules}
use Rattle.conformance.specs.DomainFindings.{rule_findings}

-- The meaning of a schema whose names are resolved: its data types, its entities, its rules for a
-- whole population, its attributes, and its domain rules that are checked. For the names that the
-- schema declares, each relation determines these functions.
pub record Said (s : Schema) : Type 0 where
  pub resolved : IsResolved s
  pub domain : Domain
  pub entities : Entities
  pub rules : Rules
  pub attributes : Attributes
  pub conditions : List DomainRule
  pub is_domain : IsDomain s domain
  pub are_entities : AreEntities s entities
  pub are_rules : AreRules s domain rules
  pub are_attributes : AreAttributes s rules.inverses attributes
  pub are_conditions : AreDomainRules s conditions

module _ (s : Schema) (said : Said s) where
  -- The population of a file.
  abbrev pub instances : File → List Instance
  instances f = population_of s said.domain said.entities f

  -- A file that may call the schema by these other names conforms: neither its schema's name nor any
  -- instance has a finding, and no rule is broken.
  pub record FileConforms (others : List Name) (f : File) : Type 0 where
    pub nothing : findings s said.domain said.entities others f ≡ []
    pub holds : rule_findings s said.domain said.entities said.attributes (instances f) said.conditions ≡ []
    pub unique : unique_findings said.rules (instances f) ≡ []
    pub bounded : inverse_findings said.rules (instances f) ≡ []
