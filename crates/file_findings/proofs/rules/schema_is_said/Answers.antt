use Rattle.std.proofs.Common.{ap, sym, subst, map}
use Rattle.schema_names.specs.Schemas.{the_schema}
use Rattle.schema_constraints.specs.RuleViews.{rules_seen}
use Rattle.schema_domain_rules.specs.RuleViews.{rule_seen}
use Rattle.schema_attribute_sources.specs.SourceViews.{inverses_seen}
use Rattle.conformance.specs.Attributes.{AreAttributes}
use Rattle.conformance.specs.Entities.{Entities, AreEntities}
use Rattle.schema_attribute_sources.specs.Tables.{AreResolvedSources}
use Rattle.file_findings.proofs.rules.schema_is_said.Goals as goal

pub attributes_are_said-requires : goal.attributes_are_said-requires
attributes_are_said-requires c =
    let ready = c.requires.ready in
    let d = ready.tables.base_types.exists in
    record {
      known = subst (AreResolvedSources c.args.types.now c.args.settings.now.sources) (sym c.deref.ensures.value) (record {
        made = ready.sound.made;
        sources = ready.settings.sources;
        inverses = record { declared = (d.0, (ready.sound.rules.rules d.0 d.1).inverses); numbered = ready.sound.rules.numbered.inverses };
      });
    }

pub returns : goal.returns
returns c =
    let s = the_schema c.args.types.now.names in
    let ready = c.requires.ready in
    let d = ready.tables.base_types.exists in
    let same = ap the_schema c.knowledge-known.ensures.same in
    let en = subst (λ t. (e : Entities) × AreEntities t e) same c.entities_are_said.ensures in
    let formula = c.formulas_are_said.ensures s ready.sound.domain.formulas in
    let found = c.attributes_are_said.ensures formula.0 formula.1 in
    record {
      resolved = ready.sound.made.resolved;
      domain = d.0;
      entities = en.0;
      rules = rules_seen s c.args.rules.now;
      attributes = found.0;
      conditions = map (rule_seen s) c.args.domain.now.rules.items;
      is_domain = d.1;
      are_entities = en.1;
      are_rules = ready.sound.rules.rules d.0 d.1;
      are_attributes = subst (λ rows. AreAttributes s (inverses_seen s rows) found.0) c.deref.ensures.value found.1;
      are_conditions = ready.sound.domain.rules;
    }
