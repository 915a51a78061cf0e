use Rattle.std.proofs.Common.{◌≡◌, ◌∙◌, ap, sym, subst, map}
use Rattle.express_syntax.specs.Profile.{Every}
use Rattle.schema_names.specs.Schemas.{the_schema}
use Rattle.schema_constraints.specs.Findings.{AreFindingsOf}
use Rattle.schema_constraints.specs.declared.finding.RuleFindingKind.TheVariants.{WhereFalse}
use Rattle.schema_domain_rules.specs.RuleViews.{rule_seen, IsNumberedRule}
use Rattle.typed_populations.specs.PopulationViews.{population_seen}
use Rattle.conformance.specs.DomainFindings.{rule_findings, unknown}
use Rattle.rule_outcomes.specs.ReportCounts.{capped}
use Rattle.schema_attribute_sources.specs.SourceViews.{inverses_seen}
use Rattle.schema_attribute_sources.specs.Tables.{AreResolvedSources}
use Rattle.rule_sources.specs.Sources.{AreFormSources}
use Rattle.schema_constraints.specs.RuleViews.{rules_seen}
use Rattle.conformance.proofs.RuleOneness.{rules_are_one}
use Rattle.conformance.proofs.MeaningOneness.{domain_rules_are_one}
use Rattle.file_findings.proofs.rules.domain_findings.Goals as goal

pub of-requires-clause-known : goal.of-requires-clause-known
of-requires-clause-known c =
    let ready = c.requires.ready in
    let d = ready.tables.base_types.exists in
    subst (AreResolvedSources c.args.extents.now.population.now.types.now c.args.settings.now.sources)
    (sym c.as_slice-inverses.ensures.value) (record {
      made = ready.sound.made;
      sources = ready.settings.sources;
      inverses = record { declared = (d.0, (ready.sound.rules.rules d.0 d.1).inverses); numbered = ready.sound.rules.numbered.inverses };
    })

pub check_rules-requires-clause-setting : goal.check_rules-requires-clause-setting
check_rules-requires-clause-setting c =
    let s = the_schema c.args.extents.now.population.now.types.now.names in
    let ready = c.requires.ready in
    let d = ready.tables.base_types.exists in
    record {
      known = record {
        made = ready.sound.made;
        sources = ready.settings.sources;
        inverses = record { declared = (d.0, (ready.sound.rules.rules d.0 d.1).inverses); numbered = ready.sound.rules.numbered.inverses };
      };
      tables = ready.settings;
      forms = subst (λ rows. AreFormSources s (inverses_seen s rows) c.args.extents.now.population.now.rows.forms.items c.in_ok-sources.sources)
          c.as_slice-inverses.ensures.value
          (subst (λ fs. AreFormSources s (inverses_seen s c.as_slice-inverses.result.now) fs c.in_ok-sources.sources)
          c.forms-forms.ensures.forms c.in_ok-sources.ensures);
      formulas = ready.sound.domain.formulas;
    }

pub check_rules-requires-clause-numbered : goal.check_rules-requires-clause-numbered
check_rules-requires-clause-numbered c =
    let s = the_schema c.args.extents.now.population.now.types.now.names in
    subst (Every (IsNumberedRule s)) (sym c.deref.ensures.value) c.requires.ready.sound.domain.numbered

pub returns : goal.returns
returns c said conforms =
    let p = c.args.extents.now.population.now in
    let s = the_schema p.types.now.names in
    let is = population_seen p in
    let ready = c.requires.ready in
    let rules = rules_seen s c.args.extents.now.rules.now in
    let one = rules_are_one s said.domain said.entities rules said.rules said.resolved
    (ready.sound.rules.rules said.domain said.is_domain) said.are_rules is in
    let conditions = ap (map (rule_seen s)) c.deref.ensures.value ∙ domain_rules_are_one s
    (map (rule_seen s) c.args.domain.now.rules.items) said.conditions ready.sound.domain.rules said.are_conditions in
    let r = c.in_ok-report.report in
    record {
      are_false = subst (λ cs. AreFindingsOf WhereFalse (rule_findings s said.domain said.entities said.attributes is cs) r.findings.items)
          conditions (c.in_ok-report.ensures.findings
          (record { said = said; inverses_are = sym one.0; conforms = conforms }));
      are_unknown = c.in_ok-report.ensures.unknown
          (record { said = said; inverses_are = sym one.0; conforms = conforms })
          ∙ ap (λ cs. capped (unknown s said.domain said.entities said.attributes is cs)) conditions;
    }
