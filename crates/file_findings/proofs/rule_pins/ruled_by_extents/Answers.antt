use Rattle.std.proofs.Common.{rules, length, vec_len, ◌≡◌, ◌∙◌, ◌<◌, sym, subst, arith}
use Rattle.schema_names.specs.Schemas.{the_schema}
use Rattle.typed_populations.specs.PopulationViews.{population_seen}
use Rattle.population_reader.proofs.Verdicts.{empty-so, full-so}
use Rattle.file_findings.specs.steps.ComputedRuling.{AreFound}
use Rattle.file_findings.proofs.rule_pins.ruled_by_extents.Goals as goal

pub pins-requires-clause-made : goal.pins-requires-clause-made
pins-requires-clause-made c = c.requires.ready.sound.made

pub pins-requires-clause-numbered : goal.pins-requires-clause-numbered
pins-requires-clause-numbered c = c.requires.ready.sound.rules.numbered

pub returns-then-broken-gt0 : goal.returns-then-broken-gt0
returns-then-broken-gt0 c =
    let found = c.in_ok-report.report.findings in
    let more : 0 < c.len-broken.result = omega arith in
    let whole : length found.items ≡ vec_len found = search rules in
    (full-so found.items c.len-broken.result (c.len-broken.ensures ∙ sym whole) more, c.in_ok-report.ensures)

pub returns : goal.returns
returns c =
    let e = c.args.extents.now in
    let found = c.in_ok-report.report.findings in
    let whole : length found.items ≡ vec_len found = search rules in
    let none = empty-so found.items c.len-broken.result (c.len-broken.ensures ∙ sym whole) (omega arith) in (
      subst (λ l. AreFound (the_schema e.population.now.types.now.names) (population_seen e.population.now) l
          c.in_ok-report.report.unknown) none c.in_ok-report.ensures,
      c.in_ok-weak.ensures.pins,
      c.in_ok-weak.ensures.lists,
    )
