use Rattle.std.proofs.Common.{true, sym, ap, ◌∙◌, take}
use Rattle.population_findings.specs.steps.SchemaNames.{headings_name, names_in_files}
use Rattle.population_findings.proofs.Heading.{unnamed, named}
use Rattle.population_findings.proofs.schema_name.is_of_schema.Goals as goal

pub returns-in_default : goal.returns-in_default
returns-in_default c =
    let x = c.args.exchange.now in
    unnamed (names_in_files c.args.schema.now) x c.split-header.result.0
    (c.split-header.ensures.front ∙ ap (λ l. take x.header_len l) c.trees.ensures) c.in_default.ensures

pub returns-then-names_one : goal.returns-then-names_one
returns-then-names_one c =
    let x = c.args.exchange.now in
    let names = names_in_files c.args.schema.now in
    c.headings_name.ensures ∙ ap (headings_name names) c.deref.ensures.value
    ∙ named names x c.split-header.result.0
    (c.split-header.ensures.front ∙ ap (λ l. take x.header_len l) c.trees.ensures) c.in-Some.text c.in-Some.ensures true
    (sym c.if-names_one.true ∙ c.names_one.ensures)
