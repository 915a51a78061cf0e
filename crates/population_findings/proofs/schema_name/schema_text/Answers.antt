use Rattle.std.proofs.Common.{sym, ◌∙◌}
use Rattle.population_findings.proofs.Heading.{no-list, no-name, no-string-there, the-string}
use Rattle.population_findings.proofs.schema_name.schema_text.Goals as goal

pub returns-in_default-only : goal.returns-in_default-only
returns-in_default-only c =
    no-list c.args.header.now c.in-Some.record (sym c.item.ensures ∙ c.in-Some.is) c.parts.result
    c.split-values.result.1 c.parts.ensures c.split-values.ensures.back c.in_default-only.ensures

pub returns-in_default-only-2 : goal.returns-in_default-only-2
returns-in_default-only-2 c =
    no-name c.args.header.now c.in-Some.record (sym c.item.ensures ∙ c.in-Some.is) c.parts.result
    c.split-values.result.1 c.parts.ensures c.split-values.ensures.back c.in-Some-only.list c.in-Some-only.ensures
    c.parts-2.result c.parts-2.ensures c.in_default-only-2.ensures

pub returns-in-Text : goal.returns-in-Text
returns-in-Text c =
    the-string c.args.header.now c.in-Some.record (sym c.item.ensures ∙ c.in-Some.is) c.parts.result
    c.split-values.result.1 c.parts.ensures c.split-values.ensures.back c.in-Some-only.list c.in-Some-only.ensures
    c.parts-2.result c.parts-2.ensures c.in-Some-only-2.name c.in-Some-only-2.ensures c.node.result c.node.ensures
    c.in-Text.text c.in-Text.is

pub returns-in_default-node : goal.returns-in_default-node
returns-in_default-node c =
    no-string-there c.args.header.now c.in-Some.record (sym c.item.ensures ∙ c.in-Some.is) c.parts.result
    c.split-values.result.1 c.parts.ensures c.split-values.ensures.back c.in-Some-only.list c.in-Some-only.ensures
    c.parts-2.result c.parts-2.ensures c.in-Some-only-2.name c.in-Some-only-2.ensures c.node.result c.node.ensures
    c.in_default-node.not-Text
