use Rattle.std.proofs.Common.{◌++◌, [], ◌∷◌, cond, append-nil, sym, ap, ◌∙◌}
use Rattle.conformance.specs.declared.finding.Finding.{Finding}
use Rattle.conformance.specs.declared.finding.FindingKind.TheVariants.{SchemaName}
use Rattle.conformance.specs.declared.finding.Spot.TheVariants.{Nothing}
use Rattle.population_findings.proofs.findings.tell_schema.Goals as goal

pub returns-then-is_of_schema : goal.returns-then-is_of_schema
returns-then-is_of_schema c =
    let f : Finding = record { kind = SchemaName; instance = 0; spot = Nothing } in
    sym (append-nil c.args.found.now.items)
    ∙ ap (λ b. c.args.found.now.items ++ cond b [] (f ∷ [])) (sym c.if-is_of_schema.true ∙ c.is_of_schema.ensures)

pub returns : goal.returns
returns c =
    let f : Finding = record { kind = SchemaName; instance = 0; spot = Nothing } in
    c.in_ok-push.ensures.items
    ∙ ap (λ b. c.args.found.now.items ++ cond b [] (f ∷ [])) (sym c.if-is_of_schema.false ∙ c.is_of_schema.ensures)
