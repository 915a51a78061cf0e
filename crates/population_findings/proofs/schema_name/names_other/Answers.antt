use Rattle.std.proofs.Common.{rules, tests, ◌∙◌, map, string_bytes}
use Rattle.std.proofs.lemmas.Iterator.Search.{any_from_yields_List}
use Rattle.std.proofs.lemmas.Iterator.{YieldsList-from_slice}
use Rattle.step_literals.specs.Words.{upper}
use Rattle.schema_explicit_attributes.proofs.Owning.{any-mapped}
use Rattle.conformance.specs.Findings.{names_schema}
use Rattle.population_findings.proofs.schema_name.names_other.Goals as goal

pub returns : goal.returns
returns c =
    let text = c.args.text.text.now in
    any_from_yields_List (λ t. names_schema (upper (string_bytes t)) text) _ _ _ c.any.ensures.ran
    (YieldsList-from_slice c.args.names.now cc) (λ x b q k. search (rules, tests))
    ∙ any-mapped string_bytes (λ b. names_schema (upper b) text) c.args.names.now
    ∙ any-mapped upper (λ n. names_schema n text) (map string_bytes c.args.names.now)
