use Rattle.std.proofs.Common.{subst, IfOk}
use Rattle.std.proofs.lemmas.Result.{IfOk-weaker}
use Rattle.step_exchange.specs.Exchanges.{structure}
use Rattle.conformance.specs.OtherNames.{other_names}
use Rattle.schema_names.specs.declared.names.Names.{Names}
use Rattle.schema_names.specs.Schemas.{the_schema}
use Rattle.file_findings.specs.steps.Sparing.{AreInstanceFindings}
use Rattle.file_findings.proofs.findings.instance_findings.Goals as goal

pub returns : goal.returns
returns c =
    subst (λ (n : Names). IfOk c.findings.result (λ fs. AreInstanceFindings (the_schema n)
    (other_names n.schema.now) (structure c.args.exchange.now) fs.items)) c.knowledge-known.ensures.same
    (IfOk-weaker c.findings.result _ _ (λ fs h said. h said.domain said.entities said.is_domain said.are_entities) c.findings.ensures)
