use Rattle.std.proofs.Common.{◌∙◌}
use Rattle.std.proofs.lemmas.Result.{err_from_is_err_and}
use Rattle.express_syntax.specs.ExpressionViews.{capitals}
use Rattle.express_entities.proofs.EntitySteps.{entity_err_head, entity_err_clauses, entity_done}
use Rattle.express_syntax.proofs.SameText.{passes_text, kept}
use Rattle.express_syntax.specs.Sources.{IsSupertypeOf}
use Rattle.express_entities.specs.steps.EntityParts.{AreClausesOf}
use Rattle.express_entities.proofs.entities.entity.Goals as goal

pub returns-in_err-head-clause-read : goal.returns-in_err-head-clause-read
returns-in_err-head-clause-read c =
    let p = err_from_is_err_and c.from_residual-in_err-head.result c.from_residual-in_err-head.ensures.1 in
    rw (p.1, p.2) (entity_err_head _ c.in_ok-name.ensures c.in_err-head.ensures.read)

pub returns-in_err-clauses-clause-read : goal.returns-in_err-clauses-clause-read
returns-in_err-clauses-clause-read c =
    let p = err_from_is_err_and c.from_residual-in_err-clauses.result c.from_residual-in_err-clauses.ensures.1 in
    rw (p.1, p.2) (entity_err_clauses _ c.in_ok-name.ensures c.in_ok-head.ensures.read.1 c.in_err-clauses.ensures.read)

pub returns-clause-read : goal.returns-clause-read
returns-clause-read c =
    entity_done (capitals c.in_ok-name.name) c.in_ok-head.head c.in_ok-clauses.clauses c.args.reader.now
    c.expect_name.new.self c.read_head.new.reader c.read_clauses.new.reader c.in_ok-name.ensures
    c.in_ok-head.ensures.read c.in_ok-clauses.ensures.read

pub returns-clause-text : goal.returns-clause-text
returns-clause-text c =
    let e = passes_text c.in_ok-name.ensures in
    let clauses = kept AreClausesOf c.in_ok-clauses.clauses (passes_text c.in_ok-head.ensures.read.1 ∙ e)
    c.in_ok-clauses.ensures.text in (
      kept IsSupertypeOf c.in_ok-head.head.supertype e c.in_ok-head.ensures.text,
      clauses.0,
      clauses.1,
      clauses.2,
      clauses.3,
    )
