use Rattle.std.proofs.Common.{◌<◌, ◌∙◌, ap, arith, flat_map, length, subst}
use Rattle.std.proofs.lemmas.List.{take_all}
use Rattle.std.proofs.lemmas.Result.{err_from_is_err_and}
use Rattle.express_syntax.specs.ExpressionViews.{capitals}
use Rattle.express_syntax.specs.Profile.{Every}
use Rattle.schema_semantics.specs.Faults.{IsMet, a_type}
use Rattle.schema_names.specs.Schemas.{the_schema}
use Rattle.schema_faults.specs.steps.Checks.{IsFirstUnmet}
use Rattle.schema_faults.proofs.Unmet.{asked_each, one-each, met-more, unmet-more}
use Rattle.schema_faults.proofs.names.check_types.Goals as goal

pub loop-word-preserved : goal.loop-word-preserved
loop-word-preserved c =
    let lt : c.loop-word.word-index < length c.args.words.now = omega (arith, c.loop-word-test.true) in
    met-more (the_schema c.args.names.now) (asked_each a_type) c.args.words.now c.loop-word.word-index
    c.word-item.result lt c.word-item.is c.loop-word.invariant c.in_ok-check_type.ensures

pub returns-in_err-check_type : goal.returns-in_err-check_type
returns-in_err-check_type c =
    let s = the_schema c.args.names.now in
    let lt : c.loop-word.word-index < length c.args.words.now = omega (arith, c.loop-word-test.true) in
    let n = capitals c.in_err-check_type.field-0.0 in
    let p = err_from_is_err_and c.from_residual.result c.from_residual.ensures.1 in
    rw (p.1, p.2) (subst (λ ds. IsFirstUnmet s ds n) (one-each a_type c.args.words.now)
    (unmet-more s (asked_each a_type) c.args.words.now c.loop-word.word-index c.word-item.result n lt c.word-item.is
    c.loop-word.invariant c.in_err-check_type.ensures))

pub returns : goal.returns
returns c =
    subst (Every (IsMet (the_schema c.args.names.now)))
    (ap (flat_map (asked_each a_type)) (take_all c.loop-word.word-index c.args.words.now c.loop-word-test.false)
    ∙ one-each a_type c.args.words.now) c.loop-word.invariant
