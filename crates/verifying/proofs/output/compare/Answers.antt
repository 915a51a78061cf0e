use Rattle.std.proofs.Common.{sym, ◌∙◌, refl}
use Rattle.std.proofs.lemmas.Bool.{false≢true}
use Rattle.std.proofs.lemmas.Result.{err_from_is_err_and}
use Rattle.step_exchange.specs.Exchanges.{structure}
use Rattle.schema_names.specs.Schemas.{the_schema}
use Rattle.typed_populations.specs.PopulationViews.{population_seen}
use Rattle.verifying.proofs.Comparing.{no_image, comes}
use Rattle.verifying.proofs.output.compare.Goals as goal

pub returns-in_err-rows : goal.returns-in_err-rows
returns-in_err-rows c chosen certificate f has judged same =
    let p = err_from_is_err_and c.from_residual.result c.from_residual.ensures.1 in
    rw (p.1, p.2) tt

pub returns-in_err-is_image : goal.returns-in_err-is_image
returns-in_err-is_image c chosen certificate f has judged same =
    let p = err_from_is_err_and c.from_residual-in_err-is_image.result c.from_residual-in_err-is_image.ensures.1 in
    rw (p.1, p.2) tt

pub returns-then-not-branch : goal.returns-then-not-branch
returns-then-not-branch c chosen certificate f has judged same =
    let q = c.args.population in
    no_image (the_schema q.types.now.names) chosen f (structure q.exchange.now)
    certificate c.args.judged.now judged (population_seen q) same c.in_ok-rows.rows c.in_ok-rows.ensures.rows
    c.in_ok-rows.ensures.population (λ m. false≢true (sym c.if-not-branch.true
    ∙ c.in_ok-is_image.ensures.1 (m.0, has ∙ m.1)))

pub returns : goal.returns
returns c chosen certificate f has judged same =
    let q = c.args.population in
    let merged = c.in_ok-is_image.ensures.0 c.if-not-branch.false in
    comes (the_schema q.types.now.names) chosen f (structure q.exchange.now)
    certificate c.args.judged.now judged (population_seen q) same c.in_ok-rows.rows c.in_ok-rows.ensures.rows
    c.in_ok-rows.ensures.population (merged.0, sym has ∙ merged.1) _ c.len-instances.ensures.length
    c.len-kept.ensures.length refl
