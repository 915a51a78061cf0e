use Rattle.std.proofs.Common.{◌≡◌, Ok, Err, sym, subst}
use Rattle.std.proofs.lemmas.Result.{err_from_is_err_and}
use Rattle.step_exchange.specs.Exchanges.{structure}
use Rattle.schema_names.specs.Schemas.{the_schema}
use Rattle.typed_populations.specs.PopulationViews.{population_seen}
use Rattle.conformance.specs.Findings.{findings}
use Rattle.typed_populations.specs.TypedPopulations.{IsTyped}
use Rattle.population_reader.specs.Verdicts.{IsVerdict}
use Rattle.verifying.specs.steps.ComputedPassing.{AnswersTyped}
use Rattle.verifying.proofs.Answering.{refused, proved}
use Rattle.verifying.proofs.output.verify_image.Goals as goal

pub returns-in_err-verdict : goal.returns-in_err-verdict
returns-in_err-verdict c schema input output certificate header_bytes choice f has settles reads judged out =
    let p = err_from_is_err_and c.from_residual.result c.from_residual.ensures.1 in
    rw (p.1, p.2) tt

pub returns-in_err-proof-in-Typed : goal.returns-in_err-proof-in-Typed
returns-in_err-proof-in-Typed c schema input output certificate header_bytes choice f has settles reads judged out =
    let types = c.args.types.now in
    let s = the_schema types.names in
    let hs = c.args.headings.now in
    let g = structure c.args.image.now in
    let j = c.args.judged.now in
    let q = c.in-Typed.population in
    let e = c.in_err-proof-in-Typed.field-0.0 in
    let (same, image, typed) = subst (IsVerdict types c.args.image.now) c.in-Typed.is c.in_ok-verdict.ensures in
    let h : AnswersTyped s hs j g (population_seen q) (Err e) =
    subst (λ x. AnswersTyped s hs j (structure x) (population_seen q) (Err e)) image
    (subst (λ t. AnswersTyped (the_schema t.names) hs j (structure q.exchange.now) (population_seen q) (Err e))
    same c.in_err-proof-in-Typed.ensures) in
    let p = err_from_is_err_and c.from_residual-in_err-proof-in-Typed.result c.from_residual-in_err-proof-in-Typed.ensures.1 in
    rw (p.1, p.2) (refused schema input output certificate choice s settles.0 f reads j judged header_bytes g out
    (population_seen q) (subst (λ l. IsTyped s l g (population_seen q)) (sym settles.1) typed) hs has e h)

pub returns-in_ok-proof-in-Typed : goal.returns-in_ok-proof-in-Typed
returns-in_ok-proof-in-Typed c schema input output certificate header_bytes choice f has settles reads judged out =
    let types = c.args.types.now in
    let s = the_schema types.names in
    let hs = c.args.headings.now in
    let g = structure c.args.image.now in
    let j = c.args.judged.now in
    let q = c.in-Typed.population in
    let p = c.in_ok-proof-in-Typed.proof in
    let (same, image, typed) = subst (IsVerdict types c.args.image.now) c.in-Typed.is c.in_ok-verdict.ensures in
    let h : AnswersTyped s hs j g (population_seen q) (Ok p) =
    subst (λ x. AnswersTyped s hs j (structure x) (population_seen q) (Ok p)) image
    (subst (λ t. AnswersTyped (the_schema t.names) hs j (structure q.exchange.now) (population_seen q) (Ok p))
    same c.in_ok-proof-in-Typed.ensures) in
    proved schema input output certificate choice s settles.0 f reads j judged header_bytes g out (population_seen q)
    (subst (λ l. IsTyped s l g (population_seen q)) (sym settles.1) typed) hs has c.checks_prove.ensures p h

pub returns-in-Faulty : goal.returns-in-Faulty
returns-in-Faulty c schema input output certificate header_bytes choice f has settles reads judged out =
    let types = c.args.types.now in
    let g = structure c.args.image.now in
    let (functions, all, some) = subst (IsVerdict types c.args.image.now) c.in-Faulty.is c.in_ok-verdict.ensures in (
      the_schema types.names,
      settles.0,
      (
        f,
        reads,
        (
          header_bytes,
          g,
          out,
          (λ said. subst (λ l. c.in-Faulty.findings.items ≡ findings (the_schema types.names) said.domain said.entities l g)
              (sym settles.1) (all said.domain said.entities said.is_domain said.are_entities)),
          some,
          c.new.ensures.items,
        ),
      ),
    )
