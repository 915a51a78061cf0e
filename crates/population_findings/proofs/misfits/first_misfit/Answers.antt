use Rattle.std.proofs.Common.{◌≡◌, ◌∙◌, None, Some, Option, true, false, is_some, sym, refl}
use Rattle.schema_names.specs.Schemas.{the_schema}
use Rattle.schema_underlying_types.specs.BaseViews.{type_at, base_seen}
use Rattle.schema_underlying_types.specs.Tables.{NamesKnownType}
use Rattle.conformance.specs.declared.finding.FindingKind.{FindingKind}
use Rattle.population_findings.specs.steps.Judging.{target_by}
use Rattle.population_findings.proofs.Misfitting.{every-get, fits-next, misfit-next, types-end}
use Rattle.population_findings.proofs.misfits.first_misfit.Goals as goal

is-none : (o : Option FindingKind) → is_some o ≡ false → o ≡ None
is-none None e = refl
is-none (Some k) e = absurd (cc)

some-kind : (o : Option FindingKind) → is_some o ≡ true → (k : FindingKind) × (o ≡ Some k)
some-kind None e = absurd (cc)
some-kind (Some k) e = (k, refl)

pub returns-then-is_some : goal.returns-then-is_some
returns-then-is_some c = λ d en are known.
    let j = c.args.judge.now in
    let s = the_schema j.bases.names.now in
    let ns = c.args.data_types.now in
    let i = c.loop-number.number-index in
    let asks = c.of_number-base.ensures.says
    (every-get (λ k. NamesKnownType s (type_at s k)) ns i 0 known c.loop-number-test.true) d are.0 in
    let some = some-kind c.in_ok-found.found (sym c.is_some.ensures ∙ c.if-is_some.true) in
    sym (misfit-next s d en (target_by j) ns c.args.param.now i c.loop-number-test.true
    (base_seen s c.of_number-base.result) asks c.in_ok-found.found (c.in_ok-found.ensures d are.0) some.0 some.1)
    ∙ c.loop-number.invariant d en are known

pub loop-number-preserved : goal.loop-number-preserved
loop-number-preserved c = λ d en are known.
    let j = c.args.judge.now in
    let s = the_schema j.bases.names.now in
    let ns = c.args.data_types.now in
    let i = c.loop-number.number-index in
    let asks = c.of_number-base.ensures.says
    (every-get (λ k. NamesKnownType s (type_at s k)) ns i 0 known c.loop-number-test.true) d are.0 in
    sym (fits-next s d en (target_by j) ns c.args.param.now i c.loop-number-test.true
    (base_seen s c.of_number-base.result) asks c.in_ok-found.found (c.in_ok-found.ensures d are.0)
    (is-none c.in_ok-found.found (sym c.is_some.ensures ∙ c.if-is_some.false)))
    ∙ c.loop-number.invariant d en are known

pub returns : goal.returns
returns c = λ d en are known.
    let j = c.args.judge.now in
    sym (types-end (the_schema j.bases.names.now) d en (target_by j) c.args.data_types.now c.args.param.now
    c.loop-number.number-index c.loop-number-test.false) ∙ c.loop-number.invariant d en are known
