use Rattle.std.proofs.Common.{◌≤◌, ◌∙◌, ◌+◌, ◌++◌, sym, ap, subst, length, drop, take, map, arith}
use Rattle.std.proofs.Math.ListN.{drop_of_length-le}
use Rattle.step_records.specs.Cells.{all_of}
use Rattle.step_exchange.specs.Views.{record_in}
use Rattle.conformance.specs.Entities.{parameters}
use Rattle.schema_names.specs.Schemas.{the_schema}
use Rattle.population_reader.specs.steps.Making.{values_by, AreReady, found_by}
use Rattle.population_reader.proofs.Turns.{adds-all, adds-next, names-stay, none-by, partial-next, ready-cut, values-cut}
use Rattle.population_reader.proofs.instance_values.push_partials.Goals as goal

pub push_record-requires-clause-maker : goal.push_record-requires-clause-maker
push_record-requires-clause-maker c =
    let m = c.args.maker.now in
    let s = the_schema m.bases.names.now in
    names-stay m c.args.builder.now c.loop-i.builder
    (λ d. values_by s d c.args.slots.now (parameters (map record_in c.args.partials.now)))
    (λ d. values_by s d c.loop-i.left.now (parameters (map record_in (drop c.loop-i.i c.args.partials.now))))
    c.requires.maker c.loop-i.invariant.0

pub push_record-requires-clause-ready : goal.push_record-requires-clause-ready
push_record-requires-clause-ready c =
    let m = c.args.maker.now in
    let s = the_schema m.bases.names.now in
    let i = c.loop-i.i in
    let values = c.split-values.result.1 in
    let own = c.split-values.ensures.back ∙ ap (drop 1) c.parts.ensures in
    let first = partial-next c.args.partials.now i c.at.result values c.at.ensures own in
    let ready = ready-cut s (found_by m) c.loop-i.left.now values
    (parameters (map record_in (drop (i + 1) c.args.partials.now)))
    (subst (AreReady s (found_by m) c.loop-i.left.now) first c.loop-i.invariant.1) in
    subst (λ l. AreReady s (found_by m) l (all_of values))
    (sym (c.cut.ensures.front ∙ ap (λ n. take n c.loop-i.left.now) c.len.ensures)) ready.0

pub loop-i-preserved : goal.loop-i-preserved
loop-i-preserved c =
    let m = c.args.maker.now in
    let s = the_schema m.bases.names.now in
    let i = c.loop-i.i in
    let left = c.loop-i.left.now in
    let values = c.split-values.result.1 in
    let rest = parameters (map record_in (drop (i + 1) c.args.partials.now)) in
    let own = c.split-values.ensures.back ∙ ap (drop 1) c.parts.ensures in
    let first = partial-next c.args.partials.now i c.at.result values c.at.ensures own in
    let front = c.cut.ensures.front ∙ ap (λ n. take n left) c.len.ensures in
    let back = c.cut.ensures.back ∙ ap (λ n. drop n left) c.len.ensures in
    let ready = ready-cut s (found_by m) left values rest
    (subst (AreReady s (found_by m) left) first c.loop-i.invariant.1) in (
      adds-next m c.args.builder.now c.loop-i.builder c.push_record.new.builder
          (λ d. values_by s d c.args.slots.now (parameters (map record_in c.args.partials.now)))
          (λ d. values_by s d left (parameters (map record_in (drop i c.args.partials.now))))
          (λ d. values_by s d c.cut.result.0.now (all_of values)) (λ d. values_by s d c.cut.result.1.now rest)
          c.loop-i.invariant.0 c.in_ok-push_record.ensures
          (λ d. ap (values_by s d left) first ∙ values-cut s d left values rest
          ∙ (λ k. values_by s d (sym front k) (all_of values) ++ values_by s d (sym back k) rest)),
      subst (λ l. AreReady s (found_by m) l rest) (sym back) ready.1,
    )

pub returns : goal.returns
returns c =
    let m = c.args.maker.now in
    let s = the_schema m.bases.names.now in
    let i = c.loop-i.i in
    let left = c.loop-i.left.now in
    let le : length c.args.partials.now ≤ i = omega (arith, c.loop-i-test.false, c.len-i-end.ensures) in
    adds-all m c.args.builder.now c.loop-i.builder
    (λ d. values_by s d c.args.slots.now (parameters (map record_in c.args.partials.now)))
    (λ d. values_by s d left (parameters (map record_in (drop i c.args.partials.now)))) c.loop-i.invariant.0
    (λ d. ap (λ l. values_by s d left (parameters (map record_in l))) (drop_of_length-le c.args.partials.now le)
    ∙ none-by s d left)
