use Rattle.std.proofs.Common.{◌≤◌, ◌∙◌, ◌+◌, [], ◌∷◌, sym, ap, length, drop, arith}
use Rattle.std.proofs.Math.ListN.{drop_of_length-le}
use Rattle.step_records.specs.Cells.{all_of}
use Rattle.schema_names.specs.Schemas.{the_schema}
use Rattle.population_reader.specs.steps.Making.{value_by, values_by, found_by}
use Rattle.typed_populations.proofs.Turns.{drop-got, drop-item, drop-none}
use Rattle.population_reader.proofs.Turns.{adds-all, adds-next, names-stay, none-by, ready-next, value-next}
use Rattle.population_reader.proofs.instance_values.push_record.Goals as goal

pub returns-in_default : goal.returns-in_default
returns-in_default c =
    let m = c.args.maker.now in
    let s = the_schema m.bases.names.now in
    let over = drop-none c.args.values.now c.loop-i.i (sym c.item.ensures ∙ c.in_default.is) in
    adds-all m c.args.builder.now c.loop-i.builder (λ d. values_by s d c.args.slots.now (all_of c.args.values.now))
    (λ d. values_by s d (drop c.loop-i.i c.args.slots.now) (all_of (drop c.loop-i.i c.args.values.now)))
    c.loop-i.invariant.0
    (λ d. ap (λ l. values_by s d (drop c.loop-i.i c.args.slots.now) (all_of l)) over
    ∙ none-by s d (drop c.loop-i.i c.args.slots.now))

pub push_slot-requires-clause-maker : goal.push_slot-requires-clause-maker
push_slot-requires-clause-maker c =
    let m = c.args.maker.now in
    let s = the_schema m.bases.names.now in
    names-stay m c.args.builder.now c.loop-i.builder (λ d. values_by s d c.args.slots.now (all_of c.args.values.now))
    (λ d. values_by s d (drop c.loop-i.i c.args.slots.now) (all_of (drop c.loop-i.i c.args.values.now)))
    c.requires.maker c.loop-i.invariant.0

pub push_slot-requires-clause-ready : goal.push_slot-requires-clause-ready
push_slot-requires-clause-ready c =
    let m = c.args.maker.now in
    let i = c.loop-i.i in
    (ready-next (the_schema m.bases.names.now) c.args.slots.now c.args.values.now i c.index-slots-i.result
    c.in-Some.param (drop-got c.args.slots.now i c.index-slots-i.result c.loop-i-test.true c.index-slots-i.is)
    (drop-item c.args.values.now i c.in-Some.param (sym c.item.ensures ∙ c.in-Some.is)) (found_by m)
    c.loop-i.invariant.1).0

pub loop-i-preserved : goal.loop-i-preserved
loop-i-preserved c =
    let m = c.args.maker.now in
    let s = the_schema m.bases.names.now in
    let i = c.loop-i.i in
    let x = c.index-slots-i.result in
    let t = c.in-Some.param in
    let slots = drop-got c.args.slots.now i x c.loop-i-test.true c.index-slots-i.is in
    let values = drop-item c.args.values.now i t (sym c.item.ensures ∙ c.in-Some.is) in (
      adds-next m c.args.builder.now c.loop-i.builder c.push_slot.new.builder
          (λ d. values_by s d c.args.slots.now (all_of c.args.values.now))
          (λ d. values_by s d (drop i c.args.slots.now) (all_of (drop i c.args.values.now)))
          (λ d. value_by s d x t ∷ [])
          (λ d. values_by s d (drop (i + 1) c.args.slots.now) (all_of (drop (i + 1) c.args.values.now)))
          c.loop-i.invariant.0 c.in_ok-push_slot.ensures
          (value-next s c.args.slots.now c.args.values.now i x t slots values),
      (ready-next s c.args.slots.now c.args.values.now i x t slots values (found_by m) c.loop-i.invariant.1).1,
    )

pub returns : goal.returns
returns c =
    let m = c.args.maker.now in
    let s = the_schema m.bases.names.now in
    let i = c.loop-i.i in
    let le : length c.args.slots.now ≤ i = omega (arith, c.loop-i-test.false) in
    adds-all m c.args.builder.now c.loop-i.builder (λ d. values_by s d c.args.slots.now (all_of c.args.values.now))
    (λ d. values_by s d (drop i c.args.slots.now) (all_of (drop i c.args.values.now))) c.loop-i.invariant.0
    (λ d. ap (λ l. values_by s d l (all_of (drop i c.args.values.now))) (drop_of_length-le c.args.slots.now le))
