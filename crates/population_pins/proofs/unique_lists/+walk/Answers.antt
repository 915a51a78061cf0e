use Rattle.std.proofs.Common.{◌∙◌, sym, ap, subst, arith}
use Rattle.std.proofs.lemmas.Result.{on_ok_weaker}
use Rattle.step_values.proofs.Weights.{lighter}
use Rattle.step_values.specs.Views.{word_of}
use Rattle.schema_names.specs.Schemas.{the_schema}
use Rattle.schema_underlying_types.specs.BaseViews.{base_seen, aggregate_seen}
use Rattle.schema_underlying_types.specs.Tables.{IsNumberedBase}
use Rattle.population_pins.specs.steps.Elements.{Asks}
use Rattle.population_pins.proofs.WalkingElements.{in-typed, in-sequence, in-bag, in-elements, not-among, next, ends}
use Rattle.population_pins.proofs.unique_lists.+walk.Goals as goal

pub gather_in_each-returns-then-not-may_hold : goal.gather_in_each-returns-then-not-may_hold
gather_in_each-returns-then-not-may_hold t c d is =
    let s = the_schema c.args.bases.now.names.now in
    not-among s d Asks c.args.weak.now (base_seen s c.args.base) c.args.values.now
    (sym (c.may_hold.ensures d is) ∙ c.if-not-may_hold.true)

pub gather_in_each-gather_in_value-requires : goal.gather_in_each-gather_in_value-requires
gather_in_each-gather_in_value-requires t c =
    let less = lighter c.args.values.now c.loop-i.i c.at.result c.at.ensures in
    (omega (arith, less, c.decreases), (c.requires.bases, c.requires.numbered))

pub gather_in_each-loop-i-preserved : goal.gather_in_each-loop-i-preserved
gather_in_each-loop-i-preserved t c d is =
    let s = the_schema c.args.bases.now.names.now in
    next s d Asks (base_seen s c.args.base) c.args.values.now c.loop-i.i c.args.weak.now c.at.result
    c.loop-i.weak c.gather_in_value.new.weak c.at.ensures (c.loop-i.invariant d is) (c.in_ok-gather_in_value.ensures d is)

pub gather_in_each-returns : goal.gather_in_each-returns
gather_in_each-returns t c d is =
    let s = the_schema c.args.bases.now.names.now in
    let past = c.loop-i-test.false in
    let end = c.len-i-end.ensures in
    ends s d Asks (base_seen s c.args.base) c.args.values.now c.loop-i.i c.args.weak.now c.loop-i.weak
    (omega (arith, past, end)) (c.loop-i.invariant d is)

pub gather_in_elements-returns : goal.gather_in_elements-returns
gather_in_elements-returns t c d is =
    let s = the_schema c.args.bases.now.names.now in
    let a = c.in-Aggregate.aggregate in
    on_ok_weaker c.gather_in_each.result
    (in-elements s d Asks c.args.weak.now c.gather_in_each.new.weak (base_seen s c.args.base) (base_seen s c.of_number-element.result)
    (aggregate_seen s a) c.args.values.now (ap (base_seen s) c.in-Aggregate.is)
    (c.of_number-element.ensures.says (subst (IsNumberedBase s) c.in-Aggregate.is c.requires.numbered) d is))
    (c.gather_in_each.ensures d is)

pub gather_in_value-returns-in-Some : goal.gather_in_value-returns-in-Some
gather_in_value-returns-in-Some t c d is =
    let s = the_schema c.args.bases.now.names.now in
    on_ok_weaker c.gather_in_value.result
    (in-typed s d Asks c.args.weak.now c.gather_in_value.new.weak (base_seen s c.args.base) (base_seen s c.in-Some.within)
    (word_of c.in-Typed.word) c.in-Typed.inner c.args.value.now c.in-Typed.ensures (sym (c.in-Some.ensures.says d is)))
    (c.gather_in_value.ensures d is)

pub gather_in_value-returns-in_ok-gather_if_unique-in-Sequence : goal.gather_in_value-returns-in_ok-gather_if_unique-in-Sequence
gather_in_value-returns-in_ok-gather_if_unique-in-Sequence t c d is =
    let s = the_schema c.args.bases.now.names.now in
    on_ok_weaker c.gather_in_elements.result
    (in-sequence s d Asks c.args.weak.now c.gather_in_elements.new.weak (base_seen s c.args.base) c.in-Sequence.values
    c.args.value.now c.gather_if_unique.new.weak
    c.in-Sequence.ensures (c.in_ok-gather_if_unique-in-Sequence.ensures s))
    (c.gather_in_elements.ensures d is)

pub gather_in_value-returns-in-Bag : goal.gather_in_value-returns-in-Bag
gather_in_value-returns-in-Bag t c d is =
    let s = the_schema c.args.bases.now.names.now in
    on_ok_weaker c.gather_in_elements-in-Bag.result
    (in-bag s d Asks c.args.weak.now c.gather_in_elements-in-Bag.new.weak (base_seen s c.args.base) c.in-Bag.values c.args.value.now c.in-Bag.ensures)
    (c.gather_in_elements-in-Bag.ensures d is)
