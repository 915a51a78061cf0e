use Rattle.std.proofs.Common.{arith, ◌≡◌, ◌%◌, ◌^◌, refl, ap, ◌∙◌, length-append}
use Rattle.step_literals.specs.steps.Digits.{digits_of}
use Rattle.step_literals.specs.steps.DigitStrings.{front_value}
use Rattle.step_literals.proofs.DigitSlices.{slice_of_whole, slice_of_part, slices_value, zero_more}
use Rattle.step_literals.proofs.literal.decimals.Digits.front_value.Goals as goal

pub value_behind-requires : goal.value_behind-requires
value_behind-requires c = let d = c.args.self.now in slice_of_whole d.whole.now d.part.now _ _ d.significant
    c.split_at.ensures.front

pub value_behind-value-requires : goal.value_behind-value-requires
value_behind-value-requires c = let d = c.args.self.now in slice_of_part d.whole.now d.part.now _ _ d.significant
    c.split_at-2.ensures.front

pub loop-place-init : goal.loop-place-init
loop-place-init c =
    let d = c.args.self.now in record {
      value = slices_value d.whole.now d.part.now _ _ _ _ _ c.min.ensures c.split_at.ensures.front c.min-2.ensures
          c.split_at-2.ensures.front c.split_at.ensures.front_len c.split_at-2.ensures.front_len _ _ _
          c.value_behind.ensures c.value_behind-value.ensures refl;
      within = omega arith;
      past = λ lt. omega (arith, lt, length-append d.whole.now d.part.now);
    }

pub loop-place-preserved : goal.loop-place-preserved
loop-place-preserved c =
    let past = c.loop-place.invariant.past c.loop-place-test.true in record {
      value = zero_more (digits_of c.args.self.now) c.loop-place.value c.loop-place.place past
          c.loop-place.invariant.value;
      within = omega (arith, c.loop-place-test.true);
      past = λ lt. omega (arith, past);
    }

pub returns : goal.returns
returns c =
    let e : c.loop-place.place ≡ c.args.len = omega (
      arith,
      c.loop-place.invariant.within,
      c.loop-place-test.false,
    ) in
    c.loop-place.invariant.value ∙ ap (λ k. front_value k (digits_of c.args.self.now) % 2 ^ 64) e
