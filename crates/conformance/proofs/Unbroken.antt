-- An image that respects pins breaks no rule.
use Rattle.conformance.specs.MeaningImages.{IsKept}
use Rattle.conformance.specs.MeaningLaws.{ImagesBreakNoRule}
use Rattle.conformance.proofs.Bounded.{inverse_bounds_stay}
use Rattle.conformance.proofs.Keyed.{keys_stay_unique}
use Rattle.conformance.proofs.Outcomes.{no_breach_in_images}
use Rattle.conformance.proofs.PinnedSides.{pins_tell_apart}
use Rattle.conformance.proofs.Referring.{inverse_values_are_led}

pub images_break_no_rule : ImagesBreakNoRule
images_break_no_rule s d en rules chosen attributes are domain_rules is js h pinned one other to onto pins apart
    keys bounds holds =
    let told = pins_tell_apart s d en rules chosen is h pinned to.closed pins apart in
    let keeps : IsKept rules.inverses is js h = record {
      instances_led = to;
      referrers_led = inverse_values_are_led rules.inverses is js h one other to onto told.0;
    } in (
      keys_stay_unique rules is js h other to onto told.1 keys,
      inverse_bounds_stay rules is js h keeps onto bounds,
      no_breach_in_images s d en rules.inverses attributes are domain_rules is js h keeps onto holds,
    )
