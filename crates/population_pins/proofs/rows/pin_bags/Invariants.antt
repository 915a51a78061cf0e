use Rattle.std.proofs.Common.{drop}
use Rattle.express_syntax.specs.Schemas.{Schema}
use Rattle.schema_semantics.specs.Names.{OneOf}
use Rattle.conformance.specs.Populations.{Slot}
use Rattle.conformance.specs.CollectionMembers.{InBag}
use Rattle.typed_populations.specs.Rows.{slots_seen}
use Rattle.step_values.proofs.Walks.{after}
use Rattle.population_pins.specs.steps.Pinning.{PinsUpTo}
use Rattle.population_pins.proofs.rows.pin_bags.Given as goal

abbrev pub invariant-loop-i : goal.invariant-loop-i
invariant-loop-i l =
    (s : Schema) → PinsUpTo (λ y. OneOf (λ (x : Slot). InBag l.in_sets y x.value) (slots_seen s l.slots l.values))
    (λ y. OneOf (λ (x : Slot). InBag l.in_sets y x.value) (slots_seen s (drop l.i l.slots) (after l.i l.values))) l.fn.pinned
    l.pinned
