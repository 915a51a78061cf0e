use Rattle.std.specs.Prelude.{IsTrue}
use Rattle.conformance.proofs.PinnedElements.{instance_kept_apart}
use Rattle.conformance.proofs.value_laws.keeps_apart_what_stands_together.Goals as goal

pub returns : goal.returns
returns c = λ s d en h pinned in_sets one i f g. instance_kept_apart s d h in_sets (λ y. IsTrue (pinned y)) one en i f g
