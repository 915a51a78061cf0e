-- A map that respects pins tells apart what stands in keys and on the sides of inverse attributes.
use Rattle.std.specs.Prelude.{ℕ, List}
use Rattle.std.proofs.Common.{subst, inl, inr}
use Rattle.schema_semantics.specs.Names.{Among}
use Rattle.schema_semantics.proofs.Lists.{among-map}
use Rattle.conformance.specs.Populations.{Instance}
use Rattle.conformance.specs.RuleLaws.{names}
use Rattle.conformance.proofs.There.{pinned_are_there}
use Rattle.conformance.specs.MeaningImages.{IsInstanceName}
use Rattle.conformance.specs.MeaningLaws.{PinsTellApart}
use Rattle.conformance.proofs.Led.{at_name}

there : (is : List Instance) (y : ℕ) → IsInstanceName is y → Among y (names is)
there is y (x, e) =
    let known = at_name y is x e in
    subst (λ n. Among n (names is)) known.1 (among-map (λ (i : Instance). i.name) x is known.0)

pub pins_tell_apart : PinsTellApart
pins_tell_apart s d en rules chosen is h pinned closed pins apart = (
  λ y z n side e. apart y z (there is y n)
      (pinned_are_there s d en rules chosen is closed z (inl (inr (inr (inr side)))))
      (pins z (inr (inr (inr side)))) e,
  λ y z n key e. apart y z (there is y n)
      (pinned_are_there s d en rules chosen is closed z (inl (inr (inr (inl key)))))
      (pins z (inr (inr (inl key)))) e,
)
