-- What the code computes; no promise stands here. The labels for normal forms of values.
use Rattle.step_values.specs.declared.labels.Label.TheVariants.{Class}
use Rattle.step_values.specs.Labels.{Labelling}

-- all references outside bags of more than one value have one label; references inside such bags
-- keep their names
abbrev pub of_one_class : Labelling
of_one_class = record { outside = λ _. Class 0; inside = λ y. y }
