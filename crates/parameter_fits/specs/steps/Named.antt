-- Values whose references are represented by instance names.
use Rattle.step_values.specs.LabelledValues.{labelled, each_labelled}
use Rattle.step_values.specs.Labels.{Labelling, renaming}
use Rattle.step_values.specs.Values.{Value, Values}

abbrev pub itself : Labelling
itself = renaming (λ y. y)

abbrev pub by_name : Value → Value
by_name v = labelled itself v

abbrev pub each_by_name : Values → Values
each_by_name vs = each_labelled itself vs
