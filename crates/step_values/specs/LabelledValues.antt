-- What the code computes: values whose references are replaced by labels, and their agreement as a
-- test.
use Rattle.std.specs.Prelude.{ℕ, suc, ◌+◌, Bool, true, false}
use Rattle.step_values.specs.declared.labels.Label.{Label}
use Rattle.step_values.specs.declared.labels.Label.TheVariants.{Name, Class}
use Rattle.step_values.specs.AgreementTests.{agree_by, agree_each_by}
use Rattle.step_values.specs.Labels.{Labelling, one_label, renamed_in_bags, each_renamed_in_bags}
use Rattle.step_values.specs.Values.{Value, leaf, reference, typed, sequence, bag, Values, none, more, is_crowd}

-- labels as numbers, even for a name, odd for a class
abbrev pub code : Label → ℕ
code (Name y) = y + y
code (Class c) = suc (c + c)

-- the labelling inside bags of more than one value: each reference becomes a name
abbrev pub within : Labelling → Labelling
within f = record { outside = λ y. Name (f.inside y); inside = f.inside }

-- the labelling inside such a bag (true) or outside (false)
abbrev pub placed : Bool → Labelling → Labelling
placed true f = within f
placed false f = f

-- each reference replaced by the number of its label
abbrev mutual
  pub labelled : Labelling → Value → Value
  labelled f (leaf a) = leaf a
  labelled f (reference y) = reference (code (f.outside y))
  labelled f (typed n v) = typed n (labelled f v)
  labelled f (sequence vs) = sequence (each_labelled f vs)
  labelled f (bag vs) = bag (each_labelled (placed (is_crowd vs) f) vs)

  pub each_labelled : Labelling → Values → Values
  each_labelled f none = none
  each_labelled f (more v vs) = more (labelled f v) (each_labelled f vs)

-- Whether two values agree according to the labels of their references. For lists of values,
-- `same_each_by` compares position by position.
abbrev pub same_by : Labelling → Labelling → Value → Value → Bool
same_by f g v w = agree_by (one_label f g) (renamed_in_bags f.inside v) (renamed_in_bags g.inside w)

abbrev pub same_each_by : Labelling → Labelling → Values → Values → Bool
same_each_by f g vs ws =
    agree_each_by (one_label f g) (each_renamed_in_bags f.inside vs) (each_renamed_in_bags g.inside ws)
