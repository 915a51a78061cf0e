-- Labels that replace references when values are compared, and agreement of values by labels.
use Rattle.std.specs.Prelude.{ℕ, ◌==◌, Bool, false, cond}
use Rattle.step_values.specs.declared.labels.Label.{Label}
use Rattle.step_values.specs.declared.labels.Label.TheVariants.{Name, Class}
use Rattle.step_values.specs.References.{renamed_each}
use Rattle.step_values.specs.Values.{Value, leaf, reference, typed, sequence, bag, Values, none, more, is_crowd, Agree, AgreeEach}

-- the label of a reference outside bags of more than one value, and the name of a reference inside
-- such a bag
pub record Labelling : Type 0 where
  pub outside : ℕ → Label
  pub inside : ℕ → ℕ

-- each reference y becomes the name h y
abbrev pub renaming : (ℕ → ℕ) → Labelling
renaming h = record { outside = λ y. Name (h y); inside = h }

-- whether two labels are equal
abbrev pub label_test : Label → Label → Bool
label_test (Name y) (Name z) = y == z
label_test (Class c) (Class d) = c == d
label_test _ _ = false

-- each reference y in a bag of more than one value, at any depth, replaced by h y
abbrev mutual
  pub renamed_in_bags : (ℕ → ℕ) → Value → Value
  renamed_in_bags h (leaf a) = leaf a
  renamed_in_bags h (reference y) = reference y
  renamed_in_bags h (typed n v) = typed n (renamed_in_bags h v)
  renamed_in_bags h (sequence vs) = sequence (each_renamed_in_bags h vs)
  renamed_in_bags h (bag vs) = bag (cond (is_crowd vs) (renamed_each h vs) (each_renamed_in_bags h vs))

  pub each_renamed_in_bags : (ℕ → ℕ) → Values → Values
  each_renamed_in_bags h none = none
  each_renamed_in_bags h (more v vs) = more (renamed_in_bags h v) (each_renamed_in_bags h vs)

-- whether two references outside bags of more than one value have equal labels
abbrev pub one_label : Labelling → Labelling → ℕ → ℕ → Bool
one_label f g y z = label_test (f.outside y) (g.outside z)

-- Values agree if references outside bags of more than one value have equal labels, and references
-- inside such bags have equal names.
abbrev pub AgreeBy : Labelling → Labelling → Value → Value → Type 0
AgreeBy f g v w = Agree (one_label f g) (renamed_in_bags f.inside v) (renamed_in_bags g.inside w)

abbrev pub AgreeEachBy : Labelling → Labelling → Values → Values → Type 0
AgreeEachBy f g vs ws = AgreeEach (one_label f g) (each_renamed_in_bags f.inside vs) (each_renamed_in_bags g.inside ws)
