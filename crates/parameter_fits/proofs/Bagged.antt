-- Normal forms of the members of bags whose references stand for themselves.
use Rattle.std.proofs.Common.{◌≡◌, Bool, true, false, List, refl, sym, subst}
use Rattle.step_values.specs.declared.normal.Normal.{Normal}
use Rattle.step_values.specs.Values.{Values, is_crowd}
use Rattle.step_values.specs.LabelledValues.{placed, each_labelled}
use Rattle.step_values.specs.NormalForms.{AreNormal}
use Rattle.parameter_fits.specs.steps.Named.{itself, each_by_name}

placed-itself : (b : Bool) → placed b itself ≡ itself
placed-itself true = refl
placed-itself false = refl

-- a name stands for itself in a bag of any size
pub members_by_name : (vs : Values) (ms : List Normal) → AreNormal (each_by_name vs) ms
    → AreNormal (each_labelled (placed (is_crowd vs) itself) vs) ms
members_by_name vs ms h = subst (λ f. AreNormal (each_labelled f vs) ms) (sym (placed-itself (is_crowd vs))) h
