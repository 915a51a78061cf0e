use Rattle.step_values.specs.Values.{bag, is_crowd}
use Rattle.step_values.specs.LabelledValues.{labelled, each_labelled, placed, same_by, same_each_by}
use Rattle.std.proofs.Common.{◌∙◌}
use Rattle.step_values.proofs.Labelled.{same_labelled, same_each_labelled, same_decides, same_each_decides, decided}
use Rattle.step_values.proofs.NormalForms.{forms_same, lists_same, sorted_same}
use Rattle.step_values.proofs.laws.normal_forms_decide_agreement.Goals as goal

pub returns : goal.returns
returns c = (
  λ f g v w m n p q. decided _ (same_by f g v w) (same_decides f g v w) (forms_same (labelled f v) (labelled g w) m n p
      q ∙ same_labelled f g v w),
  λ f g vs ws ms ns p q. decided _ (same_each_by f g vs ws) (same_each_decides f g vs ws)
      (lists_same (each_labelled f vs) (each_labelled g ws) ms ns p q ∙ same_each_labelled f g vs ws),
  λ f g vs ws ms ns p q. decided _ (same_by f g (bag vs) (bag ws)) (same_decides f g (bag vs) (bag ws))
      (sorted_same (each_labelled (placed (is_crowd vs) f) vs) (each_labelled (placed (is_crowd ws) g) ws) ms ns p q
      ∙ same_labelled f g (bag vs) (bag ws)),
)
