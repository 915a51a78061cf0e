-- The laws of agreement, and of cells.
use Rattle.std.specs.Prelude.{◌≡◌, ◌==◌, ◌↔◌, true, List}
use Rattle.std.specs.Cmp.Lexicographic.{pointwise}
use Rattle.parsing.specs.Nodes.{AsksChildrenAlone}
use Rattle.step_values.specs.declared.normal.Normal.{Normal}
use Rattle.step_values.specs.Cells.{value_nodes}
use Rattle.step_values.specs.AgreementTests.{same_test, same_each_test}
use Rattle.step_values.specs.NormalForms.{IsNormal, AreNormal, AreSorted, normal_eq}
use Rattle.step_values.specs.LabelledValues.{labelled, each_labelled, placed}
use Rattle.step_values.specs.Labels.{Labelling, AgreeBy, AgreeEachBy}
use Rattle.step_values.specs.Values.{Value, bag, Values, is_crowd, Agree, AgreeEach}

-- The tests of values and of lists of values decide agreement, if each reference agrees with itself
-- alone.
abbrev pub TestsDecideAgreement : Type 0
TestsDecideAgreement = ((v w : Value) → (same_test v w ≡ true) ↔ Agree (◌==◌) v w)
    × ((vs ws : Values) → (same_each_test vs ws ≡ true) ↔ AgreeEach (◌==◌) vs ws)

-- Normal forms as `normal_form` returns them are equal exactly if the values agree according to the
-- labels of their references. The second part is about lists of values (`normal_forms`), the third
-- about bags (`sorted_forms`).
abbrev pub NormalFormsDecideAgreement : Type 0
NormalFormsDecideAgreement = ((f g : Labelling) (v w : Value) (m n : Normal) → IsNormal (labelled f v) m
    → IsNormal (labelled g w) n → (normal_eq m n ≡ true) ↔ AgreeBy f g v w)
    × ((f g : Labelling) (vs ws : Values) (ms ns : List Normal) → AreNormal (each_labelled f vs) ms
    → AreNormal (each_labelled g ws) ns → (pointwise normal_eq ms ns ≡ true) ↔ AgreeEachBy f g vs ws)
    × ((f g : Labelling) (vs ws : Values) (ms ns : List Normal)
    → AreSorted (each_labelled (placed (is_crowd vs) f) vs) ms
    → AreSorted (each_labelled (placed (is_crowd ws) g) ws) ns → (pointwise normal_eq ms ns ≡ true) ↔ AgreeBy f g (bag vs) (bag ws))

-- The value of a cell depends only on the values directly inside it.
abbrev pub CellsAskTheirChildren : Type 0
CellsAskTheirChildren = AsksChildrenAlone value_nodes
