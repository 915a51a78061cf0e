-- Keys agree exactly where their normal forms are the same.
use Rattle.std.specs.Prelude.{◌≡◌, ◌&&◌, List, [], ◌∷◌}
use Rattle.std.specs.Ordering.{is_eq, ordering_reverse}
use Rattle.std.specs.declared.cmp.Ordering.{Ordering}
use Rattle.std.specs.declared.cmp.Ordering.TheVariants.{Less, Equal, Greater}
use Rattle.std.proofs.Common.{refl, sym, ◌∙◌, ap}
use Rattle.step_values.specs.declared.normal.Normal.{Normal}
use Rattle.step_values.specs.contracts.normal.NormalOrd.TheImpl.Laws as orders
use Rattle.step_values.specs.AgreementTests.{same_each_test}
use Rattle.step_values.specs.NormalForms.{AreNormal, normal_eq, normal_cmp}
use Rattle.step_values.specs.References.{renamed_each}
use Rattle.step_values.specs.Values.{Values}
use Rattle.step_values.proofs.Labelled.{same_each_labelled, same_each_renamed}
use Rattle.step_values.proofs.NormalForms.{lists_same}
use Rattle.step_values.proofs.Renaming.{each_renamed_itself}
use Rattle.parameter_fits.specs.steps.Named.{itself, each_by_name}
use Rattle.population_uniqueness.specs.steps.Keys.{same_forms}

pub forms_agree : (vs ws : Values) (ms ns : List Normal) → AreNormal (each_by_name vs) ms → AreNormal (each_by_name ws) ns
    → same_forms ms ns ≡ same_each_test vs ws
forms_agree vs ws ms ns p q =
    let alike = each_renamed_itself (λ y. y) (λ y. refl) in
    lists_same (each_by_name vs) (each_by_name ws) ms ns p q ∙ same_each_labelled itself itself vs ws
    ∙ same_each_renamed (λ y. y) (λ y. y) vs ws
    ∙ ap (λ us. same_each_test us (renamed_each (λ y. y) ws)) (alike vs) ∙ ap (same_each_test vs) (alike ws)

-- which of two comes first says nothing

equal_turned : (r : Ordering) → is_eq (ordering_reverse r) ≡ is_eq r
equal_turned Less = refl
equal_turned Equal = refl
equal_turned Greater = refl

form_turned : (m n : Normal) → normal_eq m n ≡ normal_eq n m
form_turned m n =
    orders.matches_eq-law m n ∙ ap is_eq (orders.total-law.antisymm m n) ∙ equal_turned (normal_cmp n m)
    ∙ sym (orders.matches_eq-law n m)

pub forms_turned : (ms ns : List Normal) → same_forms ms ns ≡ same_forms ns ms
forms_turned [] [] = refl
forms_turned [] (n ∷ ns) = refl
forms_turned (m ∷ ms) [] = refl
forms_turned (m ∷ ms) (n ∷ ns) =
    ap (λ b. b && same_forms ms ns) (form_turned m n) ∙ ap (λ b. normal_eq n m && b) (forms_turned ms ns)
