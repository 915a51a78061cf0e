-- The first side of a membership.
use Rattle.std.proofs.Common.{◌≡◌, true, cond, refl, ap, sym, ◌∙◌}
use Rattle.express_syntax.specs.declared.expression.Logical.{Logical}
use Rattle.express_syntax.specs.declared.expression.Logical.TheVariants.{Unknown}
use Rattle.express_logic.specs.declared.datum.Datum.{Datum}
use Rattle.express_logic.specs.declared.datum.Datum.TheVariants.{Indeterminate}
use Rattle.express_logic.specs.Comparison.{Scalar, scalar, among, member}
use Rattle.express_logic.specs.Data.{aggregate, Shape, Data, is_known}
use Rattle.express_logic.specs.Data as data_of
use Rattle.express_logic.specs.Holdings.{Holding}
use Rattle.express_logic.specs.steps.Steps.{among_scalars}
use Rattle.express_logic.specs.Views.{datum_of}
use Rattle.express_logic.proofs.Walks.{among_is}

-- only an indeterminate value isn't known
pub known_is : {V : Type 0} (held : V → Holding) (x : Datum V) → (x ≡ Indeterminate → ⊥) → is_known (datum_of held x) ≡ true
known_is held Indeterminate n = absurd (n refl)
known_is held _ n = refl

pub member_is : (d : data_of.Datum) (s : Shape) (es : Data) (b : Scalar) (r : Logical) → is_known d ≡ true → b ≡ scalar d
    → r ≡ among_scalars b es → r ≡ member d (aggregate s es)
member_is d s es b r k e h =
    h ∙ ap (λ x. among_scalars x es) e ∙ among_is d es ∙ sym (ap (λ t. cond t (among d es) Unknown) k)
