-- The inverse attributes of a form, number by number.
use Rattle.std.specs.Prelude.{◌≡◌, ℕ, ◌+◌, cond, List, ◌∷◌, length}
use Rattle.std.proofs.Common.{sym, ap, ◌∙◌, ◌<◌, drop, get_or, add-one}
use Rattle.graphs.specs.Graphs.{has}
use Rattle.population_rows.specs.declared.form.Form.{Form}
use Rattle.schema_constraints.specs.declared.inverses.InverseAttribute.{InverseAttribute}
use Rattle.population_inverses.specs.steps.Inverses.{numbers_by}
use Rattle.typed_populations.proofs.Turns.{drop-got}

-- one number more
pub next-number : (inverses : List InverseAttribute) (n : ℕ) (i : InverseAttribute) (x : Form) → n < length inverses
    → i ≡ get_or inverses n i
    → numbers_by (drop n inverses) n x
    ≡ cond (has x.types.items i.entity) (n ∷ numbers_by (drop (n + 1) inverses) (n + 1) x)
    (numbers_by (drop (n + 1) inverses) (n + 1) x)
next-number inverses n i x lt at =
    ap (λ l. numbers_by l n x) (drop-got inverses n i lt at)
    ∙ ap (λ m. cond (has x.types.items i.entity) (n ∷ numbers_by (drop (n + 1) inverses) m x)
    (numbers_by (drop (n + 1) inverses) m x)) (sym (add-one n))
