-- The row of a form.
use Rattle.std.specs.Prelude.{◌≡◌, ℕ, zero, suc, List, [], ◌∷◌, map, Some, slice_get}
use Rattle.std.specs.List.{AllZip}
use Rattle.std.proofs.Common.{refl, ap, subst}
use Rattle.express_syntax.specs.Schemas.{Schema}
use Rattle.population_rows.specs.declared.form.Form.{Form}
use Rattle.conformance.specs.Rules.{InverseAttribute}
use Rattle.rule_sources.specs.declared.sources.NamedSource.{NamedSource}
use Rattle.rule_sources.specs.Sources.{AreNamedSources}

pub same-forms : (forms : List Form) → map (λ (x : Form). x) forms ≡ forms
same-forms [] = refl
same-forms (x ∷ forms) = ap (λ xs. x ∷ xs) (same-forms forms)

-- there is a form of which it is the row
pub form-of-number : (s : Schema) (inverses : List InverseAttribute) (forms : List Form) (rows : List (List NamedSource))
    → AllZip (AreNamedSources s inverses) forms rows → (n : ℕ) (row : List NamedSource) → slice_get rows n ≡ Some row
    → (x : Form) × (slice_get forms n ≡ Some x) × AreNamedSources s inverses x row
form-of-number s inverses [] [] h n row at = absurd (cc)
form-of-number s inverses [] (r ∷ rows) h n row at = elim h [ ]
form-of-number s inverses (x ∷ forms) [] h n row at = elim h [ ]
form-of-number s inverses (x ∷ forms) (r ∷ rows) h zero row at =
    let same : r ≡ row = cc in
    (x, refl, subst (AreNamedSources s inverses x) same h.0)
form-of-number s inverses (x ∷ forms) (r ∷ rows) h (suc n) row at = form-of-number s inverses forms rows h.1 n row at
