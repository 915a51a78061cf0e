-- There is a function that says how derived attributes are computed.
use Rattle.std.specs.Prelude.{◌≡◌, ℕ, List, Option, None, Some, length, slice_get, option_map}
use Rattle.std.specs.Option.{option_flatten}
use Rattle.std.proofs.Common.{refl, inr, sym, ◌∙◌}
use Rattle.express_syntax.specs.Schemas.{Schema, entity, Derived}
use Rattle.schema_semantics.specs.Names.{Name}
use Rattle.schema_semantics.specs.Attributes.{Derivation, IsDerivation}
use Rattle.schema_names.specs.Numbers.{number_of}
use Rattle.schema_names.proofs.Numbers.{each-number}
use Rattle.schema_derived_attributes.specs.Firsts.{AreFirsts}
use Rattle.conformance.specs.Attributes as meanings
use Rattle.conformance.specs.Attributes.{IsFormula}
use Rattle.schema_derived_attributes.specs.declared.formula.Formula.{Formula}
use Rattle.schema_derived_attributes.specs.Formulas.{formula_seen, formula_place, AreFormulas}
use Rattle.schema_derived_attributes.proofs.Placed.{asked-formula}

module _ (s : Schema) (table : List (Option Formula)) (t : AreFormulas s table) (firsts : List ℕ)
    (f : AreFirsts s firsts) where
  -- what isn't declared has none
  undeclared : (e : Name) (n : ℕ) → number_of s e ≡ None → (x : Derived) → IsDerivation s (e, n) x → ⊥
  undeclared e n none x (y, at, nth) =
      let (i, k) = each-number 0 s.declarations e (entity y) at in lacks i (sym none ∙ k)
    where
      lacks : (i : ℕ) → None ≡ Some i → ⊥
      lacks i e = cc

  some-formula : (e : Name) (n : ℕ) → (o : Option meanings.Formula) × IsFormula s (e, n) o
  some-formula e n = by (number_of s e) refl
    where
      by : (o : Option ℕ) → number_of s e ≡ o → (p : Option meanings.Formula) × IsFormula s (e, n) p
      by None none = (None, inr (undeclared e n none))
      by (Some i) k = (
        option_map formula_seen (option_flatten (slice_get table (formula_place firsts (length table) i n))),
        asked-formula s table t firsts f e i n k,
      )

  pub formulas-said : (formula : Derivation → Option meanings.Formula)
      × ((e : Derivation) → IsFormula s e (formula e))
  formulas-said = ((λ d. (some-formula d.0 d.1).0), (λ d. (some-formula d.0 d.1).1))
