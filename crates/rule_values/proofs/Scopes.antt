-- One variable more, and one less.
use Rattle.std.proofs.Common.{◌≡◌, ◌<◌, ◌-◌, suc, take, length, arith, ℕ, true, false, List, [], ◌∷◌, ◌++◌, refl, ap, sym, ◌∙◌}
use Rattle.std.specs.Prelude.{if◌then◌else◌, Some, bytes_eq}
use Rattle.schema_semantics.specs.Names.{Name}
use Rattle.express_syntax.specs.ExpressionViews.{capitals}
use Rattle.conformance.specs.Expressions as expressions
use Rattle.conformance.specs.Expressions.{variable}
use Rattle.rule_values.specs.declared.variables.Variable.{Variable}
use Rattle.rule_values.specs.Parts.{element_datum}
use Rattle.rule_values.specs.steps.Scopes.{variable_of, variables_from, variables_of}

variables_last : (outer : List expressions.Variable) (vs : List Variable) (v : Variable)
    → variables_from outer (vs ++ v ∷ []) ≡ variable_of v ∷ variables_from outer vs
variables_last outer [] v = refl
variables_last outer (w ∷ vs) v = variables_last (variable_of w ∷ outer) vs v

pub variables_pushed : (vs : List Variable) (v : Variable)
    → variables_of (vs ++ v ∷ []) ≡ variable_of v ∷ variables_of vs
variables_pushed vs v = variables_last [] vs v

pub found_last : (n : Name) (all others : List Variable) (v : Variable) → all ≡ others ++ v ∷ []
    → true ≡ bytes_eq n (capitals v.name) → variable (variables_of all) n ≡ Some (element_datum v.value)
found_last n all others v e h =
    ap (λ vs. variable (variables_of vs) n) e ∙ ap (λ vs. variable vs n) (variables_pushed others v)
    ∙ ap (λ b. if b then Some (element_datum v.value) else variable (variables_of others) n) (sym h)

pub passed_last : (n : Name) (all others : List Variable) (v : Variable) → all ≡ others ++ v ∷ []
    → false ≡ bytes_eq n (capitals v.name) → variable (variables_of all) n ≡ variable (variables_of others) n
passed_last n all others v e h =
    ap (λ vs. variable (variables_of vs) n) e ∙ ap (λ vs. variable vs n) (variables_pushed others v)
    ∙ ap (λ b. if b then Some (element_datum v.value) else variable (variables_of others) n) (sym h)

some_pushed : {A : Type 0} (xs : List A) (v : A) → 0 < length (xs ++ v ∷ [])
some_pushed [] v = omega arith
some_pushed (x ∷ xs) v = omega (arith, some_pushed xs v)

dropped : {A : Type 0} (xs : List A) (v : A) → take (length (xs ++ v ∷ []) - 1) (xs ++ v ∷ []) ≡ xs
dropped [] v = refl
dropped (x ∷ xs) v =
    let some = some_pushed xs v in
    let less : suc (length (xs ++ v ∷ [])) - 1 ≡ suc (length (xs ++ v ∷ []) - 1) = omega (arith, some) in
    ap (λ n. take n (x ∷ (xs ++ v ∷ []))) less ∙ ap (λ ys. x ∷ ys) (dropped xs v)

pub popped : {A : Type 0} (e : List A) (n : ℕ) (old ys : List A) (v : A) → e ≡ old ++ v ∷ [] → n ≡ length e
    → ys ≡ take (n - 1) e → ys ≡ old
popped e n old ys v h k g =
    g ∙ (ap (λ m. take (m - 1) e) k ∙ (ap (λ xs. take (length xs - 1) xs) h ∙ dropped old v))
