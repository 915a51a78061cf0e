-- When a strict choice refuses a schema.
use Rattle.std.specs.Prelude.{◌≡◌, ◌==◌, suc, Bool, true, false, not, List, [], ◌∷◌, length, MatchBool}
use Rattle.std.proofs.Common.{refl, sym, eqb-true, arith}
use Rattle.std.proofs.Math.Logic.{∥∥₁_elim}
use Rattle.express_syntax.specs.Schemas.{Schema}
use Rattle.schema_semantics.specs.Parts.{AreUnchecked}
use Rattle.schema_semantics.proofs.Listed.{unchecked-are-one}
use Rattle.schema_unchecked_declarations.specs.UncheckedLists.{unchecked_in}
use Rattle.schema_unchecked_declarations.specs.declared.list.Unchecked.{Unchecked}
use Rattle.shrinking.specs.Shrinking.{Passes}
use Rattle.shrinking.specs.steps.ComputedAnswers.{IsRefused}

none_in : (us : List Unchecked) → unchecked_in us ≡ [] → us ≡ []
none_in [] e = refl
none_in (u ∷ us) e = absurd (cc)

never : IsProp ⊥
never x y = absurd x

-- where all is checked, no part isn't
pub none_unchecked : (s : Schema) (us : List Unchecked) → ∥ AreUnchecked s [] ∥₁ → ∥ AreUnchecked s (unchecked_in us) ∥₁
    → (us ≡ [] → ⊥) → ⊥
none_unchecked s us h k some =
    ∥∥₁_elim h never (λ a. ∥∥₁_elim k never (λ b.
    some (none_in us (unchecked-are-one s (unchecked_in us) [] b a))))

pub refuses : (s : Schema) (strict : Bool) (us : List Unchecked) (is_empty : Bool) → strict ≡ true
    → is_empty ≡ (length us == 0) → ∥ AreUnchecked s (unchecked_in us) ∥₁
    → MatchBool (not is_empty) (IsRefused strict s) (Passes strict s)
refuses s strict [] true so e h = λ known. h
refuses s strict [] false so e h = absurd (cc)
refuses s strict (u ∷ us) true so e h =
    let none : suc (length us) ≡ 0 = eqb-true (suc (length us)) 0 (sym e) in absurd (omega (arith, none))
refuses s strict (u ∷ us) false so e h = (so, λ all. none_unchecked s (u ∷ us) all h (λ k. absurd (cc)))
