-- The least of some logicals, the last first.
use Rattle.std.specs.Prelude.{◌≡◌, ◌<◌, ℕ, List, [], ◌∷◌, ◌++◌, map}
use Rattle.std.proofs.Common.{refl, ap, ◌∙◌}
use Rattle.express_syntax.specs.declared.expression.Logical.{Logical}
use Rattle.express_syntax.specs.declared.expression.Logical.TheVariants.{False, Unknown, True}
use Rattle.express_logic.specs.Logic.{both}
use Rattle.express_logic.specs.Data.{instance}
use Rattle.conformance.specs.DomainFindings.{least}
use Rattle.rule_values.specs.declared.element.Element.TheVariants as elements
use Rattle.rule_values.specs.Parts.{element_datum}

-- the least of these logicals and a last one
abbrev pub least_with : List Logical → Logical → Logical
least_with [] q = q
least_with (p ∷ ps) q = both p (least_with ps q)

pub with-last : (ps : List Logical) (p q : Logical) → least_with (ps ++ p ∷ []) q ≡ least_with ps (both p q)
with-last [] p q = refl
with-last (o ∷ ps) p q = ap (both o) (with-last ps p q)

pub with-true : (ps : List Logical) → least_with ps True ≡ least ps
with-true [] = refl
with-true (p ∷ ps) = ap (both p) (with-true ps)

pub map-last : {A B : Type 0} (f : A → B) (xs : List A) (x : A) → map f (xs ++ x ∷ []) ≡ map f xs ++ f x ∷ []
map-last f [] x = refl
map-last f (y ∷ xs) x = ap (λ l. f y ∷ l) (map-last f xs x)

pub least-one : (p : Logical) → least (p ∷ []) ≡ p
least-one False = refl
least-one Unknown = refl
least-one True = refl

pub instance-worth : (n : ℕ) → element_datum (elements.Instance n) ≡ instance n
unfolding element_datum
instance-worth n = refl
