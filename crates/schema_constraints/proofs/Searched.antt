-- Explicit attributes that a search finds.
use Rattle.std.specs.Prelude.{◌≡◌, ℕ, true, false, List, Option, None, Some, IfSome, slice_get}
use Rattle.std.proofs.Common.{ap, sym, subst, ◌∙◌}
use Rattle.step_literals.specs.declared.literal.Word.{Word}
use Rattle.express_syntax.specs.ExpressionViews.{capitals}
use Rattle.express_syntax.specs.Schemas.{Schema, Declaration}
use Rattle.express_syntax.specs.Views.{if_some}
use Rattle.schema_semantics.specs.Names.{Name, DeclaresExplicit, declared_name}
use Rattle.schema_semantics.specs.Faults.{IsResolved}
use Rattle.schema_semantics.specs.Attributes.{Place}
use Rattle.schema_semantics.proofs.Placed.{is-same}
use Rattle.schema_names.specs.Numbers.{HasNumber, IsAt}
use Rattle.schema_names.proofs.Numbers.{what-stands}
use Rattle.schema_explicit_attributes.specs.declared.own_attributes.Meant.TheVariants.{Explicit}
use Rattle.schema_explicit_attributes.specs.steps.Owned.{declares_at}
use Rattle.schema_explicit_attributes.specs.Places.{all_places}
use Rattle.schema_explicit_attributes.proofs.Having.{declared-back}
use Rattle.schema_redeclarations.specs.Uses.{HasPlace}
use Rattle.schema_redeclarations.proofs.OwnRows.{one-at}
use Rattle.schema_constraints.specs.steps.Making.{IsNumberOf}
use Rattle.schema_constraints.specs.steps.Ordered.{is_place, IsPlaceAt}
use Rattle.schema_constraints.proofs.Placing.{place-declared}

pub place-is : (all : List Place) (p : Place) (q : ℕ) → IsPlaceAt all p q → slice_get all q ≡ Some p
place-is all p q t = by (slice_get all q) t
  where
    by : (o : Option Place) → is_place p o ≡ true → o ≡ Some p
    by None t = absurd (cc)
    by (Some x) t = ap Some (is-same x p t)

-- the name of what is declared at a number
pub name-told : (s : Schema) (i : ℕ) (o : Option Word)
    → ((d : Declaration) → IsAt s i d → if_some capitals o ≡ declared_name d)
    → IfSome o (λ w. (p : Name) → HasNumber s p i → capitals w ≡ p)
name-told s i None told = tt
name-told s i (Some w) told = by
  where
    by : (p : Name) → HasNumber s p i → capitals w ≡ p
    by p k =
        let (d, at, named) = what-stands s p i k in
        let same : Some (capitals w) ≡ Some p = told d at ∙ named in cc

-- a number that a search finds is that of a place
pub searched-is : (s : Schema) (all : List Place) (i : ℕ) (w a : Name) → all ≡ all_places s
    → ((p : Name) → HasNumber s p i → w ≡ p) → (o : Option ℕ) → IfSome o (IsPlaceAt all (w, a))
    → IfSome o (λ q. (p : Name) → HasNumber s p i → HasPlace s (p, a) q)
searched-is s all i w a is named None found = tt
searched-is s all i w a is named (Some q) found =
    λ p k. ap (λ ps. slice_get ps q) (sym is) ∙ place-is all (w, a) q found ∙ (λ j. Some (named p k j, a))

module _ (s : Schema) (r : IsResolved s) (p a : Name) where
  pub number-found : (q : ℕ) → HasPlace s (p, a) q → IsNumberOf s (p, a) (Some q)
  number-found q at x = ((λ e. subst (HasPlace s (p, a)) (same e) at), (λ there. ap Some (one-at s r (p, a) q x at there)))
    where
      same : Some q ≡ Some x → q ≡ x
      same e = cc

  pub number-missing : (i : ℕ) → HasNumber s p i → declares_at s Explicit a i ≡ false → IsNumberOf s (p, a) None
  number-missing i k none x = ((λ e. absurd (cc)), (λ at. absurd (lacks (place-declared s r p a x at))))
    where
      lacks : DeclaresExplicit s p a → ⊥
      lacks d = let there : true ≡ false = sym (declared-back s Explicit a p i k d) ∙ none in absurd (cc)
