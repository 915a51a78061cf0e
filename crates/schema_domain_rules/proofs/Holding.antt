-- What SELF may be in the rules of a declaration, and the reasons by it.
use Rattle.std.specs.Prelude.{◌≡◌, ℕ, Bool, true, false, List, [], ◌∷◌, Option, None, Some, is_none, ◌↔◌, IsTrue}
use Rattle.std.proofs.Common.{inl, inr, ap, sym, subst, ◌∙◌}
use Rattle.express_syntax.specs.Schemas.{Schema, Declaration, Body, set_aside, named}
use Rattle.express_syntax.specs.Runs.{Run}
use Rattle.schema_semantics.specs.declared.unchecked.Reason.{Reason}
use Rattle.schema_semantics.specs.declared.unchecked.Reason.TheVariants as reasons
use Rattle.schema_semantics.specs.Names.{Name, IsFirst, declared_name}
use Rattle.schema_semantics.specs.Faults.{IsResolved}
use Rattle.schema_semantics.specs.Ranks.{Self, HasReason}
use Rattle.schema_semantics.specs.Parts.{all_reasons, TypeRuleHasReason}
use Rattle.schema_semantics.specs.Shapes.{IsOf, IsOverSelect}
use Rattle.schema_semantics.specs.Sets.{Set}
use Rattle.schema_names.specs.Numbers.{HasNumber, IsAt}
use Rattle.schema_names.proofs.Numbers.{what-stands}
use Rattle.schema_explicit_attributes.proofs.OwnNumbers.{own-number-of}
use Rattle.schema_data_types.specs.declared.values.Atom.TheVariants as atoms
use Rattle.schema_data_types.specs.steps.Values.{Holds}
use Rattle.schema_underlying_types.specs.BaseViews.{name_at, name_in, or_empty}
use Rattle.schema_unchecked.specs.steps.Judging.{IsFirstReason}
use Rattle.schema_unchecked.specs.steps.Rules.{RuleHasReason as HasReasonBy}
use Rattle.schema_unchecked.proofs.SelfSets.{SameSet, entity-alike, type-alike}
use Rattle.conformance.specs.DomainRules.{Holder, of_entity, of_type, RuleHasReason}

first-holds : (P : Reason → Type 0) (rs : List Reason) (r : Reason) → IsFirst P rs r → P r
first-holds P [] r h = absurd h
first-holds P (q ∷ rs) r (inl (p, is)) = subst P is p
first-holds P (q ∷ rs) r (inr (never, h)) = first-holds P rs r h

-- a reason is found, or there is none
pub some-reason : (P : Reason → Type 0) (o : Option Reason) → is_none o ≡ false → IsFirstReason P o → (r : Reason) × P r
some-reason P None e h = absurd (cc)
some-reason P (Some r) e h = (r, first-holds P all_reasons r h)

pub no-reason : (P : Reason → Type 0) (o : Option Reason) → is_none o ≡ true → IsFirstReason P o → (r : Reason) → P r
    → ⊥
no-reason P None e h = h
no-reason P (Some r) e h = absurd (cc)

-- a body that is set aside has a reason
pub aside-reason : (s : Schema) (h : Holder) (u : Run) → RuleHasReason s h (set_aside u) reasons.Profile
aside-reason s (of_entity e) u = tt
aside-reason s (of_type t) u = inr tt

pub name-is : (s : Schema) (n : Name) (i : ℕ) → HasNumber s n i → name_at s i ≡ n
name-is s n i k = let (d, at, called) = what-stands s n i k in ap name_in at ∙ ap or_empty called

pub number-seen : (s : Schema) (n : Name) (i : ℕ) → HasNumber s n i → HasNumber s (name_at s i) i
number-seen s n i k = subst (λ m. HasNumber s m i) (sym (name-is s n i k)) k

pub number-here : (s : Schema) → IsResolved s → (i : ℕ) (d : Declaration) (n : Name) → IsAt s i d
    → declared_name d ≡ Some n → HasNumber s n i
number-here s r i d n at called = own-number-of s i d n r.once at called

module _ (s : Schema) (n : Name) (i : ℕ) (k : HasNumber s n i) where
  -- an instance of the entity
  pub own-instance : (b : Body) (r : Reason)
      → HasReasonBy s (Holds s (atoms.Instance i ∷ [])) false b r ↔ RuleHasReason s (of_entity (name_at s i)) b r
  own-instance b r =
      subst (λ m. HasReasonBy s (Holds s (atoms.Instance i ∷ [])) false b r ↔ HasReason s (Self m) b r)
      (sym (name-is s n i k)) (entity-alike s n i k b r)

  -- a value of the defined type
  pub own-value : (M : Set) (w : Bool) → SameSet M (IsOf s (named n)) → IsTrue w ↔ IsOverSelect s (named n)
      → (b : Body) (r : Reason) → HasReasonBy s M w b r ↔ RuleHasReason s (of_type (name_at s i)) b r
  own-value M w same told b r =
      subst (λ m. HasReasonBy s M w b r ↔ TypeRuleHasReason s (named m) b r) (sym (name-is s n i k))
      (type-alike s (named n) M w same told b r)
