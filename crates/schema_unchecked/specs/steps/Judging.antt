-- The reasons why a body isn't checked, and the derived attributes that it may use, by number
-- (ISO 10303-11, 12).
use Rattle.std.specs.Prelude.{◌≡◌, ℕ, List, [], ◌∷◌, Option, Some, MatchOption, length, map, slice_get, ◌↔◌}
use Rattle.express_syntax.specs.Schemas.{Schema, Body, Derived}
use Rattle.schema_semantics.specs.declared.unchecked.Reason.{Reason}
use Rattle.schema_semantics.specs.declared.unchecked.Reason.TheVariants as reasons
use Rattle.schema_semantics.specs.Names.{IsFirst}
use Rattle.schema_semantics.specs.Attributes.{Derivation, IsDerivation}
use Rattle.schema_semantics.specs.Sets.{Set}
use Rattle.schema_semantics.specs.Reasons.{GivesReason, BodyMayUse}
use Rattle.schema_semantics.specs.Ranks.{Self, HasReason}
use Rattle.schema_semantics.specs.Parts.{all_reasons}
use Rattle.schema_attributes.specs.Derivations.{all_derivations, HasDerivation, HoldsDerivation}
use Rattle.schema_unchecked.specs.declared.judgement.Judgement.{Judgement}

-- o is the first reason for which P holds, if any.
abbrev pub IsFirstReason : (Reason → Type 0) → Option Reason → Type 0
IsFirstReason P o = MatchOption o ((r : Reason) → P r → ⊥) (λ r. IsFirst P all_reasons r)

-- j is the judgement of a body by itself, with the set of SELF.
pub record IsJudged (s : Schema) (self : Set) (b : Body) (j : Judgement) : Type 0 where
  pub reason : IsFirstReason (GivesReason s self b) j.reason
  pub uses : (d : Derivation) → HoldsDerivation s j.uses.items d ↔ BodyMayUse s self b d

-- The list has the judgement of each derived attribute by itself, by number.
pub record AreJudged (s : Schema) (judged : List Judgement) : Type 0 where
  pub same : length judged ≡ length (all_derivations s)
  pub each : (i : ℕ) (d : Derivation) (x : Derived) (j : Judgement) → HasDerivation s i d → IsDerivation s d x
      → slice_get judged i ≡ Some j → IsJudged s (Self d.0) x.body j

-- o is the reason why a body isn't checked, if any, with the set of SELF.
abbrev pub IsReasonFor : Schema → Set → Body → Option Reason → Type 0
IsReasonFor s self b o = IsFirstReason (HasReason s self b) o
