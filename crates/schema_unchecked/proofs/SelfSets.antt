-- The reasons of rules depend on what SELF may be alone.
use Rattle.std.specs.Prelude.{◌≡◌, ℕ, ◌+◌, Bool, true, false, IsTrue, ◌⊎◌, ◌↔◌, List, [], ◌∷◌, Option, None, Some}
use Rattle.std.proofs.Common.{refl, inl, inr, sym, ◌∙◌, subst, ap}
use Rattle.express_syntax.specs.Schemas.{Schema, DataType, Body, parsed, set_aside, Rule}
use Rattle.schema_semantics.specs.declared.unchecked.Reason.{Reason}
use Rattle.schema_semantics.specs.declared.unchecked.Reason.TheVariants as reasons
use Rattle.schema_semantics.specs.Names.{Name, IsFirst}
use Rattle.schema_semantics.specs.Shapes.{Atom, instance, IsOf, IsOverSelect}
use Rattle.schema_semantics.specs.Sets.{Set}
use Rattle.schema_semantics.specs.Ranks.{Self, HasReason}
use Rattle.schema_semantics.specs.Parts.{Unchecked, Lists, all_reasons, parts_of_rules, TypeRuleHasReason}
use Rattle.schema_names.specs.Numbers.{HasNumber}
use Rattle.schema_names.proofs.Numbers.{one-name}
use Rattle.schema_data_types.specs.declared.values.Atom.{Atom as Numbered}
use Rattle.schema_data_types.specs.declared.values.Atom.TheVariants as atoms
use Rattle.schema_data_types.specs.steps.Values.{IsMeant, Holds, AddsAll}
use Rattle.schema_attribute_references.specs.steps.Taking.{IsSet}
use Rattle.schema_expression_analysis.proofs.Bodies.{reason-same}
use Rattle.schema_unchecked.specs.steps.Judging.{IsFirstReason}
use Rattle.schema_unchecked.proofs.Selves.{Alike, reason-alike}
use Rattle.schema_unchecked_declarations.specs.UncheckedLists.{Adds}
use Rattle.schema_unchecked.specs.steps.Rules.{RuleHasReason}

-- rules whose reasons hold alike
module _ (h : Name) (has on : Body → Reason → Type 0) (same : (b : Body) → Alike (has b) (on b)) where
  lists-alike : (n : ℕ) (rs : List Rule) (us : List Unchecked) → Lists (parts_of_rules h has n rs) us
      → Lists (parts_of_rules h on n rs) us
  lists-alike n [] us e = e
  lists-alike n (r ∷ rs) us (inl (q, first, vs, is, more)) =
      inl (
        q,
        reason-alike (has r.body) (on r.body) (same r.body) (Some q) first,
        vs,
        is,
        lists-alike (n + 1) rs vs more,
      )
  lists-alike n (r ∷ rs) us (inr (never, more)) =
      inr ((λ q k. never q ((same r.body q).1 k)), lists-alike (n + 1) rs us more)

  pub rules-alike : (n : ℕ) (rs : List Rule) (old new : List Unchecked) → Adds (parts_of_rules h has n rs) old new
      → Adds (parts_of_rules h on n rs) old new
  rules-alike n rs old new (us, l, is) = (us, lists-alike n rs us l, is)

-- no body is skipped
none-skipped : (s : Schema) (M : Set) (b : Body) → HasReason s M b reasons.Skipped → ⊥
none-skipped s M (parsed x) h = h
none-skipped s M (set_aside r) h = h

pub over-select : (s : Schema) (M : Set) (w : Bool) (b : Body) → w ≡ true
    → IsFirstReason (RuleHasReason s M w b) (Some reasons.Profile)
over-select s M w b e = inr (none-skipped s M b, inl (inl e, refl))

pub over-none : (s : Schema) (M : Set) (w : Bool) (b : Body) → w ≡ false → Alike (HasReason s M b) (RuleHasReason s M w b)
over-none s M w b e reasons.Profile = ((λ h. inr h), by)
  where
    by : IsTrue w ⊎ HasReason s M b reasons.Profile → HasReason s M b reasons.Profile
    by (inl h) = absurd (cc)
    by (inr h) = h
over-none s M w b e reasons.Skipped = ((λ h. h), (λ h. h))
over-none s M w b e reasons.Name = ((λ h. h), (λ h. h))
over-none s M w b e reasons.Typeof = ((λ h. h), (λ h. h))
over-none s M w b e reasons.Kind = ((λ h. h), (λ h. h))
over-none s M w b e reasons.Leads = ((λ h. h), (λ h. h))

-- at two sets that hold the same
abbrev pub SameSet : Set → Set → Type 0
SameSet M N = (x : Atom) → M x ↔ N x

has-alike : (s : Schema) (M N : Set) → SameSet M N → (b : Body) → Alike (HasReason s M b) (HasReason s N b)
has-alike s M N same b r = reason-same s M N same b r

-- what is added to nothing
pub set-added : (s : Schema) (P : Set) (old new : List Numbered) → old ≡ [] → AddsAll s old P new → IsSet s P new
set-added s P old new none adds x = (forth, λ p. (adds x).1 (inr p))
  where
    by : Holds s old x ⊎ P x → P x
    by (inl h) = absurd (subst (λ xs. Holds s xs x) none h)
    by (inr p) = p

    forth : Holds s new x → P x
    forth h = by ((adds x).0 h)

-- SELF in the rules of an entity
module _ (s : Schema) (e : Name) (i : ℕ) (here : HasNumber s e i) where
  self-meant : SameSet (Holds s (atoms.Instance i ∷ [])) (Self e)
  self-meant x = (forth, λ is. inl (e, here, is))
    where
      forth : Holds s (atoms.Instance i ∷ []) x → Self e x
      forth (inl (n, k, is)) = is ∙ ap instance (one-name s n e i k here)
      forth (inr h) = absurd h

  pub entity-alike : (b : Body)
      → Alike (RuleHasReason s (Holds s (atoms.Instance i ∷ [])) false b) (HasReason s (Self e) b)
  entity-alike b r =
      let plain = over-none s (Holds s (atoms.Instance i ∷ [])) false b refl r in
      let same = has-alike s (Holds s (atoms.Instance i ∷ [])) (Self e) self-meant b r in
      ((λ h. same.0 (plain.1 h)), (λ h. plain.0 (same.1 h)))

-- the reasons of a defined type's rule, for equal sets of SELF
module _ (s : Schema) (k : DataType) (M : Set) (w : Bool) (same : SameSet M (IsOf s k))
    (told : IsTrue w ↔ IsOverSelect s k) where
  pub type-alike : (b : Body) → Alike (RuleHasReason s M w b) (TypeRuleHasReason s k b)
  type-alike b reasons.Profile = (forth, back)
    where
      on : HasReason s M b reasons.Profile ↔ HasReason s (IsOf s k) b reasons.Profile
      on = has-alike s M (IsOf s k) same b reasons.Profile

      forth : RuleHasReason s M w b reasons.Profile → TypeRuleHasReason s k b reasons.Profile
      forth (inl h) = inl (told.0 h)
      forth (inr h) = inr (on.0 h)

      back : TypeRuleHasReason s k b reasons.Profile → RuleHasReason s M w b reasons.Profile
      back (inl h) = inl (told.1 h)
      back (inr h) = inr (on.1 h)
  type-alike b reasons.Skipped = has-alike s M (IsOf s k) same b reasons.Skipped
  type-alike b reasons.Name = has-alike s M (IsOf s k) same b reasons.Name
  type-alike b reasons.Typeof = has-alike s M (IsOf s k) same b reasons.Typeof
  type-alike b reasons.Kind = has-alike s M (IsOf s k) same b reasons.Kind
  type-alike b reasons.Leads = has-alike s M (IsOf s k) same b reasons.Leads
