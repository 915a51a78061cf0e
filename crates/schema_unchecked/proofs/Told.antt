-- The reason that is given for what is found of the attributes in a UNIQUE rule.
use Rattle.std.specs.Prelude.{◌≡◌, Bool, true, false, cond, List, Option, None, Some}
use Rattle.std.proofs.Common.{refl, inl, inr}
use Rattle.express_syntax.specs.Schemas.{Schema, Attribute}
use Rattle.schema_semantics.specs.declared.unchecked.Reason.{Reason}
use Rattle.schema_semantics.specs.declared.unchecked.Reason.TheVariants as reasons
use Rattle.schema_semantics.specs.Names.{Name}
use Rattle.schema_semantics.specs.Parts.{UniqueHasReason}
use Rattle.schema_unchecked.specs.steps.Judging.{IsFirstReason}
use Rattle.schema_attribute_references.specs.declared.unique_rule_names.Naming.{Naming}
use Rattle.schema_attribute_references.specs.steps.Naming.{IsNaming}
use Rattle.schema_unchecked.specs.steps.Listing.{reason_by}

module _ (s : Schema) (e : Name) where
  pub unique-reason : (xs : List Attribute) (t : Naming) → IsNaming s e xs t
      → IsFirstReason (UniqueHasReason s e xs) (reason_by t)
  unique-reason xs t h = by t.is_other refl t.is_not_one refl
    where
      none : t.is_other ≡ false → t.is_not_one ≡ false → (r : Reason) → UniqueHasReason s e xs r → ⊥
      none e f reasons.Skipped k = k
      none e f reasons.Profile k = let m = h.other.1 k in cc
      none e f reasons.Name k = let m = h.not_one.1 k in cc
      none e f reasons.Typeof k = k
      none e f reasons.Kind k = k
      none e f reasons.Leads k = k

      by : (o : Bool) → t.is_other ≡ o → (n : Bool) → t.is_not_one ≡ n
          → IsFirstReason (UniqueHasReason s e xs) (cond o (Some reasons.Profile) (cond n (Some reasons.Name) None))
      by true e n f = inr ((λ k. k), inl (h.other.0 e, refl))
      by false e true f = inr ((λ k. k), inr ((λ k. let m = h.other.1 k in cc), inl (h.not_one.0 f, refl)))
      by false e false f = none e f
