-- The judgement of a body from the survey of its expression, and with the derived attributes that
-- it uses (ISO 10303-11, 12).
use Rattle.std.specs.Prelude.{ℕ, Bool, true, false, cond, nat_lt, List, [], ◌∷◌, Option, Some, None, slice_get}
use Rattle.std.specs.List.{list_any}
use Rattle.schema_semantics.specs.declared.unchecked.Reason.{Reason}
use Rattle.schema_semantics.specs.declared.unchecked.Reason.TheVariants as reasons
use Rattle.schema_expression_analysis.specs.declared.survey.Survey.{Survey}
use Rattle.schema_unchecked.specs.declared.judgement.Judgement.{Judgement}

-- The first reason in a survey, if any.
abbrev pub first_found : Survey → Option Reason
first_found t =
    cond t.has_loose_aggregate (Some reasons.Profile) (cond t.has_unclear_name (Some reasons.Name)
    (cond t.has_bad_typeof (Some reasons.Typeof) (cond t.has_bad_kind (Some reasons.Kind) None)))

-- Whether there is a reason.
abbrev pub has_reason : Option Reason → Bool
has_reason None = false
has_reason (Some r) = true

abbrev pub is_faulty : Judgement → Bool
is_faulty j = has_reason j.reason

-- The numbers below n.
abbrev pub below : ℕ → List ℕ → List ℕ
below n [] = []
below n (x ∷ xs) = cond (nat_lt x n) (x ∷ below n xs) (below n xs)

abbrev pub uses_below : ℕ → Judgement → List ℕ
uses_below n j = below n j.uses.items

-- Whether a derived attribute is set aside.
abbrev pub has_no_rank : Option (Option ℕ) → Bool
has_no_rank None = false
has_no_rank (Some None) = true
has_no_rank (Some (Some r)) = false

abbrev pub is_aside : List (Option ℕ) → ℕ → Bool
is_aside ranks n = has_no_rank (slice_get ranks n)

-- The reason, if any, otherwise `Leads` if a derived attribute is set aside.
abbrev pub or_leads : Option Reason → Bool → Option Reason
or_leads (Some r) b = Some r
or_leads None b = cond b (Some reasons.Leads) None

abbrev pub reason_with : List (Option ℕ) → Judgement → Option Reason
reason_with ranks j = or_leads j.reason (list_any (is_aside ranks) j.uses.items)
