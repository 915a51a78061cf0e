-- The reasons of rules, by the set of SELF (ISO 10303-11, 9.1 and 9.2.2.2).
use Rattle.std.specs.Prelude.{Bool, IsTrue, ◌⊎◌}
use Rattle.express_syntax.specs.Schemas.{Schema, Body}
use Rattle.schema_semantics.specs.declared.unchecked.Reason.{Reason}
use Rattle.schema_semantics.specs.declared.unchecked.Reason.TheVariants as reasons
use Rattle.schema_semantics.specs.Sets.{Set}
use Rattle.schema_semantics.specs.Ranks.{HasReason}
use Rattle.schema_data_types.specs.steps.Values.{Holds}
use Rattle.schema_unchecked.specs.declared.rules.Own.{Own}

-- The reasons of a rule; w says whether SELF may be a value of a SELECT.
abbrev pub RuleHasReason : Schema → Set → Bool → Body → Reason → Type 0
RuleHasReason s M w b reasons.Profile = IsTrue w ⊎ HasReason s M b reasons.Profile
RuleHasReason s M w b r = HasReason s M b r

abbrev pub has_reason : Schema → Own → Body → Reason → Type 0
has_reason s own b r = RuleHasReason s (Holds s own.atoms.now) own.is_over_select b r
