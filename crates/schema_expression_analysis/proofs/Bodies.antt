-- What a body says depends on what is in the set of SELF alone.
use Rattle.std.proofs.Common.{◌↔◌, false, []}
use Rattle.express_syntax.specs.Schemas.{Schema, Body, parsed, set_aside}
use Rattle.schema_semantics.specs.declared.unchecked.Reason.{Reason}
use Rattle.schema_semantics.specs.declared.unchecked.Reason.TheVariants as reasons
use Rattle.schema_semantics.specs.Attributes.{Derivation}
use Rattle.schema_semantics.specs.Sets.{Set}
use Rattle.schema_semantics.specs.Reasons.{GivesReason, BodyMayUse}
use Rattle.schema_semantics.specs.Ranks.{HasReason, IsSetAside}
use Rattle.schema_expression_analysis.specs.steps.Findings.{aggregate, unclear, bad_typeof, bad_kind, asked}
use Rattle.schema_expression_analysis.proofs.Agreeing.{Same, same, same-variables}
use Rattle.schema_expression_analysis.proofs.Same.{found-same}

pub use-same : (s : Schema) (M N : Set) → Same M N → (b : Body) (d : Derivation)
    → BodyMayUse s M b d ↔ BodyMayUse s N b d
use-same s M N h (parsed x) d = found-same s M N h (asked d) [] [] (same-variables []) false x
use-same s M N h (set_aside r) d = same

pub gives-same : (s : Schema) (M N : Set) → Same M N → (b : Body) (r : Reason)
    → GivesReason s M b r ↔ GivesReason s N b r
gives-same s M N h (parsed x) reasons.Skipped = same
gives-same s M N h (parsed x) reasons.Profile = found-same s M N h aggregate [] [] (same-variables []) false x
gives-same s M N h (parsed x) reasons.Name = found-same s M N h unclear [] [] (same-variables []) false x
gives-same s M N h (parsed x) reasons.Typeof = found-same s M N h bad_typeof [] [] (same-variables []) false x
gives-same s M N h (parsed x) reasons.Kind = found-same s M N h bad_kind [] [] (same-variables []) false x
gives-same s M N h (parsed x) reasons.Leads = same
gives-same s M N h (set_aside r) reasons.Skipped = same
gives-same s M N h (set_aside r) reasons.Profile = same
gives-same s M N h (set_aside r) reasons.Name = same
gives-same s M N h (set_aside r) reasons.Typeof = same
gives-same s M N h (set_aside r) reasons.Kind = same
gives-same s M N h (set_aside r) reasons.Leads = same

pub reason-same : (s : Schema) (M N : Set) → Same M N → (b : Body) (r : Reason) → HasReason s M b r ↔ HasReason s N b r
reason-same s M N h b reasons.Skipped = gives-same s M N h b reasons.Skipped
reason-same s M N h b reasons.Profile = gives-same s M N h b reasons.Profile
reason-same s M N h b reasons.Name = gives-same s M N h b reasons.Name
reason-same s M N h b reasons.Typeof = gives-same s M N h b reasons.Typeof
reason-same s M N h b reasons.Kind = gives-same s M N h b reasons.Kind
reason-same s M N h b reasons.Leads =
    ((λ e. (e.0, (use-same s M N h b e.0).0 e.1, e.2)), (λ e. (e.0, (use-same s M N h b e.0).1 e.1, e.2)))
