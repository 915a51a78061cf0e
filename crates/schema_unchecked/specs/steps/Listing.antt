-- Listing a part with its reason.
use Rattle.std.specs.Prelude.{cond, List, [], ◌∷◌, ◌++◌, Option, None, Some}
use Rattle.express_syntax.specs.Schemas.{Schema, Entity}
use Rattle.schema_semantics.specs.declared.unchecked.PartKind.{PartKind}
use Rattle.schema_semantics.specs.declared.unchecked.Reason.{Reason}
use Rattle.schema_semantics.specs.declared.unchecked.Reason.TheVariants as reasons
use Rattle.schema_semantics.specs.Names.{Name, listed}
use Rattle.schema_semantics.specs.Parts.{Unchecked, Candidate, parts_of_uniques, parts_of_rules}
use Rattle.schema_semantics.specs.Ranks.{Self, HasReason}
use Rattle.schema_attribute_references.specs.declared.unique_rule_names.Naming.{Naming}

-- The part with its reason; empty without a reason.
abbrev pub given : PartKind → Name → Option Reason → List Unchecked
given k n None = []
given k n (Some r) = record { kind = k; name = n; reason = r } ∷ []

-- The candidates of the UNIQUE and WHERE clauses of an entity.
abbrev pub parts_of_constraints : Schema → Entity → List Candidate
parts_of_constraints s e =
    parts_of_uniques s e.name 1 (listed e.uniques)
    ++ parts_of_rules e.name (HasReason s (Self e.name)) 1 (listed e.rules)

-- The first reason that follows from the findings for the attributes of a UNIQUE rule.
abbrev pub reason_by : Naming → Option Reason
reason_by t = cond t.is_other (Some reasons.Profile) (cond t.is_not_one (Some reasons.Name) None)
