use Rattle.std.proofs.Common.{◌≡◌, ◌<◌, ℕ, length, map}
use Rattle.graphs.specs.Graphs.{next}
use Rattle.schema_names.specs.Schemas.{the_schema}
use Rattle.schema_attribute_sources.specs.steps.Defined.{renamed_at}
use Rattle.rule_plans.specs.steps.Renamings.{as_row}
use Rattle.rule_plans.proofs.renamings.renamings.Given as goal

abbrev pub invariant-loop-number : goal.invariant-loop-number
invariant-loop-number l =
    record {
      many : length l.rows.items ≡ l.number;
      each : (i : ℕ) → i < l.number
          → next (map (λ v. v.items) l.rows.items) i ≡ as_row (renamed_at (the_schema l.names) i);
    }
