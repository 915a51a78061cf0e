use Rattle.std.proofs.Math.Logic.{∥∥₁_map}
use Rattle.schema_names.specs.Schemas.{the_schema}
use Rattle.schema_resolution.specs.SchemaFindings.{IsJudged}
use Rattle.schema_resolution.proofs.resolved_schema.ResolvedSchema.into_unchecked.Goals as goal

pub returns : goal.returns
returns c =
    ∥∥₁_map c.args.self.judged_is (λ (j : IsJudged (the_schema c.args.self.types.names) c.args.self.judged). j.unchecked)
