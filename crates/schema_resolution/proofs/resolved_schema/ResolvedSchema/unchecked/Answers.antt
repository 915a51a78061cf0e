use Rattle.std.proofs.Common.{sym, subst}
use Rattle.std.proofs.Math.Logic.{∥∥₁_map}
use Rattle.schema_semantics.specs.Parts.{AreUnchecked}
use Rattle.schema_names.specs.Schemas.{the_schema}
use Rattle.schema_unchecked_declarations.specs.UncheckedLists.{unchecked_in}
use Rattle.schema_resolution.specs.SchemaFindings.{IsJudged}
use Rattle.schema_resolution.proofs.resolved_schema.ResolvedSchema.unchecked.Goals as goal

pub returns : goal.returns
returns c =
    let s = the_schema c.args.self.now.types.names in
    ∥∥₁_map c.args.self.now.judged_is
    (λ (j : IsJudged s c.args.self.now.judged).
    subst (λ us. AreUnchecked s (unchecked_in us)) (sym c.deref.ensures.value) j.unchecked)
