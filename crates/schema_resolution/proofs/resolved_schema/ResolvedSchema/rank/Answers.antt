use Rattle.std.proofs.Common.{sym, subst}
use Rattle.std.proofs.Math.Logic.{∥∥₁_map}
use Rattle.schema_names.specs.Schemas.{the_schema}
use Rattle.schema_derived_attributes.specs.Firsts.{AreFirsts}
use Rattle.schema_derived_attributes.specs.AttributeRanks.{AreRanksOf}
use Rattle.schema_resolution.specs.SchemaFindings.{IsJudged, AreDomainTables}
use Rattle.schema_resolution.proofs.resolved_schema.ResolvedSchema.rank.Goals as goal

pub rank_at-requires : goal.rank_at-requires
rank_at-requires c =
    let s = the_schema c.args.self.now.types.names in
    record {
      firsts = ∥∥₁_map c.args.self.now.domain_is (λ (d : AreDomainTables s c.args.self.now.domain).
          subst (AreFirsts s) (sym c.deref.ensures.value) d.formulas.firsts);
      ranks = ∥∥₁_map c.args.self.now.judged_is (λ (j : IsJudged s c.args.self.now.judged).
          subst (AreRanksOf s) (sym c.deref-2.ensures.value) j.ranks);
    }
