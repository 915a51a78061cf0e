use Rattle.std.proofs.Common.{◌≡◌, ◌∙◌}
use Rattle.std.proofs.Math.Logic.{∥∥₁_map}
use Rattle.graphs.specs.Graphs.{has}
use Rattle.schema_names.specs.Schemas.{the_schema}
use Rattle.schema_types.proofs.Asked.{kind-itself, kind-above, told-is}
use Rattle.schema_types.proofs.types.ResolvedTypes.is_kind_of.Goals as goal

pub returns-then-entity-other : goal.returns-then-entity-other
returns-then-entity-other c =
    ∣ kind-itself (the_schema c.args.self.now.names) c.args.entity c.args.other c.if-entity-other.true ∣₁

pub returns-else-entity-other : goal.returns-else-entity-other
returns-else-entity-other c =
    let told : c.contains.result ≡ has c.supers.result.now c.args.other =
    c.contains.ensures.value ∙ told-is c.supers.result.now c.args.other in
    ∥∥₁_map c.supers.ensures
    (kind-above (the_schema c.args.self.now.names) c.args.entity c.args.other c.supers.result.now
    c.contains.result c.if-entity-other.false told)
