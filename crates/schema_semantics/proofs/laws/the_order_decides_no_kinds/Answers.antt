use Rattle.schema_semantics.proofs.Supertypes.{the-order-decides-no-kinds}
use Rattle.schema_semantics.proofs.laws.the_order_decides_no_kinds.Goals as goal

pub returns : goal.returns
returns c = the-order-decides-no-kinds
