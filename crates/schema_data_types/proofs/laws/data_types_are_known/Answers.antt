use Rattle.schema_data_types.proofs.Asked.{data-types-are-known}
use Rattle.schema_data_types.proofs.laws.data_types_are_known.Goals as goal

pub returns : goal.returns
returns c = data-types-are-known
