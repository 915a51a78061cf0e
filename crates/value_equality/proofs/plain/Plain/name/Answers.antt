use Rattle.value_equality.specs.Views.{row_seen}
use Rattle.value_equality.proofs.Placing.{name_at}
use Rattle.value_equality.proofs.plain.Plain.name.Goals as goal

pub returns : goal.returns
returns c = name_at c.args.self.now c.args.place (row_seen c.row.result) c.row.ensures
