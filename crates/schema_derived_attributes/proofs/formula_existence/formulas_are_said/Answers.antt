use Rattle.schema_derived_attributes.proofs.Said.{formulas-said}
use Rattle.schema_derived_attributes.proofs.formula_existence.formulas_are_said.Goals as goal

pub returns : goal.returns
returns c s are =
    formulas-said s c.args.formulas.now.rows.items are.rows c.args.formulas.now.firsts.items are.firsts
