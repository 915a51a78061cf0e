use Rattle.schema_expression_types.proofs.Capitals.{no-number, no-word}
use Rattle.schema_expression_types.proofs.type_strings.find.Goals as goal

pub returns-in-Err : goal.returns-in-Err
returns-in-Err c =
    no-number c.args.names.now.schema.now c.args.name.now (no-word c.args.name.now _ _ c.in-Err.ensures)
