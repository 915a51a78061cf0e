use Rattle.express_syntax.proofs.UniqueSchemas.{one_schema}
use Rattle.express_syntax.proofs.schema_laws.a_text_reads_as_one_schema.Goals as goal

pub returns : goal.returns
returns c = one_schema
