use Rattle.std.proofs.Common.{◌∙◌, map, string_bytes}
use Rattle.express_syntax.specs.SchemaViews.{schema_of}
use Rattle.merge_choices.proofs.Entities.{unknown-is}
use Rattle.merge_choices.proofs.names.first_unknown.Goals as goal

pub returns : goal.returns
returns c =
    c.find_unknown.ensures ∙ unknown-is (schema_of c.args.schema.now) (map string_bytes c.args.given.now)
