use Rattle.std.proofs.Common.{◌∙◌, ap}
use Rattle.express_syntax.specs.Views.{declaration_of as declaration_seen}
use Rattle.schema_semantics.specs.Names.{declared_name}
use Rattle.schema_names.proofs.Rows.{seen-at}
use Rattle.schema_names.proofs.names.Names.name.Goals as goal

pub returns : goal.returns
returns c d at =
    c.declared_word.ensures
    ∙ ap declared_name
    (seen-at declaration_seen c.args.self.now.schema.now.declarations.items c.args.number _ d c.declaration.ensures at)
