use Rattle.std.proofs.Common.{ap, sym, ◌∙◌, map, string_bytes}
use Rattle.express_syntax.specs.SchemaViews.{schema_of}
use Rattle.conformance.specs.Choices.{given, unknown_name}
use Rattle.merge_choices.specs.ChosenEntities.{names_of}
use Rattle.merge_choices.proofs.names.unknown_name.Goals as goal

pub returns-in-Given : goal.returns-in-Given
returns-in-Given c =
    let s = schema_of c.args.schema.now in
    c.first_unknown.ensures
    ∙ ap (λ words. unknown_name s (given (map string_bytes words))) c.deref.ensures.value
    ∙ ap (λ names. unknown_name s (names_of names)) (sym c.in-Given.is)
