use Rattle.std.proofs.Common.{◌≡◌, ◌∙◌, Some, None, ap}
use Rattle.express_syntax.specs.ExpressionViews.{capitals}
use Rattle.express_syntax.specs.SchemaViews.{schema_of}
use Rattle.schema_names.specs.Schemas.{the_schema}
use Rattle.schema_underlying_types.specs.BaseViews.{name_at}
use Rattle.express_logic.specs.Views.{text_of}
use Rattle.conformance.specs.Meanings.{says_type}
use Rattle.schema_attribute_sources.proofs.Reading.{tree-within}
use Rattle.rule_names.proofs.Saying.{called, one_name}
use Rattle.rule_names.proofs.types.says_type.Goals as goal

pub name-requires : goal.name-requires
name-requires c =
    let t = c.args.names.now.schema.now in
    tree-within t (name_at (schema_of t) c.args.number) c.args.number c.requires

pub returns-in-Some : goal.returns-in-Some
returns-in-Some c =
    let s = the_schema c.args.names.now in
    let n = capitals c.in-Some.name in
    c.says_name.ensures
    ∙ ap (says_type s (text_of c.args.text.now))
    (one_name n (name_at s c.args.number) (called s c.args.number (Some n) c.requires c.in-Some.ensures))

pub returns-in-None : goal.returns-in-None
returns-in-None c =
    let s = the_schema c.args.names.now in
    let lost : None ≡ Some (name_at s c.args.number) = called s c.args.number None c.requires c.in-None.ensures in
    absurd (cc)
