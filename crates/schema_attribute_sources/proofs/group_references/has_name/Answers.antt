use Rattle.std.proofs.Common.{◌≡◌, ◌∙◌, Some, None, ap}
use Rattle.std.specs.Prelude.{bytes_eq}
use Rattle.express_syntax.specs.ExpressionViews.{capitals}
use Rattle.express_syntax.specs.SchemaViews.{schema_of}
use Rattle.schema_names.proofs.Numbers.{what-stands}
use Rattle.schema_names.specs.Schemas.{the_schema}
use Rattle.schema_underlying_types.specs.BaseViews.{name_at}
use Rattle.schema_attribute_sources.proofs.Reading.{tree-within}
use Rattle.schema_attribute_sources.proofs.group_references.has_name.Goals as goal

pub name-requires : goal.name-requires
name-requires c =
    let t = c.args.names.now.schema.now in
    tree-within t (name_at (schema_of t) c.args.number) c.args.number c.requires

pub returns-in-Some : goal.returns-in-Some
returns-in-Some c =
    let s = the_schema c.args.names.now in
    let (d, at, is) = what-stands s (name_at s c.args.number) c.args.number c.requires in
    let own : Some (capitals c.in-Some.own) ≡ Some (name_at s c.args.number) = c.in-Some.ensures d at ∙ is in
    let same : capitals c.in-Some.own ≡ name_at s c.args.number = cc in
    c.eq.ensures ∙ ap (λ n. bytes_eq n (capitals c.args.name)) same

pub returns-in-None : goal.returns-in-None
returns-in-None c =
    let s = the_schema c.args.names.now in
    let (d, at, is) = what-stands s (name_at s c.args.number) c.args.number c.requires in
    let lost : None ≡ Some (name_at s c.args.number) = c.in-None.ensures d at ∙ is in
    absurd (cc)
