use Rattle.std.proofs.Common.{sym, subst}
use Rattle.express_syntax.proofs.Lists.{every_push}
use Rattle.schema_names.specs.Schemas.{the_schema}
use Rattle.schema_attribute_sources.specs.SourceViews.{inverses_seen}
use Rattle.rule_sources.specs.Sources.{IsNamedSource, AreNamedSources}
use Rattle.rule_sources.proofs.sources.add_named.Goals as goal

pub returns : goal.returns
returns c =
    let s = the_schema c.args.schema.now.names in
    let inverses = inverses_seen s c.args.tables.now.inverses.now in
    let form = c.args.form.now in
    subst (AreNamedSources s inverses form) (sym c.in_ok-push.ensures.items)
    (every_push (IsNamedSource s inverses form) c.args.row.now.items c.in-Some.named c.requires.row
    c.in-Some.ensures)
