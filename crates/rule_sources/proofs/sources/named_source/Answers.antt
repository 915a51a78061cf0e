use Rattle.std.proofs.Common.{◌≡◌, ◌∙◌, ap, sym, subst}
use Rattle.express_syntax.specs.ExpressionViews.{capitals}
use Rattle.schema_names.specs.Schemas.{the_schema}
use Rattle.schema_attribute_sources.specs.SourceViews.{inverses_seen}
use Rattle.rule_sources.specs.Sources.{IsSourceOf, source_in, form_source}
use Rattle.rule_sources.proofs.Positions.{source-kept}
use Rattle.rule_sources.proofs.sources.named_source.Goals as goal

pub returns-in-Some : goal.returns-in-Some
returns-in-Some c =
    let s = the_schema c.args.schema.now.names in
    let inverses = inverses_seen s c.args.tables.now.inverses.now in
    let form = c.args.form.now in
    let a = capitals c.args.name in
    let x = c.in-Some.source in
    let told : IsSourceOf s inverses form.types.items a x =
    subst (λ ts. IsSourceOf s inverses ts a x) c.deref.ensures.value
    (record { value = c.in-Some.ensures.value; numbered = c.in-Some.ensures.numbered }) in
    let is : c.form_source.result ≡ form_source form.slots.items x =
    c.form_source.ensures form c.requires.positions in
    let same : source_in c.form_source.result ≡ x = ap source_in is ∙ source-kept form.slots.items x in
    record {
      source = subst (IsSourceOf s inverses form.types.items a) (sym same) told;
      position = is ∙ ap (form_source form.slots.items) (sym same);
    }
