use Rattle.std.proofs.Common.{sym, subst, refl, Option}
use Rattle.std.proofs.lemmas.Option.{slice_get_within}
use Rattle.express_syntax.specs.ExpressionViews.{capitals}
use Rattle.conformance.specs.Rules.{InverseAttribute}
use Rattle.schema_names.specs.Schemas.{the_schema}
use Rattle.schema_underlying_types.specs.BaseViews.{name_at}
use Rattle.schema_attribute_sources.specs.SourceViews.{inverses_seen, or_unclear}
use Rattle.schema_attribute_sources.specs.StoredAttributes.{IsStoredAt}
use Rattle.schema_attribute_sources.proofs.Keeping.{inverse-tested, inverse-there, not-stored}
use Rattle.schema_attribute_sources.proofs.stored_attributes.stored_source.Goals as goal

pub returns-in-Some-inverse_number-clause-source : goal.returns-in-Some-inverse_number-clause-source
returns-in-Some-inverse_number-clause-source c =
    let s = the_schema c.args.schema.now.names in
    let i = c.args.asked.entity in
    let a = capitals c.args.asked.name in
    let inverses = inverses_seen s c.args.inverses.now in
    let (y, at, first) =
    inverse-tested s (name_at s i) a i c.requires.number refl c.args.inverses.now c.requires.inverses
    c.requires.made.resolved c.in-Some-inverse_number.number c.in-Some-inverse_number.ensures in
    subst (λ (o : Option InverseAttribute). IsStoredAt s inverses (name_at s i) a (or_unclear o)) (sym at)
    (first, λ d. c.in_default.ensures d)

pub returns-in-Some-inverse_number-clause-numbered : goal.returns-in-Some-inverse_number-clause-numbered
returns-in-Some-inverse_number-clause-numbered c =
    let s = the_schema c.args.schema.now.names in
    let i = c.args.asked.entity in
    let a = capitals c.args.asked.name in
    let (y, at, first) =
    inverse-tested s (name_at s i) a i c.requires.number refl c.args.inverses.now c.requires.inverses
    c.requires.made.resolved c.in-Some-inverse_number.number c.in-Some-inverse_number.ensures in
    slice_get_within (inverses_seen s c.args.inverses.now) c.in-Some-inverse_number.number y at

pub returns-in-None-clause-source : goal.returns-in-None-clause-source
returns-in-None-clause-source c =
    let s = the_schema c.args.schema.now.names in
    let i = c.args.asked.entity in
    let a = capitals c.args.asked.name in
    not-stored s (name_at s i) a c.requires.stored (λ d. c.in_default.ensures d)
    (λ d. inverse-there s (name_at s i) a i c.requires.number refl c.args.inverses.now c.requires.inverses d
    c.in-None.ensures)
