use Rattle.std.proofs.Common.{ap, sym, subst}
use Rattle.express_syntax.specs.ExpressionViews.{capitals}
use Rattle.express_syntax.specs.Views.{attribute_of}
use Rattle.schema_names.specs.Schemas.{the_schema}
use Rattle.schema_redeclarations.specs.steps.Speaking.{ArePlacesOf, at_most_one, SpeaksOf, IsOwnAt}
use Rattle.schema_redeclarations.proofs.OfAttributes.{own-speaks}
use Rattle.schema_redeclarations.proofs.redeclared_attributes.explicit_place.Goals as goal

pub redeclared_place-requires-clause-named : goal.redeclared_place-requires-clause-named
redeclared_place-requires-clause-named c = (capitals c.in-Redeclared.field-0, ap attribute_of c.in-Redeclared.is)

pub returns-in-Unqualified : goal.returns-in-Unqualified
returns-in-Unqualified c n k typed here =
    let s = the_schema c.args.sources.now.names.now in
    let is = ap attribute_of c.in-Unqualified.is in
    subst (λ y. ArePlacesOf s (SpeaksOf s n k y) (at_most_one c.args.own)) (sym is)
    (own-speaks s c.requires.sources.resolved n k (capitals c.in-Unqualified.field-0) c.args.own
    (subst (λ y. IsOwnAt s n y c.args.own) is here))
