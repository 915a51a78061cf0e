use Rattle.std.proofs.Common.{sym, subst, IfOk, ◌∙◌}
use Rattle.std.proofs.lemmas.Result.{IfOk-weaker}
use Rattle.express_syntax.specs.ExpressionViews.{capitals}
use Rattle.express_syntax.specs.Schemas.{own, redeclared}
use Rattle.express_syntax.specs.Clauses.{name_of}
use Rattle.express_syntax.specs.Views.{attribute_of}
use Rattle.schema_attribute_references.specs.steps.Taking.{schema_in}
use Rattle.schema_attribute_references.specs.steps.Named.{AreNumbersOf, AreHolders}
use Rattle.conformance.specs.Rules.{MeansAttribute}
use Rattle.schema_constraints.proofs.Meaning.{means-own, means-nothing}
use Rattle.schema_constraints.proofs.unique_attributes.meant.Goals as goal

pub returns-in-Unqualified : goal.returns-in-Unqualified
returns-in-Unqualified c e k =
    let s = schema_in c.args.known.now in
    let n = capitals c.in-Unqualified.name in
    subst (λ x. IfOk c.holders.result
    (λ t. AreNumbersOf s (λ p. MeansAttribute s e (attribute_of x) p (capitals (name_of x))) t.items))
    (sym c.in-Unqualified.is)
    (IfOk-weaker c.holders.result (λ t. AreHolders s e n t.items)
    (λ t. AreNumbersOf s (λ p. MeansAttribute s e (own n) p n) t.items)
    (λ t h. means-own s e n t.items h) (c.holders.ensures e k))

pub returns-in-Some : goal.returns-in-Some
returns-in-Some c e k =
    let s = schema_in c.args.known.now in
    subst (λ x. IfOk c.meant_of_group.result
    (λ t. AreNumbersOf s (λ p. MeansAttribute s e (attribute_of x) p (capitals (name_of x))) t.items))
    (sym c.in-Redeclared.is)
    (c.meant_of_group.ensures e (capitals c.in-Redeclared.group) (sym c.find.ensures ∙ c.in-Some.is))

pub returns-in-None : goal.returns-in-None
returns-in-None c e k =
    let s = schema_in c.args.known.now in
    let q = capitals c.in-Redeclared.group in
    let a = capitals c.in-Redeclared.name in
    subst (λ x. AreNumbersOf s (λ p. MeansAttribute s e (attribute_of x) p (capitals (name_of x))) c.new.result.items)
    (sym c.in-Redeclared.is)
    (subst (AreNumbersOf s (λ p. MeansAttribute s e (redeclared q a) p a)) (sym c.new.ensures.items)
    (means-nothing s e q a (sym c.find.ensures ∙ c.in-None.is)))
