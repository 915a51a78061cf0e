use Rattle.std.proofs.Common.{refl, sym, subst, IfOk, ◌∙◌}
use Rattle.std.proofs.lemmas.Result.{IfOk-weaker}
use Rattle.express_syntax.specs.ExpressionViews.{capitals}
use Rattle.express_syntax.specs.Schemas.{own, redeclared}
use Rattle.express_syntax.specs.Clauses.{name_of}
use Rattle.express_syntax.specs.Views.{attribute_of}
use Rattle.schema_semantics.specs.Names.{Has}
use Rattle.schema_semantics.specs.Parts.{NamesAttribute}
use Rattle.schema_attribute_references.specs.steps.Taking.{schema_in}
use Rattle.schema_attribute_references.specs.steps.Named.{AreNumbersOf, AreHolders}
use Rattle.schema_attribute_references.proofs.Holding.{numbers-alike, no-group}
use Rattle.schema_attribute_references.proofs.unique_rule_names.named.Goals as goal

pub returns-in-Unqualified : goal.returns-in-Unqualified
returns-in-Unqualified c e k known =
    let s = schema_in c.args.known.now in
    let n = capitals c.in-Unqualified.name in
    subst (λ x. IfOk c.holders.result
    (λ t. AreNumbersOf s (λ p. NamesAttribute s e (attribute_of x) p (capitals (name_of x))) t.items))
    (sym c.in-Unqualified.is)
    (IfOk-weaker c.holders.result (λ t. AreHolders s e n t.items)
    (λ t. AreNumbersOf s (λ p. NamesAttribute s e (own n) p n) t.items)
    (λ t h. numbers-alike s (λ p. Has s e p n) (λ p. NamesAttribute s e (own n) p n)
    (λ p. ((λ m. (refl, m)), (λ m. m.1))) t.items h) (c.holders.ensures e k))

pub returns-in-Some : goal.returns-in-Some
returns-in-Some c e k known =
    let s = schema_in c.args.known.now in
    subst (λ x. IfOk c.taken_of_group.result
    (λ t. AreNumbersOf s (λ p. NamesAttribute s e (attribute_of x) p (capitals (name_of x))) t.items))
    (sym c.in-Redeclared.is)
    (c.taken_of_group.ensures e (capitals c.in-Redeclared.group) k (sym c.find.ensures ∙ c.in-Some.is) known)

pub returns-in-None : goal.returns-in-None
returns-in-None c e k known =
    let s = schema_in c.args.known.now in
    let q = capitals c.in-Redeclared.group in
    let a = capitals c.in-Redeclared.name in
    subst (λ x. AreNumbersOf s (λ p. NamesAttribute s e (attribute_of x) p (capitals (name_of x))) c.new.result.items)
    (sym c.in-Redeclared.is)
    (subst (AreNumbersOf s (λ p. NamesAttribute s e (redeclared q a) p a)) (sym c.new.ensures.items)
    (no-group s e q a (sym c.find.ensures ∙ c.in-None.is)))
