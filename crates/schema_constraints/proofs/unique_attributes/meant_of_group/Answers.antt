use Rattle.std.proofs.Common.{◌≡◌, ◌∙◌, ◌∷◌, [], true, false, sym, subst}
use Rattle.std.proofs.lemmas.Result.{IfOk-weaker}
use Rattle.graphs.specs.Graphs.{has}
use Rattle.graphs.proofs.Found.{has-turned}
use Rattle.express_syntax.specs.ExpressionViews.{capitals}
use Rattle.express_syntax.specs.Schemas.{redeclared}
use Rattle.schema_attribute_references.specs.steps.Taking.{schema_in}
use Rattle.schema_attribute_references.specs.steps.Named.{AreNumbersOf}
use Rattle.conformance.specs.Rules.{MeansAttribute}
use Rattle.schema_constraints.proofs.Meaning.{means-own-only, means-inherited}
use Rattle.schema_constraints.proofs.unique_attributes.meant_of_group.Goals as goal

pub returns-then-contains : goal.returns-then-contains
returns-then-contains c e q group =
    let s = schema_in c.args.known.now in
    let a = capitals c.args.name in
    let n = c.args.group in
    let there : has c.in_ok-row.row.items n ≡ true =
    subst (λ xs. has xs n ≡ true) c.deref.ensures.value
    (sym (c.contains.ensures.value ∙ has-turned c.deref.result.now n) ∙ c.if-contains.true) in
    IfOk-weaker c.single.result (λ t. t.items ≡ n ∷ [])
    (λ t. AreNumbersOf s (λ p. MeansAttribute s e (redeclared q a) p a) t.items)
    (λ t is. subst (AreNumbersOf s (λ p. MeansAttribute s e (redeclared q a) p a)) (sym is)
    (means-own-only s e q a n group c.in_ok-row.row.items (c.in_ok-row.ensures q group) there)) c.single.ensures

pub returns : goal.returns
returns c e q group =
    let s = schema_in c.args.known.now in
    let a = capitals c.args.name in
    let n = c.args.group in
    let none : has c.in_ok-row.row.items n ≡ false =
    subst (λ xs. has xs n ≡ false) c.deref.ensures.value
    (sym (c.contains.ensures.value ∙ has-turned c.deref.result.now n) ∙ c.if-contains.false) in
    means-inherited s e q a n group c.in_ok-row.row.items (c.in_ok-row.ensures q group) none
