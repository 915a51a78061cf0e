use Rattle.std.proofs.Common.{◌≡◌, ◌∙◌, ◌∷◌, [], Some, true, false, sym, subst}
use Rattle.std.proofs.lemmas.Result.{IfOk-weaker}
use Rattle.graphs.specs.Graphs.{graph_of, has}
use Rattle.graphs.proofs.Found.{has-turned}
use Rattle.express_syntax.specs.ExpressionViews.{capitals}
use Rattle.express_syntax.specs.Schemas.{redeclared}
use Rattle.schema_semantics.specs.Parts.{NamesAttribute}
use Rattle.schema_explicit_attributes.specs.Supertypes.{is_or_leads}
use Rattle.schema_attribute_references.specs.steps.Taking.{schema_in}
use Rattle.schema_attribute_references.specs.steps.Named.{AreNumbersOf, is_one}
use Rattle.schema_attribute_references.proofs.Holding.{no-kind, own-only, only-one, no-one, kind-forth, group-known}
use Rattle.schema_attribute_references.proofs.unique_rule_names.taken_of_group.Goals as goal

pub returns-then-not-is_or_leads : goal.returns-then-not-is_or_leads
returns-then-not-is_or_leads c e q here group known =
    let s = schema_in c.args.known.now in
    let a = capitals c.args.name in
    let g = graph_of c.args.known.now.above.now in
    subst (AreNumbersOf s (λ p. NamesAttribute s e (redeclared q a) p a)) (sym c.new.ensures.items)
    (no-kind s g c.requires.known.above e q a c.args.entity c.args.group here group
    (sym c.is_or_leads.ensures ∙ c.if-not-is_or_leads.true))

pub returns-then-contains : goal.returns-then-contains
returns-then-contains c e q here group known =
    let s = schema_in c.args.known.now in
    let a = capitals c.args.name in
    let g = graph_of c.args.known.now.above.now in
    let up = c.requires.known.above in
    let i = c.args.entity in
    let n = c.args.group in
    let r : is_or_leads g (Some i) n ≡ true = sym c.is_or_leads.ensures ∙ c.if-not-is_or_leads.false in
    let there : has c.in_ok-row.row.items n ≡ true =
    subst (λ xs. has xs n ≡ true) c.deref.ensures.value
    (sym (c.contains.ensures.value ∙ has-turned c.deref.result.now n) ∙ c.if-contains.true) in
    IfOk-weaker c.single.result (λ t. t.items ≡ n ∷ [])
    (λ t. AreNumbersOf s (λ p. NamesAttribute s e (redeclared q a) p a) t.items)
    (λ t is. subst (AreNumbersOf s (λ p. NamesAttribute s e (redeclared q a) p a)) (sym is)
    (own-only s g up e q a i n here group
    (group-known s g up c.requires.known.resolved e q known (kind-forth s g up e q i n here group r)) r
    c.in_ok-row.row.items (c.in_ok-row.ensures q group) there)) c.single.ensures

pub returns-then-is_one : goal.returns-then-is_one
returns-then-is_one c e q here group known =
    let s = schema_in c.args.known.now in
    let a = capitals c.args.name in
    let g = graph_of c.args.known.now.above.now in
    let up = c.requires.known.above in
    let i = c.args.entity in
    let n = c.args.group in
    let r : is_or_leads g (Some i) n ≡ true = sym c.is_or_leads.ensures ∙ c.if-not-is_or_leads.false in
    let one : is_one c.in_ok-row.row.items ≡ true =
    subst (λ xs. is_one xs ≡ true) c.deref-2.ensures.value (sym c.is_one.ensures ∙ c.if-is_one.true) in
    only-one s g up e q a i n here group
    (group-known s g up c.requires.known.resolved e q known (kind-forth s g up e q i n here group r)) r
    c.in_ok-row.row.items (c.in_ok-row.ensures q group) one

pub returns : goal.returns
returns c e q here group known =
    let s = schema_in c.args.known.now in
    let a = capitals c.args.name in
    let g = graph_of c.args.known.now.above.now in
    let up = c.requires.known.above in
    let i = c.args.entity in
    let n = c.args.group in
    let r : is_or_leads g (Some i) n ≡ true = sym c.is_or_leads.ensures ∙ c.if-not-is_or_leads.false in
    let none : has c.in_ok-row.row.items n ≡ false =
    subst (λ xs. has xs n ≡ false) c.deref.ensures.value
    (sym (c.contains.ensures.value ∙ has-turned c.deref.result.now n) ∙ c.if-contains.false) in
    let several : is_one c.in_ok-row.row.items ≡ false =
    subst (λ xs. is_one xs ≡ false) c.deref-2.ensures.value (sym c.is_one.ensures ∙ c.if-is_one.false) in
    subst (AreNumbersOf s (λ p. NamesAttribute s e (redeclared q a) p a)) (sym c.new-2.ensures.items)
    (no-one s g up e q a i n here group
    (group-known s g up c.requires.known.resolved e q known (kind-forth s g up e q i n here group r)) r
    c.in_ok-row.row.items (c.in_ok-row.ensures q group) none several)
