use Rattle.std.proofs.Common.{Some, None, sym, subst}
use Rattle.express_syntax.specs.ExpressionViews.{capitals}
use Rattle.express_syntax.specs.Schemas.{redeclared}
use Rattle.schema_names.specs.Schemas.{the_schema}
use Rattle.schema_attributes.specs.steps.Redeclaring.{IsRedeclaredAt}
use Rattle.schema_attributes.specs.steps.Gathering.{AddsAll, Says, SaysIs}
use Rattle.schema_attributes.proofs.Gathered.{adds-nothing, adds-alike}
use Rattle.schema_attributes.proofs.Redeclared.{is-true, not-false, none-redeclared, not-allowed, says-so}
use Rattle.schema_attributes.proofs.attribute_collection.add_redeclared.Goals as goal

pub returns-in_default : goal.returns-in_default
returns-in_default c =
    let s = the_schema c.args.sources.now.names.now in
    let d = c.args.declaration in
    let old = c.args.table.now in
    let n = capitals c.args.name in
    let (q, e) = c.requires.named in
    subst (λ y. AddsAll old (Says s c.args.class d y) old) (sym e)
    (adds-nothing old (Says s c.args.class d (redeclared q n))
    (none-redeclared s c.args.class d q n (subst (λ y. IsRedeclaredAt s y None) e c.in_default.ensures)))

pub returns-in_ok-add : goal.returns-in_ok-add
returns-in_ok-add c =
    let s = the_schema c.args.sources.now.names.now in
    let d = c.args.declaration in
    let i = c.in-Some.entity in
    let old = c.args.table.now in
    let new = c.add.new.self in
    let n = capitals c.args.name in
    let (q, e) = c.requires.named in
    let h = subst (λ y. IsRedeclaredAt s y (Some i)) e c.in-Some.ensures in
    let (p, a, ent, there, here, one) = h in
    let allowed = (c.if-allows.ensures p ent there).0 is-true in
    subst (λ y. AddsAll old (Says s c.args.class d y) new) (sym e)
    (adds-alike old new (SaysIs n (record { entity = i; data_type = d.data_type; derivation = d.derivation }))
    (Says s c.args.class d (redeclared q n)) (says-so s c.args.class d q n i h allowed) c.in_ok-add.ensures)

pub returns-else-allows : goal.returns-else-allows
returns-else-allows c =
    let s = the_schema c.args.sources.now.names.now in
    let d = c.args.declaration in
    let i = c.in-Some.entity in
    let old = c.args.table.now in
    let n = capitals c.args.name in
    let (q, e) = c.requires.named in
    let h = subst (λ y. IsRedeclaredAt s y (Some i)) e c.in-Some.ensures in
    let (p, a, ent, there, here, one) = h in
    subst (λ y. AddsAll old (Says s c.args.class d y) old) (sym e)
    (adds-nothing old (Says s c.args.class d (redeclared q n))
    (not-allowed s c.args.class d q n i h (λ yes. not-false ((c.if-allows.ensures p ent there).1 yes))))
