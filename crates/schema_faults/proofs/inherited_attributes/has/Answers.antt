use Rattle.std.proofs.Common.{rules, ◌∙◌, ap, sym, refl, arith}
use Rattle.std.specs.List.{list_any}
use Rattle.graphs.proofs.RowLists.{row-is}
use Rattle.express_syntax.specs.ExpressionViews.{capitals}
use Rattle.schema_names.specs.Schemas.{the_schema}
use Rattle.schema_explicit_attributes.specs.steps.Owned.{declares_at}
use Rattle.schema_faults.proofs.inherited_attributes.has.Goals as goal

pub returns : goal.returns
returns c =
    let f = declares_at (the_schema c.args.names.now) c.args.meant (capitals c.args.name) in
    let found = c.in-Some.ensures.lookup in
    let xs = c.deref.result.now in
    let row =
    row-is (λ v. v.items) c.args.above.now c.args.number c.in-Some.uppers.now xs
    (omega (arith, found.0)) found.1 c.deref.ensures.value in
    rw (sym c.declares_at.ensures ∙ c.if-declares_at.false) (c.any_declares.ensures ∙ ap (list_any f) row)
