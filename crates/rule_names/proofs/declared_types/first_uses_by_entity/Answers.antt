use Rattle.std.proofs.Common.{◌≡◌, ◌∙◌, ◌<◌, length, get_or, ap, subst}
use Rattle.schema_names.proofs.Ordered.{rows-more}
use Rattle.rule_names.specs.steps.Declaring.{AreFirst}
use Rattle.rule_names.proofs.declared_types.first_uses_by_entity.Goals as goal

pub loop-row-preserved : goal.loop-row-preserved
loop-row-preserved c =
    let rows = c.args.uses.now.explicit.items in
    let k = c.loop-row.row-index in
    let same = c.deref-row-items.ensures.value in
    let lt : k < length rows = subst (λ xs. k < length xs) same c.loop-row-test.true in
    let at : c.row-item.result ≡ get_or rows k c.row-item.result =
    c.row-item.is ∙ ap (λ xs. get_or xs k c.row-item.result) same in
    let first : AreFirst c.row-item.result.items c.in_ok-first_uses.field-0 =
    subst (λ us. AreFirst us c.in_ok-first_uses.field-0) c.deref.ensures.value c.in_ok-first_uses.ensures in
    rows-more (λ v t. AreFirst v.items t) rows k c.row-item.result c.loop-row.rows.items c.push.new.self.items
    c.in_ok-first_uses.field-0 lt at c.loop-row.invariant first c.in_ok-push.ensures.items
