use Rattle.std.proofs.Common.{◌∙◌, ◌<◌, ap, Some, arith, length}
use Rattle.std.specs.Prelude.{nat_lt}
use Rattle.value_equality.proofs.Ancestors.{seen_at}
use Rattle.value_equality.specs.TableViews.{origin_of, table_of}
use Rattle.certificate_checks.proofs.Parents.{none_before, none_in_time, parent_where}
use Rattle.certificate_checks.proofs.table_form.has_parent.Goals as goal

pub returns-then-parent-class : goal.returns-then-parent-class
returns-then-parent-class c =
    let at = seen_at origin_of c.args.table.now.classes.items c.args.class c.index.result.now c.requires c.index.ensures
    ∙ ap (λ o. Some (origin_of o)) c.in-Split.is in
    none_before (table_of c.args.table.now) c.args.class c.in-Split.parent c.in-Split.round at c.if-parent-class.true

pub returns-then-round-table : goal.returns-then-round-table
returns-then-round-table c =
    let at = seen_at origin_of c.args.table.now.classes.items c.args.class c.index.result.now c.requires c.index.ensures
    ∙ ap (λ o. Some (origin_of o)) c.in-Split.is in
    none_in_time (table_of c.args.table.now) c.args.class c.in-Split.parent c.in-Split.round at c.if-round-table.true

pub returns : goal.returns
returns c =
    let os = c.args.table.now.classes.items in
    let p = c.in-Split.parent in
    let r = c.in-Split.round in
    let at = seen_at origin_of os c.args.class c.index.result.now c.requires c.index.ensures
    ∙ ap (λ o. Some (origin_of o)) c.in-Split.is in
    let before : p < c.args.class = c.if-parent-class.false in
    let within : p < length os = omega (arith, before, c.requires) in
    let there = seen_at origin_of os p c.index-2.result.now within c.index-2.ensures in
    parent_where (table_of c.args.table.now) c.args.class p r at (origin_of c.index-2.result.now) there before
    c.if-round-table.false (nat_lt c.began.result r) (ap (λ n. nat_lt n r) c.began.ensures)
