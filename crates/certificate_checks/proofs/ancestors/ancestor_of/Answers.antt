use Rattle.std.proofs.Common.{◌<◌, ◌∙◌, ap, Some, arith, length, get_or}
use Rattle.std.proofs.lemmas.Option.{slice_get-get_or}
use Rattle.value_equality.proofs.Ancestors.{seen_at}
use Rattle.value_equality.specs.TableViews.{origin_of, table_of}
use Rattle.certificate_checks.proofs.Climbing.{own_at_start, own_begun, ancestor_of_parent}
use Rattle.certificate_checks.proofs.ancestors.ancestor_of.Goals as goal

pub bounds-ancestors-parent : goal.bounds-ancestors-parent
bounds-ancestors-parent c =
    let at = seen_at origin_of c.args.table.now.classes.items c.args.class c.index.result.now c.requires.within
    c.index.ensures ∙ ap (λ o. Some (origin_of o)) c.in-Split.is in
    let before = (c.requires.well_formed.parents c.args.class c.in-Split.parent c.in-Split.since at).before in
    let each = c.requires.before.each in
    omega (arith, before, each)

pub returns-then-since-round : goal.returns-then-since-round
returns-then-since-round c =
    let at = seen_at origin_of c.args.table.now.classes.items c.args.class c.index.result.now c.requires.within
    c.index.ensures ∙ ap (λ o. Some (origin_of o)) c.in-Split.is in
    own_begun (table_of c.args.table.now) c.args.round c.args.class c.in-Split.parent c.in-Split.since at
    c.if-since-round.true

pub returns : goal.returns
returns c =
    let rs = c.args.ancestors.now in
    let p = c.in-Split.parent in
    let at = seen_at origin_of c.args.table.now.classes.items c.args.class c.index.result.now c.requires.within
    c.index.ensures ∙ ap (λ o. Some (origin_of o)) c.in-Split.is in
    let parent = c.requires.well_formed.parents c.args.class p c.in-Split.since at in
    let before = parent.before in
    let each = c.requires.before.each in
    let within : p < length rs = omega (arith, before, each) in
    ancestor_of_parent (table_of c.args.table.now) c.args.round c.args.class rs p c.in-Split.since (get_or rs p 0)
    c.requires.before at c.if-since-round.false parent (slice_get-get_or rs p 0 within)
