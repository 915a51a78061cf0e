use Rattle.std.proofs.Common.{refl, sym, ap, ◌∙◌, ◌≡◌}
use Rattle.std.proofs.lemmas.Result.{err_from_is_err_and}
use Rattle.step_structures.specs.Words.{token}
use Rattle.step_structures.specs.steps.Predict.{Value, Items, EndOfText}
use Rattle.step_records.specs.Cells.{all_of}
use Rattle.step_records.specs.steps.Readers.{reading}
use Rattle.step_records.proofs.ParamSteps.{inner_err_first, inner_err_close, items_err_first, items_err_token, items_err_next, items_smaller, typed_err}
use Rattle.step_records.proofs.Pushing.{pushed_item, not_pushed, next_begins, not_begun, list_taken, list_stops, item_taken, first_taken, item_err_value, begins_some, begins_none, items_empty, items_begin, items_go_on, items_end, a_comma, a_close, inner_whole, typed_whole, keyword_leaf}
use Rattle.step_records.proofs.params.+params.Goals as goal

pub inner-returns-in_err-item : goal.inner-returns-in_err-item
inner-returns-in_err-item t c =
    let p = err_from_is_err_and c.from_residual-in_err-item.result c.from_residual-in_err-item.ensures.1 in
    rw (p.1, p.2) (inner_err_first _ c.args.depth (reading c.args.reader.now) (reading c.expect.new.reader)
    c.in_ok-expect.ensures.1 c.in_err-item.ensures)

pub inner-returns-in_err-expect-2 : goal.inner-returns-in_err-expect-2
inner-returns-in_err-expect-2 t c =
    let p = err_from_is_err_and c.from_residual-in_err-expect-2.result c.from_residual-in_err-expect-2.ensures.1 in
    let x = c.in_ok-item.ensures in
    let v = x.value in
    rw (p.1, p.2) (inner_err_close _ c.args.depth (reading c.args.reader.now) (reading c.expect.new.reader)
    x.token (reading x.mid) v.tree (reading c.item.new.reader) c.in_ok-expect.ensures.1 x.taken (v.fits, v.passes)
    c.in_err-expect-2.ensures)

pub inner-returns : goal.inner-returns
inner-returns t c =
    let x = c.in_ok-item.ensures in
    inner_whole c.args.depth c.args.reader.now c.expect.new.reader x.mid c.item.new.reader c.expect-2.new.reader x.token
    c.in_ok-expect.ensures.0 c.in_ok-expect.ensures.1 x.taken x.same x.value c.in_ok-expect-2.ensures.0
    c.in_ok-expect-2.ensures.1

pub next_item-returns-then-branch : goal.next_item-returns-then-branch
next_item-returns-then-branch t c = pushed_item c.in_ok-push_next.field-0 c.args.depth c.args.reader.now
    c.push_next.new.self c.if-branch.true c.in_ok-push_next.ensures

pub next_item-returns-in_err-list : goal.next_item-returns-in_err-list
next_item-returns-in_err-list t c =
    let p = err_from_is_err_and c.from_residual-in_err-list.result c.from_residual-in_err-list.ensures.1 in
    let same = not_pushed c.in_ok-push_next.field-0 c.args.reader.now c.push_next.new.self c.if-branch.false
    c.in_ok-push_next.ensures in
    rw (p.1, p.2) (list_stops c.args.depth c.args.reader.now c.push_next.new.self c.skip_mark.new.self same
    c.skip_mark.result c.if-not-skip_mark.false c.skip_mark.ensures.skips c.skip_mark.ensures.built _
    c.in_err-list.ensures)

pub next_item-returns : goal.next_item-returns
next_item-returns t c =
    let same = not_pushed c.in_ok-push_next.field-0 c.args.reader.now c.push_next.new.self c.if-branch.false
    c.in_ok-push_next.ensures in
    list_taken c.args.depth c.args.reader.now c.push_next.new.self c.skip_mark.new.self same c.skip_mark.result
    c.if-not-skip_mark.false c.skip_mark.ensures.skips c.skip_mark.ensures.built c.list.new.reader c.in_ok-list.ensures

pub item_any-returns-in_err-first : goal.item_any-returns-in_err-first
item_any-returns-in_err-first t c =
    let p = err_from_is_err_and c.from_residual.result c.from_residual.ensures.1 in
    rw (p.1, p.2) (c.in_err-first.ensures (Value c.args.depth) (λ (e : Value c.args.depth ≡ EndOfText). cc))

pub item_any-returns-in_err-value : goal.item_any-returns-in_err-value
item_any-returns-in_err-value t c =
    let p = err_from_is_err_and c.from_residual-in_err-value.result c.from_residual-in_err-value.ensures.1 in
    rw (p.1, p.2) (item_err_value _ c.args.depth c.args.reader.now c.args.reader.now c.take.new.reader
    c.in_ok-first.first refl c.in_ok-first.ensures.0 c.in_err-value.ensures)

pub item_any-returns : goal.item_any-returns
item_any-returns t c = item_taken c.args.depth c.args.reader.now c.args.reader.now c.take.new.reader
    c.value.new.reader c.in_ok-first.first refl c.in_ok-first.ensures.0 c.in_ok-first.ensures.1 c.in_ok-value.ensures

pub item-returns-then-branch : goal.item-returns-then-branch
item-returns-then-branch t c = (next_begins c.in_ok-next_item.field-0 c.args.depth c.args.reader.now
    c.next_item.new.reader c.if-branch.true c.in_ok-next_item.ensures).0

pub item-returns : goal.item-returns
item-returns t c =
    let same = not_begun c.in_ok-next_item.field-0 c.args.depth c.args.reader.now c.next_item.new.reader
    c.if-branch.false c.in_ok-next_item.ensures in
    rw (← same) c.item_any.ensures

pub first_item_any-returns-in_err-first : goal.first_item_any-returns-in_err-first
first_item_any-returns-in_err-first t c =
    let p = err_from_is_err_and c.from_residual.result c.from_residual.ensures.1 in
    rw (p.1, p.2) (c.in_err-first.ensures (Items c.args.depth) (λ (e : Items c.args.depth ≡ EndOfText). cc))

pub first_item_any-returns-then-is_mark : goal.first_item_any-returns-then-is_mark
first_item_any-returns-then-is_mark t c = items_empty c.args.depth c.args.reader.now c.take.new.reader
    c.in_ok-first.first c.in_ok-first.ensures.0 c.in_ok-first.ensures.1 (sym c.is_mark.ensures ∙ c.if-is_mark.true)

pub first_item_any-returns-in_err-value : goal.first_item_any-returns-in_err-value
first_item_any-returns-in_err-value t c =
    let p = err_from_is_err_and c.from_residual-in_err-value.result c.from_residual-in_err-value.ensures.1 in
    rw (p.1, p.2) (items_err_first _ c.args.depth c.in_ok-first.first (reading c.args.reader.now)
    (reading c.take.new.reader) c.in_ok-first.ensures.0 (sym c.is_mark.ensures ∙ c.if-is_mark.false)
    c.in_err-value.ensures)

pub first_item_any-returns : goal.first_item_any-returns
first_item_any-returns t c = first_taken c.args.depth c.args.reader.now c.args.reader.now c.take.new.reader
    c.value.new.reader c.in_ok-first.first refl c.in_ok-first.ensures.0 c.in_ok-first.ensures.1
    (sym c.is_mark.ensures ∙ c.if-is_mark.false) c.in_ok-value.ensures

pub first_item-returns-then-branch : goal.first_item-returns-then-branch
first_item-returns-then-branch t c = next_begins c.in_ok-next_item.field-0 c.args.depth c.args.reader.now
    c.next_item.new.reader c.if-branch.true c.in_ok-next_item.ensures

pub first_item-returns : goal.first_item-returns
first_item-returns t c =
    let same = not_begun c.in_ok-next_item.field-0 c.args.depth c.args.reader.now c.next_item.new.reader
    c.if-branch.false c.in_ok-next_item.ensures in
    rw (← same) c.first_item_any.ensures

pub items-returns-then-not-branch : goal.items-returns-then-not-branch
items-returns-then-not-branch t c = begins_none c.in_ok-first_item.field-0 c.args.depth c.args.reader.now
    c.first_item.new.reader c.if-not-branch.true c.in_ok-first_item.ensures

pub items-loop-reader-init : goal.items-loop-reader-init
items-loop-reader-init t c =
    let x = begins_some c.in_ok-first_item.field-0 c.args.depth c.args.reader.now c.first_item.new.reader
    c.if-not-branch.false c.in_ok-first_item.ensures in
    items_begin c.args.depth c.args.reader.now x.0.mid c.first_item.new.reader x.0.token x.0.taken x.0.same x.1 x.0.value

pub items-returns-in_err-goes_on : goal.items-returns-in_err-goes_on
items-returns-in_err-goes_on t c =
    let p = err_from_is_err_and c.from_residual-in_err-goes_on.result c.from_residual-in_err-goes_on.ensures.1 in
    let s = c.loop-reader.invariant in
    rw (p.1, p.2) (items_err_token _ c.args.depth (reading c.args.reader.now) (all_of s.trees)
    (reading c.loop-reader.reader) s.so (c.in_err-goes_on.ensures c.args.depth))

pub items-returns : goal.items-returns
items-returns t c =
    let g = c.in_ok-goes_on.ensures in
    items_end c.args.depth c.args.reader.now c.loop-reader.reader c.goes_on.new.reader g.token c.loop-reader.invariant
    g.taken g.same (a_close c.in_ok-goes_on.field-0 c.loop-reader.reader c.goes_on.new.reader c.if-branch.false g)

pub items-returns-in_err-item : goal.items-returns-in_err-item
items-returns-in_err-item t c =
    let p = err_from_is_err_and c.from_residual-in_err-item.result c.from_residual-in_err-item.ensures.1 in
    let s = c.loop-reader.invariant in
    let g = c.in_ok-goes_on.ensures in
    rw (p.1, p.2) (items_err_next _ c.args.depth (reading c.args.reader.now) (all_of s.trees)
    (reading c.loop-reader.reader) g.token (reading c.goes_on.new.reader) s.so g.taken
    (a_comma c.in_ok-goes_on.field-0 c.loop-reader.reader c.goes_on.new.reader c.if-branch.true g)
    c.in_err-item.ensures)

pub items-loop-reader-smaller : goal.items-loop-reader-smaller
items-loop-reader-smaller t c =
    let x = c.in_ok-item.ensures in
    let v = x.value in
    let g = c.in_ok-goes_on.ensures in
    items_smaller (reading c.loop-reader.reader) g.token (reading c.goes_on.new.reader) x.token (reading x.mid)
    c.args.depth v.tree (reading c.item.new.reader) g.taken x.taken (v.fits, v.passes)

pub items-loop-reader-preserved : goal.items-loop-reader-preserved
items-loop-reader-preserved t c =
    let x = c.in_ok-item.ensures in
    let g = c.in_ok-goes_on.ensures in
    items_go_on c.args.depth c.args.reader.now c.loop-reader.reader c.goes_on.new.reader x.mid c.item.new.reader g.token
    x.token c.loop-reader.invariant g.taken g.same
    (a_comma c.in_ok-goes_on.field-0 c.loop-reader.reader c.goes_on.new.reader c.if-branch.true g)
    x.taken x.same x.value

pub typed-returns-in_err-inner : goal.typed-returns-in_err-inner
typed-returns-in_err-inner t c =
    let p = err_from_is_err_and c.from_residual-in_err-inner.result c.from_residual-in_err-inner.ensures.1 in
    let key = keyword_leaf c.args.first.sort c.args.first.text.now c.requires.keyword in
    rw (p.1, p.2) (typed_err _ c.args.depth c.args.first key.0 (reading c.args.reader.now) c.requires.depth
    (ap token key.1) (rw (← ap reading c.in_ok-push_leaf.ensures) c.in_err-inner.ensures))

pub typed-returns : goal.typed-returns
typed-returns t c = typed_whole c.args.depth c.args.first c.pending_len-mark.result c.args.reader.now
    c.push_leaf.new.self c.inner.new.reader c.close_typed.new.self c.requires.depth c.requires.keyword
    c.pending_len-mark.ensures c.in_ok-push_leaf.ensures c.in_ok-inner.ensures c.in_ok-close_typed.ensures
