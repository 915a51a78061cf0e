use Rattle.std.proofs.Common.{[], ◌∷◌, ◌++◌, ◌≡◌, map, sym, ap, ◌∙◌, refl}
use Rattle.std.proofs.lemmas.Result.{err_from_is_err_and}
use Rattle.express_token_runs.specs.steps.Items.{located_of}
use Rattle.express_syntax.specs.Views.{attribute_of}
use Rattle.express_entities.proofs.AttributeSteps.{lists_first, lists_next, lists_stop, lists_end, listed_not_over, attribute_smaller}
use Rattle.express_entities.proofs.attributes.attributes.Goals as goal
use Rattle.express_syntax.proofs.Lists.{map_push}

pub loop-list-init : goal.loop-list-init
loop-list-init c =
    let e : map attribute_of c.push.new.self.items ≡ attribute_of c.args.first ∷ [] = ap (map attribute_of)
    (c.in_ok-push.ensures.items ∙ ap (λ l. l ++ c.args.first ∷ []) c.new-list.ensures.items) in
    λ y listed. rw e (lists_first y (attribute_of c.args.first) (located_of c.args.next) c.args.reader.now)

pub returns-then-not-is_mark : goal.returns-then-not-is_mark
returns-then-not-is_mark c =
    λ y listed. rw c.shrink_to_fit.ensures.items ((
      c.loop-list.invariant y listed,
      sym c.is_mark.ensures
          ∙ c.if-not-is_mark.true,
    ))

pub returns-in_err-other : goal.returns-in_err-other
returns-in_err-other c =
    let p = err_from_is_err_and c.from_residual-in_err-other.result c.from_residual-in_err-other.ensures.1 in
    λ y listed. rw (p.1, p.2) (lists_stop _ y (attribute_of c.args.first) (located_of c.args.next) c.args.reader.now
    (map attribute_of c.loop-list.list.items) (located_of c.loop-list.item) c.loop-list.reader listed
    (c.loop-list.invariant y listed) (sym c.is_mark.ensures ∙ c.if-not-is_mark.false) c.in_err-other.ensures)

pub returns-in_err-item : goal.returns-in_err-item
returns-in_err-item c =
    let p = err_from_is_err_and c.from_residual-in_err-item.result c.from_residual-in_err-item.ensures.1 in
    λ y listed. rw (p.1, p.2) (lists_end _ y (attribute_of c.args.first) (located_of c.args.next) c.args.reader.now
    (map attribute_of c.loop-list.list.items) (located_of c.loop-list.item) c.loop-list.reader
    (attribute_of c.in_ok-other.other) c.attribute.new.reader listed (c.loop-list.invariant y listed)
    (sym c.is_mark.ensures ∙ c.if-not-is_mark.false) c.in_ok-other.ensures
    (c.in_err-item.ensures y (listed_not_over y listed)))

pub loop-list-preserved : goal.loop-list-preserved
loop-list-preserved c =
    let e : map attribute_of c.push-in-loop-list.new.self.items ≡ map attribute_of c.loop-list.list.items
    ++ attribute_of c.in_ok-other.other ∷ [] = ap (λ l. map attribute_of l) c.in_ok-push-2.ensures.items
    ∙ map_push attribute_of c.loop-list.list.items c.in_ok-other.other in
    λ y listed. rw e (lists_next y (attribute_of c.args.first) (located_of c.args.next) c.args.reader.now
    (map attribute_of c.loop-list.list.items) (located_of c.loop-list.item) c.loop-list.reader
    (attribute_of c.in_ok-other.other) c.attribute.new.reader (located_of c.in_ok-item.item) c.take.new.self listed
    (c.loop-list.invariant y listed) (sym c.is_mark.ensures ∙ c.if-not-is_mark.false) c.in_ok-other.ensures
    c.in_ok-item.ensures)

pub loop-list-smaller : goal.loop-list-smaller
loop-list-smaller c =
    attribute_smaller (located_of c.in_ok-item.item) (attribute_of c.in_ok-other.other) c.loop-list.reader
    c.attribute.new.reader c.take.new.self _ refl c.in_ok-other.ensures c.in_ok-item.ensures
