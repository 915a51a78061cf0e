use Rattle.std.proofs.Common.{◌∙◌, sym, ap, subst, arith}
use Rattle.step_structures.specs.Words.{name, number, string}
use Rattle.conformance.specs.ParameterFits.{element, base_or_this}
use Rattle.step_records.specs.Params.{node_value}
use Rattle.step_records.proofs.Weights.{weight, lighter}
use Rattle.step_values.specs.steps.Building.{Building}
use Rattle.step_values.specs.Values.{sequence, bag}
use Rattle.schema_names.specs.Schemas.{the_schema}
use Rattle.schema_underlying_types.specs.BaseViews.{base_seen}
use Rattle.population_rows.specs.Index.{found}
use Rattle.parameter_fits.specs.steps.References.{AreFound, RefersWithin}
use Rattle.parameter_fits.proofs.Pushed.{reached, bag_gathered, sequence_gathered, some_pending, or_itself, refers_at, pushed_next, typed_closed, list_closed, as_asked, whatever_asked}
use Rattle.parameter_fits.proofs.values.+values.Goals as goal

pub push_value-push_node-requires : goal.push_value-push_node-requires
push_value-push_node-requires t c =
    let w = ap weight c.node.ensures in (
      omega (arith, c.decreases, w),
      (
        c.requires.bases,
        (
          c.requires.numbered,
          (
            c.requires.indexed,
            subst (RefersWithin (found c.args.index.now)) (sym c.node.ensures) c.requires.within,
          ),
        ),
      ),
    )

pub push_each-push_element-requires : goal.push_each-push_element-requires
push_each-push_element-requires t c =
    let less = lighter c.args.params.now c.loop-i.i c.at.result c.at.ensures in (
      omega (arith, less, c.decreases),
      (
        c.requires.bases,
        (
          c.requires.numbered,
          (
            subst (λ names. AreFound names (found c.args.index.now)) (sym c.loop-i.invariant.names) c.requires.indexed,
            refers_at (found c.args.index.now) c.args.params.now c.loop-i.i c.at.result c.at.ensures c.requires.within,
          ),
        ),
      ),
    )

pub push_each-loop-i-preserved : goal.push_each-loop-i-preserved
push_each-loop-i-preserved t c =
    let s = the_schema c.args.bases.now.names.now in
    let some = c.requires.bases.1.exists in
    record {
      names = ap (λ (b : Building). b.names) (c.in_ok-push_element.ensures some.0 some.1) ∙ c.loop-i.invariant.names;
      pushed = λ d h. pushed_next s d (element s d (base_seen s c.args.base.now)) c.args.builder.now c.loop-i.builder
          c.push_element.new.builder c.args.params.now c.loop-i.i c.at.result c.at.ensures
          (c.loop-i.invariant.pushed d h) (c.in_ok-push_element.ensures d h);
    }

pub push_element-push_reference-requires-clause-within : goal.push_element-push_reference-requires-clause-within
push_element-push_reference-requires-clause-within t c =
    subst (RefersWithin (found c.args.index.now)) (sym c.node.ensures ∙ ap node_value c.in-Reference.is) c.requires.within

pub push_element-push_inside-requires : goal.push_element-push_inside-requires
push_element-push_inside-requires t c = (
  omega (arith, c.decreases),
  (c.requires.bases, (c.requires.numbered, (c.requires.indexed, c.requires.within))),
)

pub push_element-returns-in-Number : goal.push_element-returns-in-Number
push_element-returns-in-Number t c =
    let s = the_schema c.args.bases.now.names.now in
    whatever_asked s c.args.builder.now c.push_number.new.self (λ d. element s d (base_seen s c.args.base.now))
    (number c.in-Number.literal.text.now) c.args.param (ap node_value (sym c.in-Number.is) ∙ c.node.ensures)
    c.push_number.result c.push_number.ensures

pub push_element-returns-in-Text : goal.push_element-returns-in-Text
push_element-returns-in-Text t c =
    let s = the_schema c.args.bases.now.names.now in
    whatever_asked s c.args.builder.now c.push_text.new.self (λ d. element s d (base_seen s c.args.base.now))
    (string c.in-Text.text.text.now) c.args.param (ap node_value (sym c.in-Text.is) ∙ c.node.ensures)
    c.push_text.result c.push_text.ensures

pub push_element-returns-in-Reference : goal.push_element-returns-in-Reference
push_element-returns-in-Reference t c =
    let s = the_schema c.args.bases.now.names.now in
    whatever_asked s c.args.builder.now c.push_reference.new.builder (λ d. element s d (base_seen s c.args.base.now))
    (name c.in-Reference.name _) c.args.param (ap node_value (sym c.in-Reference.is) ∙ c.node.ensures)
    c.push_reference.result c.push_reference.ensures

pub push_inside-push_value-requires : goal.push_inside-push_value-requires
push_inside-push_value-requires t c = (
  omega (arith, c.decreases),
  (c.requires.bases, (c.element-inside.ensures.numbered, (c.requires.indexed, c.requires.within))),
)

pub push_inside-returns : goal.push_inside-returns
push_inside-returns t c =
    let s = the_schema c.args.bases.now.names.now in
    as_asked s c.args.builder.now c.push_value.new.builder (base_seen s c.element-inside.result)
    (λ d. element s d (base_seen s c.args.base.now)) c.args.param c.element-inside.ensures.says c.push_value.result
    c.push_value.ensures

pub push_list-close_bag-requires : goal.push_list-close_bag-requires
push_list-close_bag-requires t c =
    let some = c.requires.bases.1.exists in
    reached c.args.builder.now c.push_each.new.builder _ c.pending_len-mark.result
    (c.in_ok-push_each.ensures some.0 some.1) c.pending_len-mark.ensures

pub push_list-close_sequence-requires : goal.push_list-close_sequence-requires
push_list-close_sequence-requires t c =
    let some = c.requires.bases.1.exists in
    reached c.args.builder.now c.push_each.new.builder _ c.pending_len-mark.result
    (c.in_ok-push_each.ensures some.0 some.1) c.pending_len-mark.ensures

pub push_list-returns-then-has_no_order : goal.push_list-returns-then-has_no_order
push_list-returns-then-has_no_order t c =
    let s = the_schema c.args.bases.now.names.now in
    let some = c.requires.bases.1.exists in
    list_closed s bag c.args.builder.now c.push_each.new.builder c.close_bag.new.self
    c.pending_len-mark.result c.pending_len-mark.ensures (base_seen s c.args.base.now) c.args.params.now
    (λ vs. bag_gathered (base_seen s c.args.base.now) vs (sym (c.has_no_order.ensures s) ∙ c.if-has_no_order.true))
    some c.in_ok-push_each.ensures c.close_bag.result c.close_bag.ensures

pub push_list-returns-else-has_no_order : goal.push_list-returns-else-has_no_order
push_list-returns-else-has_no_order t c =
    let s = the_schema c.args.bases.now.names.now in
    let some = c.requires.bases.1.exists in
    list_closed s sequence c.args.builder.now c.push_each.new.builder c.close_sequence.new.self
    c.pending_len-mark.result c.pending_len-mark.ensures (base_seen s c.args.base.now) c.args.params.now
    (λ vs. sequence_gathered (base_seen s c.args.base.now) vs (sym (c.has_no_order.ensures s) ∙ c.if-has_no_order.false))
    some c.in_ok-push_each.ensures c.close_sequence.result c.close_sequence.ensures

pub push_node-push_typed-requires : goal.push_node-push_typed-requires
push_node-push_typed-requires t c =
    let w = ap (λ n. weight (node_value n)) c.in-Typed.is in (
      omega (arith, c.decreases, w),
      (
        c.requires.bases,
        (
          c.requires.numbered,
          (
            c.requires.indexed,
            subst (λ n. RefersWithin (found c.args.index.now) (node_value n)) c.in-Typed.is c.requires.within,
          ),
        ),
      ),
    )

pub push_typed-close_typed-requires : goal.push_typed-close_typed-requires
push_typed-close_typed-requires t c =
    let some = c.requires.bases.1.exists in
    some_pending c.args.builder.now c.push_value.new.builder _ (c.in_ok-push_value.ensures some.0 some.1)

pub push_typed-returns : goal.push_typed-returns
push_typed-returns t c =
    let s = the_schema c.args.bases.now.names.now in
    let some = c.requires.bases.1.exists in
    typed_closed s c.args.builder.now c.push_value.new.builder c.close_typed.new.self
    (base_seen s c.args.base.now) (base_seen s c.unwrap_or-within.result) c.args.word.text.now c.args.inner.now some
    (λ d h. ap (base_seen s) c.unwrap_or-within.ensures
    ∙ or_itself s d (base_seen s) c.item.result c.args.base.now
    ∙ ap (base_or_this s d (base_seen s c.args.base.now)) (c.item.ensures.says d h))
    c.in_ok-push_value.ensures c.close_typed.result c.close_typed.ensures.names c.close_typed.ensures.typed
