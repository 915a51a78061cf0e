use Rattle.std.proofs.Common.{◌≡◌, ◌∙◌, ap, subst, arith, List, Some, slice_get}
use Rattle.schema_names.specs.Schemas.{the_schema}
use Rattle.schema_data_types.specs.declared.forms.Form.{Form}
use Rattle.schema_data_types.specs.declared.shapes.Shape.{Shape}
use Rattle.schema_data_types.specs.steps.Making.{shape_seen}
use Rattle.schema_data_types.proofs.ShapeTables.{made-more, count-more, are-shapes}
use Rattle.schema_data_types.proofs.shape_table.shapes.Goals as goal

pub loop-number-preserved : goal.loop-number-preserved
loop-number-preserved c =
    let forms = c.args.data_types.now.forms.items in
    let declared = c.in_ok-declared.declared.items in
    let i = c.loop-number.number in
    let is : c.shape_at.result ≡ shape_seen declared i (slice_get forms i) = c.shape_at.ensures
    ∙ ap (λ (xs : List Form). shape_seen c.deref-in-loop-number.result.now i (slice_get xs i)) c.deref.ensures.value
    ∙ ap (λ (xs : List Shape). shape_seen xs i (slice_get forms i)) c.deref-in-loop-number.ensures.value in
    record {
      count = count-more c.loop-number.shapes.items c.push.new.self.items c.shape_at.result i
          c.loop-number.invariant.count c.in_ok-push.ensures.items;
      made = λ n x h. made-more forms declared c.loop-number.shapes.items c.shape_at.result i
          c.loop-number.invariant.count is c.loop-number.invariant.made n x
          (subst (λ (xs : List Shape). slice_get xs n ≡ Some x) c.in_ok-push.ensures.items h);
    }

pub returns : goal.returns
returns c =
    let count = c.loop-number.invariant.count in
    are-shapes (the_schema c.args.names.now) c.in_ok-declared.declared.items c.in_ok-declared.ensures
    c.args.data_types.now.forms.items c.requires.forms c.loop-number.shapes.items (omega (arith, count))
    c.loop-number.invariant.made
