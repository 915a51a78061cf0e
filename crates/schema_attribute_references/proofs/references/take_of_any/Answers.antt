use Rattle.std.proofs.Common.{◌∙◌, sym, subst, ap}
use Rattle.std.proofs.lemmas.Result.{IfOk-weaker}
use Rattle.graphs.specs.Graphs.{graph_of}
use Rattle.express_syntax.specs.ExpressionViews.{capitals}
use Rattle.schema_semantics.specs.Names.{OneOf}
use Rattle.schema_semantics.specs.Sets.{of_set, WithSubtypes}
use Rattle.schema_names.specs.Numbers.{HasNumber}
use Rattle.schema_data_types.specs.steps.Values.{Holds}
use Rattle.schema_attribute_references.specs.steps.Taking.{schema_in, IsTaken}
use Rattle.schema_attribute_references.specs.steps.Entities.{OfNumbers, entity_numbers, with_subtypes}
use Rattle.schema_attribute_references.proofs.Kindred.{entities-forth, entities-back, subtypes-forth, subtypes-back}
use Rattle.schema_attribute_references.proofs.Reached.{taken-alike}
use Rattle.schema_attribute_references.proofs.references.take_of_any.Goals as goal

pub returns : goal.returns
returns c =
    let s = schema_in c.args.known.now in
    let k = c.requires.known in
    let xs = c.args.atoms.now in
    let above = graph_of c.args.known.now.above.now in
    let below = graph_of c.args.known.now.below.now in
    let is = entity_numbers xs in
    let numbers = c.deref-2.ensures.value ∙ c.in_ok-all.ensures
    ∙ ap (with_subtypes below) (c.deref.ensures.value ∙ c.in_ok-entities.ensures) in
    IfOk-weaker c.take_of_numbers.result _ (IsTaken s (of_set (WithSubtypes s (Holds s xs)) (capitals c.args.name)))
    (taken-alike s (OfNumbers s c.deref-2.result.now) (WithSubtypes s (Holds s xs)) (capitals c.args.name) (λ n. (
      (λ m. (let (e, one, kind) =
          subtypes-forth s above k.above below k.below is n (subst (OneOf (HasNumber s n)) numbers m) in
          (e, entities-back s xs e one, kind))),
      (λ (e, m, kind). subst (OneOf (HasNumber s n)) (sym numbers)
          (subtypes-back s above k.above below k.below is n e (entities-forth s xs e m) kind)),
    ))) c.take_of_numbers.ensures
