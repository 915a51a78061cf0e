use Rattle.std.proofs.Common.{refl, subst}
use Rattle.schema_semantics.specs.Parts.{AreUnchecked}
use Rattle.schema_names.specs.Schemas.{the_schema}
use Rattle.schema_unchecked_declarations.specs.UncheckedLists.{unchecked_in}
use Rattle.conformance.specs.Choices.{merge_options}
use Rattle.merge_choices.specs.ChosenEntities.{choice_of}
use Rattle.reports.specs.declared.fault.Fault.TheVariants.{Unchecked}
use Rattle.shrinking.specs.Shrinking.{written_to}
use Rattle.shrinking.proofs.Answering.{settled, unknown, unlooked}
use Rattle.shrinking.proofs.shrink.shrink_graph.Goals as goal

pub returns-then-is_refused-clause-shrinks : goal.returns-then-is_refused-clause-shrinks
returns-then-is_refused-clause-shrinks g c = λ text has.
    let s = the_schema c.args.graph.types.names in
    let refused = c.if-is_refused.ensures in
    unlooked (choice_of c.args.choice.now) c.args.choice.now.strict text (g.F.Source.to_come c.args.file.now)
    (g.O.Sink.held c.args.out.now) (g.C.Sink.held c.args.certificate.now) (Unchecked c.into_unchecked.result)
    (λ bytes. (
      (
        s,
        has.0,
        refused.0,
        c.into_unchecked.ensures,
        λ none. refused.1 (subst (λ us. ∥ AreUnchecked s (unchecked_in us) ∥₁) none c.into_unchecked.ensures),
      ),
      (refl, refl),
    ))

pub returns-in-Ok-clause-shrinks : goal.returns-in-Ok-clause-shrinks
returns-in-Ok-clause-shrinks g c = λ text has.
    let s = the_schema c.args.graph.types.names in
    let choice = choice_of c.args.choice.now in
    settled choice c.args.choice.now.strict text s (g.F.Source.to_come c.args.file.now)
    (written_to g.O.Sink.held c.args.out.now c.shrink_source.new.out)
    (written_to g.C.Sink.held c.args.certificate.now c.shrink_source.new.certificate) c.shrink_source.result has.0 c.if-is_refused.ensures
    c.in-Ok.ensures.0 (c.shrink_source.ensures.shrinks (merge_options s choice) (c.in-Ok.ensures.1.0, has.1))

pub returns-clause-shrinks : goal.returns-clause-shrinks
returns-clause-shrinks g c = λ text has.
    unknown (choice_of c.args.choice.now) c.args.choice.now.strict text
    (the_schema c.args.graph.types.names) (g.F.Source.to_come c.args.file.now)
    (g.O.Sink.held c.args.out.now) (g.C.Sink.held c.args.certificate.now) c.in-Err.fault c.of_schema.result
    c.of_schema.ensures has.0 c.if-is_refused.ensures c.in-Err.ensures
