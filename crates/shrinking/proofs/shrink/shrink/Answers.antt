use Rattle.std.proofs.Common.{Some, arith}
use Rattle.files.specs.declared.read.ReadFault.TheVariants.{TooLarge}
use Rattle.merge_choices.specs.ChosenEntities.{choice_of}
use Rattle.shrinking.proofs.Answering.{schema_not_given}
use Rattle.shrinking.proofs.shrink.shrink.Goals as goal

pub returns-then-schema-gt-LIMIT-clause-shrinks : goal.returns-then-schema-gt-LIMIT-clause-shrinks
returns-then-schema-gt-LIMIT-clause-shrinks g c =
    let large = c.if-schema-gt-LIMIT.true in
    schema_not_given (choice_of c.args.choice.now) c.args.choice.now.strict (Some c.args.schema.now)
    (g.F.Source.to_come c.args.file.now) (g.O.Sink.held c.args.out.now) (g.C.Sink.held c.args.certificate.now) TooLarge
    c.too_large.result c.too_large.ensures (λ is. omega (arith, large))
