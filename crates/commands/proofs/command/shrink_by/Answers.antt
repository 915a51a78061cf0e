use Rattle.merge_choices.specs.ChosenEntities.{choice_of}
use Rattle.commands.proofs.Keeping.{makes_smaller, others_kept}
use Rattle.commands.proofs.Opening.{opens_six}
use Rattle.commands.proofs.command.shrink_by.Goals as goal

pub returns-clause-makes : goal.returns-clause-makes
returns-clause-makes g c = makes_smaller g.S.Store.contents g.S.Store.fails g.S.Writer.Sink.held
    g.S.Writer.Sink.has_failed _ _ _ _ _ _ _ c.args.asked.output.now c.args.asked.certificate.now c.requires.apart
    c.reader-schema.ensures.kept c.reader-file.ensures.kept c.writer-output.ensures.kept
    c.writer-certificate.ensures.kept c.keep.ensures.kept c.keep-2.ensures.kept (choice_of c.args.choice.now)
    c.args.choice.now.strict c.args.asked.schema.now c.args.asked.file.now _ _ _ _ _ _ _
    c.reader-schema.ensures.contents c.reader-schema.ensures.fails c.reader-schema.ensures.same
    c.reader-file.ensures.contents c.reader-file.ensures.fails c.writer-output.ensures.fresh
    c.writer-output.ensures.empty c.writer-certificate.ensures.fresh c.writer-certificate.ensures.empty
    c.run_shrink-status.ensures.runs c.keep.ensures.written c.keep-2.ensures.written

pub returns-clause-opened : goal.returns-clause-opened
returns-clause-opened g c = opens_six g.S.Store.opened _ _ _ _ _ _ _ _ _ _ _ _ _ c.reader-schema.ensures.opened
    c.reader-file.ensures.opened c.writer-output.ensures.opened c.writer-certificate.ensures.opened
    c.keep.ensures.opened c.keep-2.ensures.opened

pub returns-clause-kept : goal.returns-clause-kept
returns-clause-kept g c = others_kept g.S.Store.contents g.S.Store.fails g.S.Writer.Sink.held
    g.S.Writer.Sink.has_failed _ _ _ _ _ _ _ c.args.asked.output.now c.args.asked.certificate.now c.requires.apart
    c.reader-schema.ensures.kept c.reader-file.ensures.kept c.writer-output.ensures.kept
    c.writer-certificate.ensures.kept c.keep.ensures.kept c.keep-2.ensures.kept
