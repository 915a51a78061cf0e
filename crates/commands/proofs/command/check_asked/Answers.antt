use Rattle.std.proofs.Common.{◌∙◌, inl, inr, refl}
use Rattle.files.specs.Stores.{reader_seen}
use Rattle.commands.proofs.CheckRuns.{memory_checks}
use Rattle.commands.proofs.Keeping.{checks_as, is_stored, is_stored_first}
use Rattle.commands.proofs.Opening.{opens_two}
use Rattle.commands.proofs.command.check_asked.Goals as goal

pub returns-in-Err-clause-checks : goal.returns-in-Err-clause-checks
returns-in-Err-clause-checks g c = memory_checks _ _ _ _ refl c.report.ensures

pub returns-in-Err-clause-opened : goal.returns-in-Err-clause-opened
returns-in-Err-clause-opened g c = inr (refl, c.report.ensures)

pub returns-clause-checks : goal.returns-clause-checks
returns-clause-checks g c =
    let contents = g.S.Store.contents in
    let fails = g.S.Store.fails in
    let schema = is_stored_first contents fails c.args.store.now _
    (reader_seen g.S.Reader.Source.to_come g.S.Reader.Source.fails c.reader-schema.result)
    c.reader-schema.ensures.contents c.reader-schema.ensures.fails in
    let file = is_stored contents fails c.args.store.now _ _
    (reader_seen g.S.Reader.Source.to_come g.S.Reader.Source.fails c.reader-file.result) c.reader-schema.ensures.kept
    c.reader-schema.ensures.same c.reader-file.ensures.contents c.reader-file.ensures.fails in
    checks_as _ _ _ _ _ _ _ c.in-Ok.ensures schema file c.run_check.ensures.runs

pub returns-clause-opened : goal.returns-clause-opened
returns-clause-opened g c =
    inl (opens_two g.S.Store.opened _ _ _ _ _ c.reader-schema.ensures.opened c.reader-file.ensures.opened)

pub returns-clause-kept : goal.returns-clause-kept
returns-clause-kept g c path = c.reader-file.ensures.kept path ∙ c.reader-schema.ensures.kept path
