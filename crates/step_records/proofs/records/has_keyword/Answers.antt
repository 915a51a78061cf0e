use Rattle.step_records.proofs.RecordKeywords.{said_first, said_behind}
use Rattle.step_records.proofs.records.has_keyword.Goals as goal

pub returns-then-is_among : goal.returns-then-is_among
returns-then-is_among c = said_first c.args.keyword c.args.words.now c.is_among-2.result c.is_among-2.ensures
    c.if-is_among.true

pub returns-else-is_among : goal.returns-else-is_among
returns-else-is_among c = said_behind c.args.keyword c.args.words.now c.args.further.now.keys c.is_among-2.result
    c.contains.result c.is_among-2.ensures c.if-is_among.false c.requires c.contains.ensures
