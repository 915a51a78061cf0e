use Rattle.std.proofs.Common.{rules}
use Rattle.step_records.proofs.RecordKeywords.{further_more}
use Rattle.step_records.proofs.records.keep_keyword.Goals as goal

pub returns : goal.returns
returns c = further_more c.args.words.now c.args.keyword c.args.further.now.keys c.insert.new.self.keys c.requires.kept
    c.requires.alone (search rules) c.in_ok-insert.ensures.keys
