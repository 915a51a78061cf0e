use Rattle.step_records.proofs.Recording.{form_pushed, no_word, word_pushed}
use Rattle.step_records.proofs.records.form.Goals as goal

pub returns-then-branch : goal.returns-then-branch
returns-then-branch c = form_pushed c.record_params.result c.args.reader.now c.push_keyword.new.self
    c.record_params.new.reader (word_pushed c.in_ok-push_keyword.field-0 c.args.reader.now c.push_keyword.new.self
    c.if-branch.true c.in_ok-push_keyword.ensures) c.record_params.ensures

pub returns : goal.returns
returns c =
    let same = no_word c.in_ok-push_keyword.field-0 c.args.reader.now c.push_keyword.new.self c.if-branch.false
    c.in_ok-push_keyword.ensures in
    rw (← same) c.form_any.ensures
