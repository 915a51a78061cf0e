use Rattle.std.proofs.Common.{ap, ◌∙◌, subst, sym, List}
use Rattle.express_syntax.specs.Words.{word_of, mark}
use Rattle.express_lexer.specs.declared.marks.Mark.TheVariants as marks
use Rattle.express_token_runs.specs.declared.runs.Bracket.{Bracket}
use Rattle.express_syntax.specs.steps.Predict.{Next, next_mark}
use Rattle.express_token_runs.specs.steps.OpenRuns.{part_of, brackets_of, Agrees}
use Rattle.express_token_runs.proofs.RunSteps.{agrees_word, step_beside}
use Rattle.express_token_runs.proofs.runs.step.Goals as goal

pub returns-in-Open : goal.returns-in-Open
returns-in-Open c =
    agrees_word (part_of c.args.part) c.args.around (brackets_of c.args.open.now.items)
    (brackets_of c.opened.new.open.items) c.args.some (word_of c.args.item.lexeme) (mark marks.Open)
    c.args.item.place c.opened.result (ap word_of c.in-Mark.is ∙ ap mark c.in-Open.is)
    (c.opened.ensures (part_of c.args.part))

pub returns-in-OpenBracket : goal.returns-in-OpenBracket
returns-in-OpenBracket c =
    agrees_word (part_of c.args.part) c.args.around (brackets_of c.args.open.now.items)
    (brackets_of c.opened-in-OpenBracket.new.open.items) c.args.some (word_of c.args.item.lexeme)
    (mark marks.OpenBracket) c.args.item.place c.opened-in-OpenBracket.result (ap word_of c.in-Mark.is
    ∙ ap mark c.in-OpenBracket.is) (c.opened-in-OpenBracket.ensures (part_of c.args.part))

pub returns-in-OpenBrace : goal.returns-in-OpenBrace
returns-in-OpenBrace c =
    agrees_word (part_of c.args.part) c.args.around (brackets_of c.args.open.now.items)
    (brackets_of c.opened-in-OpenBrace.new.open.items) c.args.some (word_of c.args.item.lexeme)
    (mark marks.OpenBrace) c.args.item.place c.opened-in-OpenBrace.result (ap word_of c.in-Mark.is
    ∙ ap mark c.in-OpenBrace.is) (c.opened-in-OpenBrace.ensures (part_of c.args.part))

pub returns-in-Close : goal.returns-in-Close
returns-in-Close c =
    agrees_word (part_of c.args.part) c.args.around (brackets_of c.args.open.now.items)
    (brackets_of c.closed.new.open.items) c.args.some (word_of c.args.item.lexeme) (mark marks.Close)
    c.args.item.place c.closed.result (ap word_of c.in-Mark.is ∙ ap mark c.in-Close.is)
    (c.closed.ensures c.args.around)

pub returns-in-CloseBracket : goal.returns-in-CloseBracket
returns-in-CloseBracket c =
    agrees_word (part_of c.args.part) c.args.around (brackets_of c.args.open.now.items)
    (brackets_of c.closed-in-CloseBracket.new.open.items) c.args.some (word_of c.args.item.lexeme)
    (mark marks.CloseBracket) c.args.item.place c.closed-in-CloseBracket.result (ap word_of c.in-Mark.is
    ∙ ap mark c.in-CloseBracket.is) (c.closed-in-CloseBracket.ensures c.args.around)

pub returns-in-CloseBrace : goal.returns-in-CloseBrace
returns-in-CloseBrace c =
    agrees_word (part_of c.args.part) c.args.around (brackets_of c.args.open.now.items)
    (brackets_of c.closed-in-CloseBrace.new.open.items) c.args.some (word_of c.args.item.lexeme)
    (mark marks.CloseBrace) c.args.item.place c.closed-in-CloseBrace.result (ap word_of c.in-Mark.is
    ∙ ap mark c.in-CloseBrace.is) (c.closed-in-CloseBrace.ensures c.args.around)

pub returns-in_default-mark : goal.returns-in_default-mark
returns-in_default-mark c =
    let part = part_of c.args.part in
    let n = c.args.around in
    let d = c.in_default-mark in
    let P : List Bracket → Type 0 = λ l. Agrees (next_mark part n (brackets_of l) c.args.some c.in-Mark.mark) part n
    (brackets_of l) c.args.item.place c.beside.result in
    let Q : Next → Type 0 = λ t. Agrees t part n (brackets_of c.args.open.now.items) c.args.item.place c.beside.result
    in
    agrees_word part n (brackets_of c.args.open.now.items) (brackets_of c.args.open.now.items) c.args.some
    (word_of c.args.item.lexeme) (mark c.in-Mark.mark) c.args.item.place c.beside.result (ap word_of c.in-Mark.is)
    (subst Q (sym (step_beside part n (brackets_of c.args.open.now.items) c.args.some c.in-Mark.mark d.not-Open
    d.not-Close d.not-OpenBracket d.not-CloseBracket d.not-OpenBrace d.not-CloseBrace))
    (subst P c.deref.ensures.value (c.beside.ensures n)))
