use Rattle.std.proofs.Common.{[], ◌∷◌, refl}
use Rattle.express_lexer.specs.declared.marks.Mark.TheVariants as marks
use Rattle.express_syntax.specs.Words.{mark}
use Rattle.express_entities.proofs.ClauseSteps.{not_where}
use Rattle.express_entities.proofs.clauses.some_rules.Goals as goal

pub returns-in_ok-expect-in_default-clause-read : goal.returns-in_ok-expect-in_default-clause-read
returns-in_ok-expect-in_default-clause-read c =
    let e = not_where c.args.from c.requires c.in_default.not-Where in
    rw e (tt, mark marks.Semicolon ∷ [], refl, c.in_ok-expect-in_default.ensures)
