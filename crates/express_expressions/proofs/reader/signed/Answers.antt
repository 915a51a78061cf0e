use Rattle.express_syntax.specs.Words.{Word}
use Rattle.express_syntax.specs.Trees.{Tree, word_of_sign}
use Rattle.express_syntax.specs.Grammar.{unary}
use Rattle.express_syntax.specs.steps.Reads.{Stands}
use Rattle.std.proofs.Common.{ℕ, List, ◌∷◌}
use Rattle.express_syntax.specs.ExpressionViews.{number_of}
use Rattle.express_expressions.specs.steps.Pieces.{words_from}
use Rattle.express_expressions.proofs.Primaries.{signed_none, signed_cut, signed_done}
use Rattle.express_expressions.proofs.Readings.{built}
use Rattle.express_expressions.proofs.reader.signed.Goals as goal

pub returns-in_default : goal.returns-in_default
returns-in_default c = λ n. signed_none n c.args.sign (words_from c.args.at c.args.lexemes.now) c.in_default.ensures

pub returns-else-is_unqualified : goal.returns-else-is_unqualified
returns-else-is_unqualified c = λ n. signed_cut n c.args.sign (words_from c.args.at c.args.lexemes.now)
    (number_of c.in-Some.number) (words_from c.in-Some.rest c.args.lexemes.now) c.in-Some.ensures
    c.if-is_unqualified.ensures

pub returns-then-is_unqualified : goal.returns-then-is_unqualified
returns-then-is_unqualified c =
    built _ (λ (x : Tree) (rest : List Word). (n : ℕ) → Stands n unary (word_of_sign c.args.sign
    ∷ words_from c.args.at c.args.lexemes.now) x rest) c.args.lexemes.now _ _ _ c.boxed.result c.signed.ensures
    c.boxed.ensures (λ n. signed_done n c.args.sign (words_from c.args.at c.args.lexemes.now)
    (number_of c.in-Some.number) (words_from c.in-Some.rest c.args.lexemes.now) c.in-Some.ensures
    c.if-is_unqualified.ensures)
