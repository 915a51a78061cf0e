use Rattle.std.proofs.Common.{◌<◌, length, arith, rules}
use Rattle.std.proofs.lemmas.Bool.Decides.{nat_tests}
use Rattle.express_lexer.proofs.CodeLemmas.{group_given}
use Rattle.express_lexer.proofs.literal.codes.CodesIterator.next.Goals as goal

pub returns-clause-steps : goal.returns-clause-steps
returns-clause-steps c =
    let ds = c.args.self.now.digits.now in
    let some : 0 < length ds = grind (arith, nat_tests) in
    group_given ds _ _ _ _ some c.min.ensures c.split_at.ensures.front c.split_at.ensures.back c.number_of.ensures

pub returns-clause-goes : goal.returns-clause-goes
returns-clause-goes c =
    let ds = c.args.self.now.digits.now in
    let some : 0 < length ds = grind (arith, nat_tests) in
    let e = group_given ds _ _ _ _ some c.min.ensures c.split_at.ensures.front c.split_at.ensures.back
    c.number_of.ensures in
    search rules
