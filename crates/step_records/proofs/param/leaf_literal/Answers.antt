use Rattle.std.proofs.Common.{◌≡◌, sym, ◌∙◌, ap, subst}
use Rattle.step_structures.specs.Normal.{plain_tree}
use Rattle.step_records.specs.Cells.{leaf_as, IsSpelt}
use Rattle.step_records.proofs.Spellings.{reference_stays}
use Rattle.step_records.proofs.param.leaf_literal.Goals as goal

pub returns-in-Reference-clause-says : goal.returns-in-Reference-clause-says
returns-in-Reference-clause-says c =
    let spelt = subst (λ k. IsSpelt k c.args.spelling.now) c.in-Reference.is c.requires in
    ap (λ k. plain_tree (leaf_as k c.args.spelling.now)) c.in-Reference.is
    ∙ reference_stays c.args.spelling.now spelt.0 spelt.1 (sym c.is_shortest.ensures ∙ c.if-is_shortest.true)
