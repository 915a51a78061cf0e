use Rattle.std.proofs.Common.{refl, sym, ◌∙◌}
use Rattle.std.proofs.lemmas.Bool.{OnTrue_from}
use Rattle.verifying.proofs.tables.is_judged.Goals as goal

pub returns-then-are_same-clause-pins : goal.returns-then-are_same-clause-pins
returns-then-are_same-clause-pins c =
    OnTrue_from c.eq.result _ (λ e. λ i y. sym (c.if-are_same.ensures.0 refl y) i)

pub returns-then-are_same-clause-tables : goal.returns-then-are_same-clause-tables
returns-then-are_same-clause-tables c =
    OnTrue_from c.eq.result _
    (λ e. sym ((c.equal_tables_are_the_same.ensures.tables c.args.first.now c.args.second.now).0 (sym c.eq.ensures ∙ e)))
