use Rattle.typed_populations.proofs.Headed.{Numbered}
use Rattle.typed_populations.proofs.plain_rows.row_sections.Given as goal

abbrev pub invariant-loop-k : goal.invariant-loop-k
invariant-loop-k l = Numbered l.sections l.k l.numbers.items
