-- Words and runs form sets: no two proofs of their equality differ. Lemmas for the ghost fields of
-- passages; no promise stands here.
use Rattle.std.specs.Prelude.{List}
use mathlib.Core.Sum.{⊎_set}
use mathlib.Core.List.{is_set}
use Rattle.std.proofs.Math.Nat.{ℕ_set}
use Rattle.express_lexer.specs.declared.marks.Mark.{Mark}
use Rattle.express_syntax.specs.declared.keyword.Keyword.{Keyword}
use Rattle.express_syntax.specs.Words.{Word}
use Rattle.express_syntax.specs.Runs.{Bracket, Run, Run-derived, Routine, Routine-derived}

Mark-set : IsSet Mark
Mark-set = hlevel (⊎_set)

Keyword-set : IsSet Keyword
Keyword-set = hlevel (⊎_set)

Word-set : IsSet Word
Word-set = hlevel (⊎_set, is_set, ℕ_set, Mark-set, Keyword-set)

Bracket-set : IsSet Bracket
Bracket-set = hlevel (⊎_set)

pub Words-set : IsSet (List Word)
Words-set = is_set Word-set

pub Run-set : IsSet Run
Run-set = Run-derived Word-set Bracket-set

pub Routine-set : IsSet Routine
Routine-set = Routine-derived Word-set
