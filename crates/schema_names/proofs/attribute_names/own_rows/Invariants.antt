use Rattle.std.proofs.Common.{map}
use Rattle.std.specs.Prelude.{nat_eq}
use Rattle.indexmap.specs.IndexMap.{get}
use Rattle.express_syntax.specs.Views.{declaration_of}
use Rattle.schema_names.specs.steps.OwnNames.{AreOwnRows}
use Rattle.schema_names.proofs.attribute_names.own_rows.Given as goal

abbrev pub invariant-loop-i : goal.invariant-loop-i
invariant-loop-i l = AreOwnRows (map declaration_of l.declarations) l.class (get nat_eq l.rows)
