use Rattle.std.proofs.Common.{map, take}
use Rattle.express_syntax.specs.Views.{derived_of}
use Rattle.schema_derived_attributes.specs.steps.Making.{Adds}
use Rattle.schema_derived_attributes.proofs.formula_table.add_deriveds.Given as goal

abbrev pub invariant-loop-derived : goal.invariant-loop-derived
invariant-loop-derived l =
    Adds l.ranks (map derived_of (take l.derived-index l.deriveds)) l.initial.formulas.items l.formulas.items
