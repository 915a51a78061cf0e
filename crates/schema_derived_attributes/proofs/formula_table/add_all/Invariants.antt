use Rattle.std.proofs.Common.{map, take, flat_map}
use Rattle.express_syntax.specs.Views.{declaration_of}
use Rattle.schema_derived_attributes.specs.steps.Asked.{deriveds_in}
use Rattle.schema_derived_attributes.specs.steps.Making.{Adds}
use Rattle.schema_derived_attributes.proofs.formula_table.add_all.Given as goal

abbrev pub invariant-loop-declaration : goal.invariant-loop-declaration
invariant-loop-declaration l =
    Adds l.ranks (flat_map deriveds_in (map declaration_of (take l.declaration-index l.declarations)))
    l.initial.formulas.items l.formulas.items
