use Rattle.std.proofs.Common.{◌≡◌, drop, length}
use Rattle.std.specs.List.{list_any}
use Rattle.schema_names.specs.Schemas.{the_schema}
use Rattle.schema_expression_analysis.specs.steps.Questions.{is_deep_atom}
use Rattle.schema_expression_analysis.proofs.atoms.any_deep.Given as goal

-- what is left decides
abbrev pub invariant-loop-atom : goal.invariant-loop-atom
invariant-loop-atom l = list_any (is_deep_atom (the_schema l.tables.names.now) (length l.tables.data_types.now.forms.items)) (drop l.atom-index l.atoms) ≡ list_any (is_deep_atom (the_schema l.tables.names.now) (length l.tables.data_types.now.forms.items)) l.atoms
