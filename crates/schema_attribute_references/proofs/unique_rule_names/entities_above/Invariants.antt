use Rattle.std.proofs.Common.{◌≡◌, Some, map, take}
use Rattle.std.specs.List.{filter}
use Rattle.graphs.specs.Graphs.{graph_of}
use Rattle.schema_explicit_attributes.specs.Supertypes.{is_or_leads}
use Rattle.schema_attribute_references.proofs.unique_rule_names.entities_above.Given as goal

abbrev pub invariant-loop-declaration : goal.invariant-loop-declaration
invariant-loop-declaration l =
    l.row.items ≡ filter (is_or_leads (graph_of l.above) (Some l.lower))
    (map (λ x. x.entity) (take l.declaration-index l.declarations))
