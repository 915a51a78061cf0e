use Rattle.std.proofs.Common.{rules, ◌∙◌, ◌<◌, ◌++◌, [], length, ap, arith}
use Rattle.std.specs.List.{cons_option}
use Rattle.schema_attribute_references.specs.steps.Entities.{entity_number}
use Rattle.schema_attribute_references.proofs.Filtering.{filter-map-more}
use Rattle.schema_attribute_references.proofs.entities.entity_numbers.Goals as goal

pub loop-atom-preserved : goal.loop-atom-preserved
loop-atom-preserved c =
    let lt : c.loop-atom.atom-index < length c.args.atoms.now = omega (arith, c.loop-atom-test.true) in
    filter-map-more entity_number c.args.atoms.now c.loop-atom.atom-index _ c.loop-atom.numbers.items
    c.add_some.new.numbers.items lt (search rules) c.loop-atom.invariant
    (c.in_ok-add_some.ensures ∙ ap (λ o. c.loop-atom.numbers.items ++ cons_option o []) c.entity_number.ensures)
