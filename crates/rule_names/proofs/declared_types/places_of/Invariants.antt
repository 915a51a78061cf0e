use Rattle.std.proofs.Common.{◌≡◌, map, take}
use Rattle.schema_redeclarations.specs.declared.uses.AttributeUse.{AttributeUse}
use Rattle.rule_names.proofs.declared_types.places_of.Given as goal

abbrev pub invariant-loop-each : goal.invariant-loop-each
invariant-loop-each l = l.places.items ≡ map (λ (u : AttributeUse). u.place) (take l.each-index l.uses)
