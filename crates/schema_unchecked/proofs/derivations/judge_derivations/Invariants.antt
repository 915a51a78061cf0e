use Rattle.std.proofs.Common.{take, [], map, flat_map}
use Rattle.express_syntax.specs.Views.{declaration_of}
use Rattle.schema_attribute_references.specs.steps.Taking.{schema_in}
use Rattle.schema_attributes.specs.Derivations.{derivations_in}
use Rattle.schema_unchecked.specs.steps.Growing.{AddsJudged}
use Rattle.schema_unchecked.proofs.derivations.judge_derivations.Given as goal

abbrev pub invariant-loop-number : goal.invariant-loop-number
invariant-loop-number l =
    AddsJudged (schema_in l.fn.known) []
    (flat_map derivations_in (take l.number (map declaration_of l.fn.known.tables.names.now.schema.now.declarations.items)))
    l.judged.items
