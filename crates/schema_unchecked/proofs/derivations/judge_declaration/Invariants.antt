use Rattle.std.proofs.Common.{take}
use Rattle.express_syntax.specs.Views.{declaration_of}
use Rattle.schema_attribute_references.specs.steps.Taking.{schema_in}
use Rattle.schema_attributes.specs.Derivations.{derivations_in}
use Rattle.schema_unchecked.specs.steps.Growing.{AddsJudged}
use Rattle.schema_unchecked.proofs.derivations.judge_declaration.Given as goal

abbrev pub invariant-loop-derived : goal.invariant-loop-derived
invariant-loop-derived l =
    AddsJudged (schema_in l.fn.known) l.fn.judged.items
    (take l.derived-index (derivations_in (declaration_of l.fn.declaration))) l.judged.items
