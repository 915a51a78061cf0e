use Rattle.std.proofs.Common.{◌≡◌, map, take}
use Rattle.schema_semantics.specs.Names.{Name}
use Rattle.schema_semantics.specs.Parts.{dotted}
use Rattle.schema_unchecked_declarations.specs.UncheckedLists.{label_name}
use Rattle.schema_constraints.specs.declared.finding.RuleFindingKind.TheVariants.{UniqueBroken}
use Rattle.population_inverses.specs.steps.Findings.{Adds}
use Rattle.population_uniqueness.proofs.uniques.add_findings.Given as goal

abbrev pub invariant-loop-name : goal.invariant-loop-name
invariant-loop-name l =
    (holder label : Name) → label_name l.rule ≡ dotted holder label
    → Adds UniqueBroken (map (λ y. record { instance = y; holder = holder; label = label }) (take l.name-index l.names))
    l.fn.findings.items l.findings.items
