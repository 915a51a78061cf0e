-- What is found of a file: by its typed population and what rules say of it, or of its instances one by one.
use Rattle.std.specs.Prelude.{◌≡◌, ℕ, List, []}
use Rattle.std.proofs.Common.{sym, subst, ◌∙◌}
use Rattle.express_syntax.specs.Schemas.{Schema}
use Rattle.step_structures.specs.Trees.{File}
use Rattle.schema_semantics.specs.Names.{Name}
use Rattle.conformance.specs.Conforming.{PopulationConforms}
use Rattle.conformance.specs.PopulationLaws.{AreOf, NoFindingsExactlyWhereItConforms}
use Rattle.conformance.specs.Populations.{Instance}
use Rattle.conformance.specs.SchemaMeanings.{Said, instances}
use Rattle.conformance.specs.declared.finding.Finding.{Finding}
use Rattle.schema_constraints.specs.declared.finding.RuleFinding.{RuleFinding}
use Rattle.typed_populations.specs.TypedPopulations.{IsTyped}
use Rattle.population_reader.specs.Verdicts.{IsFaulty}
use Rattle.file_findings.specs.Findings.{AreRuleFindings, AreBehind, AreFindings}
use Rattle.file_findings.proofs.Behind.{none-behind}

module _ (s : Schema) (others : List Name) (f : File) (some : Said s) where
  pub found-by-rules : NoFindingsExactlyWhereItConforms → (is : List Instance) (fs : List Finding)
      (gs : List RuleFinding) (n : ℕ) → IsTyped s others f is → fs ≡ []
      → ((said : Said s) → PopulationConforms s said.domain said.entities is → AreRuleFindings s said is gs n)
      → AreFindings s others f fs gs n
  found-by-rules law is fs gs n typed e rules = (
    some,
    λ said.
        let (none, same) = typed.1 said.domain said.entities said.is_domain said.are_entities in
        let are : AreOf s said.domain said.entities = record {
          resolved = said.resolved;
          domain = said.is_domain;
          entities = said.are_entities;
        } in
        let conforms = subst (PopulationConforms s said.domain said.entities) (sym same)
        ((law s said.domain said.entities are others f).0 none).2 in (
          e ∙ sym none,
          subst (λ l. AreBehind s said l (instances s said f) gs n) (sym e)
              (subst (λ l. AreRuleFindings s said l gs n) same (rules said conforms)),
        ),
  )

  pub found-one-by-one : (fs : List Finding) (gs : List RuleFinding) (n : ℕ) → IsFaulty s others f fs → gs ≡ [] → n ≡ 0
      → AreFindings s others f fs gs n
  found-one-by-one fs gs n faulty e z = (
    some,
    λ said. (
      faulty.1 said.domain said.entities said.is_domain said.are_entities,
      none-behind s said fs faulty.2 (instances s said f) gs n e z,
    ),
  )
