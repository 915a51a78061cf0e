use Rattle.std.proofs.Common.{◌≡◌, ◌++◌, sym, ap, subst, ◌∙◌, drop}
use Rattle.graphs.specs.Graphs.{graph_of}
use Rattle.express_syntax.specs.SchemaViews.{schema_of}
use Rattle.step_exchange.specs.Exchanges.{structure}
use Rattle.step_exchange.specs.Views.{rows_with}
use Rattle.conformance.specs.Bases.{IsDomain}
use Rattle.conformance.specs.Entities.{AreEntities}
use Rattle.conformance.specs.Findings.{findings}
use Rattle.conformance.specs.OtherNames.{other_names}
use Rattle.schema_names.specs.Schemas.{the_schema}
use Rattle.population_findings.specs.declared.judge.Judge.{Judge}
use Rattle.population_findings.specs.steps.Judging.{schema_told}
use Rattle.population_findings.specs.steps.Rows.{rows_in, AreNumbered, AreRowsOf}
use Rattle.population_findings.proofs.InTurn.{all-told}
use Rattle.step_exchange.proofs.Named.{rows-are}
use Rattle.population_findings.proofs.findings.findings.Goals as goal

pub tell_rows-requires : goal.tell_rows-requires
tell_rows-requires c =
    let said = c.entities_are_said.ensures in
    let rows = c.args.rows.now in (
      c.requires.bases,
      subst (λ l. AreNumbered (the_schema c.args.bases.now.names.now) (graph_of l))
          (sym c.targets_in-targets.ensures.types)
          (subst (λ t. AreNumbered (schema_of t) (graph_of rows.types.items)) c.requires.same
          (c.requires.rows said.0 said.1).numbered),
    )

pub returns : goal.returns
returns c = λ d en of are.
    let x = c.args.exchange.now in
    let rows = c.args.rows.now in
    let same = c.requires.same in
    let j : Judge = record { alloc = c.args.alloc; bases = c.args.bases.now; targets = c.targets_in-targets.result } in
    let all = c.as_slice.result.now in
    let others = other_names c.args.bases.now.names.now.schema.now in
    let told = c.in_ok-tell_schema.ensures
    ∙ ap (λ l. l ++ schema_told (the_schema c.args.bases.now.names.now) others (structure x))
    c.new-found.ensures.items in
    subst (λ t. c.tell_rows.new.found.items ≡ findings (schema_of t) d en (other_names t) (structure x)) (sym same)
    (all-told j d en rows x others (rows_with all c.split-instances.result.1)
    c.tell_schema.new.found.items c.tell_rows.new.found.items
    (ap (λ ns. rows_with ns c.split-instances.result.1) c.as_slice.ensures
    ∙ ap (rows_with x.names) (c.split-instances.ensures.back ∙ ap (λ l. drop x.header_len l) c.trees.ensures)
    ∙ sym (rows-are x)) told c.in_ok-tell_rows.ensures
    (subst (λ t. IsDomain (schema_of t) d) same of, subst (λ t. AreEntities (schema_of t) en) same are)
    (subst (λ t. AreRowsOf (schema_of t) en (rows_in x) rows) same (c.requires.rows en are))
    c.targets_in-targets.ensures.index c.targets_in-targets.ensures.forms c.targets_in-targets.ensures.types)
