use Rattle.std.proofs.Common.{subst}
use Rattle.step_exchange.specs.Exchanges.{structure}
use Rattle.conformance.specs.OtherNames.{other_names}
use Rattle.schema_names.specs.Schemas.{the_schema}
use Rattle.file_findings.specs.steps.Checking.{ChecksFile}
use Rattle.merge_tables.proofs.Coming.{comes-faulty, comes-clean}
use Rattle.merge_tables.proofs.file_merge.merged_by_tables.Goals as goal

pub standard_tables-requires : goal.standard_tables-requires
standard_tables-requires c =
    let s = the_schema c.args.graph.now.types.names in
    let x = c.args.exchange.now in
    let others = other_names c.args.graph.now.types.names.schema.now in
    record {
      population = (subst (ChecksFile s others (structure x) c.args.chosen.now) c.in-Clean.is c.in_ok-checked.ensures).population;
    }

pub returns-in-Faulty : goal.returns-in-Faulty
returns-in-Faulty c =
    let s = the_schema c.args.graph.now.types.names in
    let x = c.args.exchange.now in
    let chosen = c.args.chosen.now in
    let others = other_names c.args.graph.now.types.names.schema.now in
    comes-faulty s others (structure x) chosen x.names c.in-Faulty.found
    (subst (ChecksFile s others (structure x) chosen) c.in-Faulty.is c.in_ok-checked.ensures)

pub returns-in_ok-first-in-Clean : goal.returns-in_ok-first-in-Clean
returns-in_ok-first-in-Clean c =
    let s = the_schema c.args.graph.now.types.names in
    let x = c.args.exchange.now in
    let chosen = c.args.chosen.now in
    let others = other_names c.args.graph.now.types.names.schema.now in
    comes-clean s others x chosen c.in-Clean.unknown c.in-Clean.weak c.in-Clean.rows c.in_ok-first-in-Clean.first
    c.in_ok-first-in-Clean.second
    (subst (ChecksFile s others (structure x) chosen) c.in-Clean.is c.in_ok-checked.ensures)
    (λ is are unique. c.in_ok-first-in-Clean.ensures s is are unique)
