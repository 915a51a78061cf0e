use Rattle.conformance.specs.declared.finding.FindingKind.TheVariants.{AbstractInstance, MissingSupertype, OneOfBroken}
use Rattle.conformance.specs.Findings.{whole_findings}
use Rattle.population_findings.proofs.InTurn.{on-ok, three-told}
use Rattle.population_findings.proofs.findings.tell_types.Goals as goal

pub returns : goal.returns
returns c =
    let x = c.args.form.now in
    on-ok c.tell_whole-3.result
    (three-told c.args.found.now.items c.tell_whole.new.found.items c.tell_whole-2.new.found.items
    c.tell_whole-3.new.found.items (whole_findings c.args.instance AbstractInstance x.abstract_leaves)
    (whole_findings c.args.instance MissingSupertype x.missing_supertypes) (whole_findings c.args.instance OneOfBroken x.broken_one_ofs)
    c.in_ok-tell_whole.ensures c.in_ok-tell_whole-2.ensures) c.tell_whole-3.ensures
