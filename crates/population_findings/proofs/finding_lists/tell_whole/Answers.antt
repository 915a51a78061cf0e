use Rattle.std.proofs.Common.{◌≡◌, ◌++◌, ◌∙◌, ap, sym, add-one, append_assoc, arith}
use Rattle.conformance.specs.Findings.{whole_findings}
use Rattle.population_findings.proofs.InTurn.{whole-more}
use Rattle.population_findings.proofs.finding_lists.tell_whole.Goals as goal

pub loop-preserved : goal.loop-preserved
loop-preserved c =
    let name = c.args.instance in
    let kind = c.args.kind in
    let old = c.args.found.now.items in
    rw add-one
    (c.in_ok-push.ensures.items ∙ ap (λ l. l ++ whole_findings name kind 1) c.loop.invariant
    ∙ append_assoc old (whole_findings name kind c.loop.counter) (whole_findings name kind 1)
    ∙ ap (λ l. old ++ l) (sym (whole-more name c.loop.counter kind)))

pub returns : goal.returns
returns c =
    let same : c.loop.counter ≡ c.args.times = omega arith in
    c.loop.invariant ∙ ap (λ n. c.args.found.now.items ++ whole_findings c.args.instance c.args.kind n) same
