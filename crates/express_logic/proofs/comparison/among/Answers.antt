use Rattle.std.proofs.Common.{◌≡◌, suc, ◌+◌, sym, ◌∙◌, arith}
use Rattle.express_logic.specs.Logic.{either}
use Rattle.express_logic.specs.Views.{scalar_of}
use Rattle.express_logic.proofs.Walks.{So, starts, goes_on, found, ends}
use Rattle.express_logic.proofs.comparison.among.Goals as goal

pub loop-index-init : goal.loop-index-init
loop-index-init g c = starts (scalar_of c.args.scalar.now) (g.V.Held.held c.args.elements.now).elements

pub loop-index-preserved : goal.loop-index-preserved
loop-index-preserved g c =
    let s = scalar_of c.args.scalar.now in
    let es = (g.V.Held.held c.args.elements.now).elements in
    let at = c.loop-index.index in
    let next : at + 1 ≡ suc at = omega arith in
    (λ i. So s es (next i) (c.or-result.ensures i))
    ∙ (λ i. So s es (suc at) (either c.loop-index.result (c.equal_at.ensures i)))
    ∙ goes_on s es at c.loop-index.result ∙ c.loop-index.invariant

pub returns-in-True : goal.returns-in-True
returns-in-True g c =
    let s = scalar_of c.args.scalar.now in
    let es = (g.V.Held.held c.args.elements.now).elements in
    sym (found s es c.loop-index.index c.loop-index.result (sym c.equal_at.ensures ∙ c.in-True.is))
    ∙ c.loop-index.invariant

pub returns : goal.returns
returns g c =
    let s = scalar_of c.args.scalar.now in
    let es = (g.V.Held.held c.args.elements.now).elements in
    let all : c.loop-index.index ≡ c.len-index-end.result = omega (
      arith,
      c.loop-index-test.false,
      c.loop-index.auto.index-end,
    ) in
    sym (ends s es c.loop-index.index c.loop-index.result (all ∙ c.len-index-end.ensures)) ∙ c.loop-index.invariant
