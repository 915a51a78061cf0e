use Rattle.std.proofs.Common.{◌∙◌, ◌<◌, ap, subst, arith}
use Rattle.std.specs.Prelude.{Some}
use Rattle.rule_values.specs.Parts.{holding}
use Rattle.rule_values.proofs.Elements.{element-there, element-over}
use Rattle.rule_values.proofs.part.PartHeld.element.Goals as goal

pub returns-then-index-len : goal.returns-then-index-len
returns-then-index-len c =
    ap Some (c.datum.ensures ∙ c.element_value.ensures)
    ∙ element-there c.args.index (holding c.args.self.now).elements
    (subst (λ n. c.args.index < n) c.len.ensures c.if-index-len.true)

pub returns-else-index-len : goal.returns-else-index-len
returns-else-index-len c =
    let past = c.if-index-len.false in
    let all = c.len.ensures in
    element-over c.args.index (holding c.args.self.now).elements (λ l. omega (arith, past, all, l))
