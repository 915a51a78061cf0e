use Rattle.std.proofs.Common.{◌≡◌, ◌∙◌, sym, ap, subst, arith, drop}
use Rattle.step_literals.specs.Strings.{clean}
use Rattle.step_literals.specs.steps.Rests.{clean_items, left_items, IsOver}
use Rattle.step_literals.proofs.ItemLemmas.{over_group, over_other}
use Rattle.step_literals.proofs.literal.rest.Rest.outer.Goals as goal

pub returns-in-Groups-clause-left : goal.returns-in-Groups-clause-left
returns-in-Groups-clause-left c =
    let bs = clean c.args.self.bytes.now in
    let page = c.args.self.page in
    let left : clean c.new.result.bytes.now ≡ drop 4 bs = ap clean c.new.ensures.bytes ∙ c.skip.ensures.left in
    let same : clean_items c.new.result.page (clean c.new.result.bytes.now) ≡ clean_items page (drop 4 bs) =
    (λ i. clean_items (c.new.ensures.page i) (left i)) in
    same ∙ sym (ap (λ i. left_items i page bs) c.in-Groups.is ∙ over_group c.in-Groups.field-0 page bs
    (subst (λ i. IsOver i bs) c.in-Groups.is c.requires))

pub returns-in_default : goal.returns-in_default
returns-in_default c = record {
  left = sym (over_other c.args.self.inside c.args.self.page (clean c.args.self.bytes.now) c.requires
      c.in_default.not-Groups);
  shorter = omega arith;
}
