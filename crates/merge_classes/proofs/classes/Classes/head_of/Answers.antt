use Rattle.std.proofs.Common.{rules, ◌≡◌, ◌<◌, ap, subst, length}
use Rattle.std.specs.Prelude.{slice_index}
use Rattle.merge_classes.specs.steps.ComputedFirsts.{AreFirsts}
use Rattle.merge_classes.proofs.Heading.{head_named}
use Rattle.merge_classes.proofs.classes.Classes.head_of.Goals as goal

pub returns : goal.returns
returns c =
    let firsts = c.self.inside.firsts.items in
    let within : c.args.class < length firsts = search rules in
    let place : c.in_ok-place.field-0.now ≡ slice_index firsts c.args.class = search rules in
    head_named c.self.inside.table.members.items c.args.self.now firsts c.args.class c.in_ok-place.field-0.now
    c.index.result.now (ap (λ t. t.members) c.self.view_is)
    (subst (λ t. AreFirsts t firsts) c.self.view_is c.self.invariant) within place c.index.ensures
