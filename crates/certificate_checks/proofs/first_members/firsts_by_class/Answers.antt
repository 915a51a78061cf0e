use Rattle.std.proofs.Common.{◌≡◌, ◌<◌, ◌+◌, ◌-◌, length, subst, ◌∙◌, arith, length-set, get_or}
use Rattle.std.proofs.lemmas.Option.{slice_get-get_or}
use Rattle.certificate_checks.specs.steps.ComputedFirsts.{TellsFrom}
use Rattle.certificate_checks.proofs.FirstMembers.{tells_more}
use Rattle.certificate_checks.proofs.first_members.firsts_by_class.Goals as goal

pub loop-i-preserved : goal.loop-i-preserved
loop-i-preserved c =
    let ms = c.args.members.now in
    let k = c.loop-i.i - 1 in
    let m = get_or ms k (0, 0) in
    let some = c.loop-i-test.true in
    let near = c.loop-i.auto.i in
    let lt : k < length ms = omega (arith, some, near) in
    let next : c.loop-i.i ≡ k + 1 = omega (arith, some) in
    let declared : m.1 < c.args.count = c.requires k (0, 0) lt in
    let len = c.loop-i.invariant.0 in
    let within : m.1 < length c.loop-i.firsts.items = omega (arith, declared, len) in
    let told = subst (TellsFrom ms c.loop-i.firsts.items) next c.loop-i.invariant.1 in (
      length-set c.loop-i.firsts.items m.1 m.0 ∙ len,
      tells_more ms c.loop-i.firsts.items k m (slice_get-get_or ms k (0, 0) lt) within told,
    )
