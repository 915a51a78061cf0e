use Rattle.std.proofs.Common.{◌≡◌, ◌<◌, ◌++◌, ◌∷◌, [], length, sym, ap, ◌∙◌, arith, get_or}
use Rattle.std.proofs.lemmas.Option.{slice_get-get_or}
use Rattle.std.proofs.lemmas.List.{get_or_read}
use Rattle.certificate_checks.proofs.FirstMembers.{firsts_next}
use Rattle.certificate_checks.proofs.first_members.firsts_by_member.Goals as goal

pub loop-i-preserved : goal.loop-i-preserved
loop-i-preserved c =
    let ms = c.args.members.now in
    let i = c.loop-i.i in
    let m = get_or ms i (0, 0) in
    let fs = c.in_ok-by_class.by_class.items in
    let lt : i < length ms = c.loop-i-test.true in
    let declared : m.1 < c.args.count = c.requires i (0, 0) lt in
    let len = c.in_ok-by_class.ensures.length in
    let within : m.1 < length fs = omega (arith, declared, len) in
    let first : c.index-first.result.now ≡ get_or fs m.1 0 = get_or_read fs m.1 _ within c.index-first.ensures 0 in
    c.in_ok-push.ensures.items ∙ ap (λ x. c.loop-i.firsts.items ++ (x ∷ [])) first
    ∙ ap (λ l. l ++ (get_or fs m.1 0 ∷ [])) c.loop-i.invariant
    ∙ sym (firsts_next ms fs i m (slice_get-get_or ms i (0, 0) lt) c.in_ok-by_class.ensures.tells)
