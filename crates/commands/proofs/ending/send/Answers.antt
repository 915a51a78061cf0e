use Rattle.std.proofs.Common.{◌≡◌, ◌++◌, ◌∙◌, ap, sym, take, append_assoc, take-append-drop, rules}
use Rattle.std.proofs.KnownBytes.{Appends-trans}
use Rattle.commands.proofs.ending.send.Goals as goal

pub loop-rest-preserved : goal.loop-rest-preserved
loop-rest-preserved g c =
    let before = c.loop-rest.invariant.sent in
    let rest = c.loop-rest.rest.now in
    let now = take c.in_ok-count.count rest in
    let cut : rest ≡ now ++ c.split_at.result.1.now = sym (take-append-drop c.in_ok-count.count rest)
    ∙ ap (λ l. now ++ l) (sym c.split_at.ensures.back) in
    record {
      sent = (
        before.0 ++ now,
        before.1 ∙ ap (λ l. before.0 ++ l) cut ∙ sym (append_assoc before.0 now c.split_at.result.1.now),
        Appends-trans _ _ _ _ _ before.2 c.in_ok-count.ensures.bytes,
      );
      fine = search rules;
    }
