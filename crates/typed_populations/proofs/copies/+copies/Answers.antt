use Rattle.std.proofs.Common.{◌≡◌, ◌+◌, sym, ap, subst, arith}
use Rattle.std.specs.Prelude.{MatchResult}
use Rattle.population_rows.specs.Index.{found}
use Rattle.step_values.specs.steps.Slots.{node_value}
use Rattle.step_values.specs.Values.{sequence, bag}
use Rattle.step_values.proofs.Walks.{after, after_at, after_all}
use Rattle.step_values.proofs.Weights.{weight_of, lighter}
use Rattle.parameter_fits.specs.steps.Pushing.{Pushes}
use Rattle.parameter_fits.specs.steps.References.{IsFound, AreFound}
use Rattle.typed_populations.proofs.Copied.{list_copied, names_stay, pushed_all, pushed_one, refers_at}
use Rattle.typed_populations.proofs.copies.+copies.Goals as goal

pub push_copies-push_copy-requires : goal.push_copies-push_copy-requires
push_copies-push_copy-requires t c =
    let vs = c.args.values.now in
    let less = lighter vs c.loop-i.i c.at.result c.at.ensures in
    let all : weight_of vs ≡ t = c.decreases in (
      omega (arith, less, all),
      (
        subst (λ names. AreFound names (found c.args.index.now))
            (sym (names_stay c.args.builder.now c.loop-i.builder vs (after c.loop-i.i vs) c.loop-i.invariant))
            c.requires.indexed,
        refers_at (IsFound (found c.args.index.now)) vs c.loop-i.i c.at.result c.at.ensures c.requires.within,
      ),
    )

pub push_copies-loop-i-preserved : goal.push_copies-loop-i-preserved
push_copies-loop-i-preserved t c =
    let vs = c.args.values.now in
    let i = c.loop-i.i in
    pushed_one c.args.builder.now c.loop-i.builder c.push_copy.new.builder vs (after i vs) (after (i + 1) vs)
    c.at.result (after_at vs i c.at.result c.at.ensures) c.loop-i.invariant c.in_ok-push_copy.ensures

pub push_copies-returns : goal.push_copies-returns
push_copies-returns t c =
    let vs = c.args.values.now in
    let i = c.loop-i.i in
    let past = c.loop-i-test.false in
    let end = c.len-i-end.ensures in
    pushed_all c.args.builder.now c.loop-i.builder vs (after i vs) (after_all vs i (omega (arith, past, end)))
    c.loop-i.invariant

pub push_node-returns-in_ok-push_copies-in-Sequence : goal.push_node-returns-in_ok-push_copies-in-Sequence
push_node-returns-in_ok-push_copies-in-Sequence t c =
    subst (λ v. MatchResult c.close_sequence.result
    (λ _. Pushes c.args.builder.now c.close_sequence.new.self v)
    (λ _. c.close_sequence.new.self.names ≡ c.args.builder.now.names)) (ap node_value (sym c.in-Sequence.is))
    (list_copied sequence c.args.builder.now c.push_copies.new.builder c.close_sequence.new.self
    c.pending_len-mark.result c.pending_len-mark.ensures c.in-Sequence.values
    c.in_ok-push_copies-in-Sequence.ensures c.close_sequence.result c.close_sequence.ensures)

pub push_node-returns-in_ok-push_copies-in-Bag : goal.push_node-returns-in_ok-push_copies-in-Bag
push_node-returns-in_ok-push_copies-in-Bag t c =
    subst (λ v. MatchResult c.close_bag.result (λ _. Pushes c.args.builder.now c.close_bag.new.self v)
    (λ _. c.close_bag.new.self.names ≡ c.args.builder.now.names)) (ap node_value (sym c.in-Bag.is))
    (list_copied bag c.args.builder.now c.push_copies-in-Bag.new.builder c.close_bag.new.self
    c.pending_len-mark-in-Bag.result c.pending_len-mark-in-Bag.ensures c.in-Bag.values
    c.in_ok-push_copies-in-Bag.ensures c.close_bag.result c.close_bag.ensures)
