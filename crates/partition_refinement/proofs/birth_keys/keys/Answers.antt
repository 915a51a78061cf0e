use Rattle.std.proofs.Common.{◌<◌, ℕ, List, ◌+◌, ◌*◌, [], ◌∷◌, ◌++◌, refl, sym, ◌∙◌, ap, subst, length, arith}
use Rattle.std.specs.Prelude.{slice_index}
use Rattle.std.specs.List.{range_with_len}
use Rattle.std.specs.List.Sorted.{IsPermutation}
use Rattle.partitions.proofs.Below.{all_below, all_apart}
use Rattle.partition_refinement.proofs.Sorting.{AreKeysFirst, key_skipped, key_more, keys_all}
use Rattle.partition_refinement.proofs.birth_keys.keys.Goals.{then-round-limit+in_ok-push, else-round-limit}
use Rattle.partition_refinement.proofs.birth_keys.keys.Goals as goal

pub bounds-rounds-place : goal.bounds-rounds-place
bounds-rounds-place c =
    let n : ℕ = length c.args.rounds.now in
    let order : List ℕ = c.deref-place-items.result.now in
    all_below n order (subst (IsPermutation (range_with_len 0 n)) (sym c.deref-place-items.ensures.value) c.in_ok-places.ensures)
    c.loop-place.place-index c.loop-place-test.true

pub loop-place-preserved : goal.loop-place-preserved
loop-place-preserved c =
    let rounds : List ℕ = c.args.rounds.now in
    let order : List ℕ = c.deref-place-items.result.now in
    let i : ℕ = c.loop-place.place-index in
    let place : ℕ = slice_index order i in
    let moved : IsPermutation (range_with_len 0 (length rounds)) order =
    subst (IsPermutation (range_with_len 0 (length rounds))) (sym c.deref-place-items.ensures.value) c.in_ok-places.ensures in
    let inside : i < length order = c.loop-place-test.true in
    elim c.if-round-limit.branch [
      | then-round-limit+in_ok-push w ↦
          subst (λ v. AreKeysFirst rounds order c.args.limit (i + 1) v.items) (sym w.keys-is)
          (key_more rounds order c.args.limit i place c.loop-place.keys.items w.push.new.self.items
          (λ k l.
          let below = all_below (length rounds) order moved k (omega arith) in
          let few = c.requires in
          omega arith)
          (λ k l. all_apart (length rounds) order moved k i l inside)
          c.loop-place.invariant refl w.if-round-limit.true
          (w.in_ok-push.ensures.items
          ∙ ap (λ round. c.loop-place.keys.items ++ (round * 4294967296 + w.from-then-round-limit.result) ∷ []) w.from.ensures
          ∙ ap (λ at. c.loop-place.keys.items ++ (slice_index rounds place * 4294967296 + at) ∷ []) w.from-then-round-limit.ensures))
      | else-round-limit w ↦
          subst (λ v. AreKeysFirst rounds order c.args.limit (i + 1) v.items) (sym w.keys-is)
          (key_skipped rounds order c.args.limit i place c.loop-place.keys.items c.loop-place.invariant refl
          w.if-round-limit.false)
    ]

pub returns : goal.returns
returns c =
    let n : ℕ = length c.args.rounds.now in
    let order : List ℕ = c.deref-place-items.result.now in
    keys_all c.args.rounds.now order c.args.limit c.loop-place.place-index c.loop-place.keys.items (omega arith)
    (subst (IsPermutation (range_with_len 0 n)) (sym c.deref-place-items.ensures.value) c.in_ok-places.ensures)
    c.loop-place.invariant
