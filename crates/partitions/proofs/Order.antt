-- Where pairs are sorted by their keys, those of one key stand side by side.
use Rattle.std.proofs.Common.{Ordering, ◌≡◌, ◌≤◌, ◌<◌, ℕ, List, length, false, sym, subst, arith}
use Rattle.std.specs.Ordering.{nat_cmp, is_lt, ordering_then}
use Rattle.std.specs.Cmp.{IsTotalOrder}
use Rattle.std.specs.List.Sorted.{IsSortedByKey}
use Rattle.std.proofs.lemmas.Bool.Decides.{nat_tests}
use Rattle.std.proofs.lemmas.Cmp.{nat_cmp_total, on_total, then_total}
use Rattle.std.proofs.lemmas.List.Sorted.{ranks_by, sorted_far}
use Rattle.partitions.specs.declared.pairs.Pair.{Pair}
use Rattle.partitions.specs.steps.Steps.{AreInOrder, AreTogether, key_of, key_at, number_at}

abbrev pub key_cmp : ℕ × ℕ → ℕ × ℕ → Ordering
key_cmp a b = ordering_then (nat_cmp a.0 b.0) (nat_cmp a.1 b.1)

key_total : IsTotalOrder key_cmp
key_total = then_total (on_total (λ k. k.0) nat_cmp_total) (on_total (λ k. k.1) nat_cmp_total)

one_key : (a b : ℕ × ℕ) → is_lt (key_cmp a b) ≡ false → is_lt (key_cmp b a) ≡ false → a ≡ b
one_key a b e f =
    let first : a.0 ≡ b.0 = grind (arith, nat_tests, e, f) in
    let second : a.1 ≡ b.1 = grind (arith, nat_tests, e, f, first) in
    λ n. (first n, second n)

pub together : (ps : List Pair) → IsSortedByKey key_of key_cmp ps → AreTogether ps
together ps sorted i j k l m n e =
    let far = sorted_far (λ a b. is_lt (key_cmp (key_of a) (key_of b))) (ranks_by key_total key_of) ps sorted in
    let up = far i j (record { position = 0; class = 0; place = 0 }) l (omega arith) in
    let down = far j k (record { position = 0; class = 0; place = 0 }) m n in
    one_key (key_at ps j) (key_at ps i) up (subst (λ a. is_lt (key_cmp a (key_at ps j)) ≡ false) (sym e) down)

-- places in the order of their numbers have those of one number adjacent
pub ordered_together : (numbers order : List ℕ) → AreInOrder numbers order → (i j k : ℕ) → i ≤ j → j ≤ k
    → k < length order → number_at numbers order i ≡ number_at numbers order k
    → number_at numbers order j ≡ number_at numbers order i
ordered_together numbers order sorted i j k l m n e =
    let up = sorted i j l (omega arith) in
    let down = sorted j k m n in
    omega arith
