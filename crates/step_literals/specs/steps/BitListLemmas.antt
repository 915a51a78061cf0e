-- Lemmas for the laws of the traits: `==`, order and hash of lists of bits.
use Rattle.std.proofs.Common.{◌≡◌, Bool, true, false, List, refl, ap}
use Rattle.std.specs.Bool.{beq}
use Rattle.std.specs.Ordering.{bool_cmp, eq_by_cmp, on, as_partial_cmp}
use Rattle.std.specs.Cmp.{IsPartialOrder, booleans_Decides, bool_cmp_total, on_total, po}
use Rattle.std.specs.Cmp.Lexicographic.{pointwise, pointwise_decides, slice_cmp, lists_ties, lists_total}
use Rattle.step_literals.specs.Bits.{fed_bits}

ties : (x y : Bool) → beq x y ≡ eq_by_cmp bool_cmp x y
ties false false = refl
ties false true = refl
ties true false = refl
ties true true = refl

pub bits_ties : (xs ys : List Bool) → pointwise beq xs ys ≡ eq_by_cmp (slice_cmp bool_cmp) xs ys
bits_ties = lists_ties bool_cmp ties

pub same_bits : (xs ys : List Bool) → pointwise beq xs ys ≡ true → xs ≡ ys
same_bits xs ys h = (pointwise_decides booleans_Decides xs ys).0 h

pub on_bits_po : {K : Type 0} (f : K → List Bool) → IsPartialOrder (on f (pointwise beq))
    (as_partial_cmp (on f (slice_cmp bool_cmp)))
on_bits_po f = po (on_total f (lists_total bool_cmp_total)) (λ x y. bits_ties (f x) (f y))

pub same_fed : (xs ys : List Bool) → pointwise beq xs ys ≡ true → fed_bits xs ≡ fed_bits ys
same_fed xs ys h = ap fed_bits (same_bits xs ys h)
