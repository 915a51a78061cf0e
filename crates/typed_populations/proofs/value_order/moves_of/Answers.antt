use Rattle.std.proofs.Common.{◌≡◌, Some, length, map, subst, arith}
use Rattle.std.specs.Bool.{OnTrue}
use Rattle.std.specs.List.{range_with_len}
use Rattle.std.specs.Prelude.{IfSome, IsPermutation}
use Rattle.typed_populations.proofs.Moved.{kept-moves, moved-moves}
use Rattle.typed_populations.proofs.value_order.moves_of.Goals as goal

pub returns-then-rise_from_0 : goal.returns-then-rise_from_0
returns-then-rise_from_0 c =
    let os = c.args.positions.now in
    let ks = c.in-Some.places in
    let told : map Some ks.items ≡ os = subst (λ o. IfSome o (λ v. map Some v.items ≡ os)) c.in-Some.is c.in_ok-places.ensures in
    let e = c.len.ensures in
    let f = ks.ok.0 in
    kept-moves os ks.items c.deref.result.now c.len.result told c.deref.ensures.value
    (subst (λ b. OnTrue b (c.deref.result.now ≡ range_with_len 0 (length c.deref.result.now))) c.if-rise_from_0.true
    c.rise_from_0.ensures)
    (omega arith)

pub returns : goal.returns
returns c =
    let os = c.args.positions.now in
    let ks = c.in-Some.places in
    let told : map Some ks.items ≡ os = subst (λ o. IfSome o (λ v. map Some v.items ≡ os)) c.in-Some.is c.in_ok-places.ensures in
    let copy = c.deref-2.result.now in
    moved-moves os ks copy told c.deref-2.ensures.value
    (subst (λ b. OnTrue b (IsPermutation (range_with_len 0 (length copy)) copy)) c.if-not-branch.false
    c.in_ok-stand_once.ensures)
