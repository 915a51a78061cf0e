use Rattle.std.proofs.Common.{◌∙◌, ◌++◌, ap, sym, arith}
use Rattle.std.proofs.lemmas.List.{append_assoc}
use Rattle.split_checks.specs.steps.ComputedUndoing.{pairs_of}
use Rattle.split_checks.proofs.Moved.{starts_all, starts_more}
use Rattle.split_checks.proofs.Rows.{row_is}
use Rattle.split_checks.proofs.moves.push_starts.Goals as goal

pub loop-class-preserved : goal.loop-class-preserved
loop-class-preserved c =
    let inside = c.loop-class-test.true in
    let same = c.deref.ensures.value ∙ ap (λ v. v.items) c.index-lists-class.is
    ∙ sym (row_is c.args.lists.now c.loop-class.class c.index-lists-class.result (omega (arith, inside))) in
    starts_more c.args.lists.now c.args.moves.now.items c.loop-class.moves.items c.push_start.new.moves.items
    c.loop-class.class c.loop-class.invariant
    (c.in_ok-push_start.ensures ∙ ap (λ xs. c.loop-class.moves.items ++ pairs_of 0 c.loop-class.class xs) same)
    (λ xs ys zs. append_assoc xs ys zs)

pub returns : goal.returns
returns c =
    starts_all c.args.lists.now c.args.moves.now.items c.loop-class.moves.items c.loop-class.class (omega arith)
    c.loop-class.invariant
