use Rattle.std.proofs.Common.{◌≡◌, ◌∙◌, length, vec_len, subst, sym, arith, rules}
use Rattle.std.specs.List.{Contains}
use Rattle.std.proofs.lemmas.List.Elements.{Contains-push}
use Rattle.split_checks.specs.steps.ComputedUndoing.{Undoes}
use Rattle.split_checks.proofs.Moved.{undoing_first, undoing_next}
use Rattle.split_checks.proofs.moves.undo_all.Goals as goal

pub loop-birth-init : goal.loop-birth-init
loop-birth-init c =
    undoing_first (length c.args.lists.now.items) c.args.births.items c.args.lists.now.items c.args.moves.now.items
    c.requires.births c.requires.sorted c.requires.none

pub undo-requires-clause-class : goal.undo-requires-clause-class
undo-requires-clause-class c =
    let this = c.loop-birth.invariant.own c.in-Some.birth (subst (λ bs. Contains bs c.in-Some.birth)
    (sym c.in-Some.ensures.items) (Contains-push c.pop.new.self.items c.in-Some.birth)) in
    let lt = (c.requires.births.within c.in-Some.birth this).0 in
    let each = c.loop-birth.invariant.each in omega (arith, lt, each)

pub undo-requires-clause-parent : goal.undo-requires-clause-parent
undo-requires-clause-parent c =
    let this = c.loop-birth.invariant.own c.in-Some.birth (subst (λ bs. Contains bs c.in-Some.birth)
    (sym c.in-Some.ensures.items) (Contains-push c.pop.new.self.items c.in-Some.birth)) in
    let lt = (c.requires.births.within c.in-Some.birth this).1 in
    let each = c.loop-birth.invariant.each in omega (arith, lt, each)

pub undo-requires-clause-apart : goal.undo-requires-clause-apart
undo-requires-clause-apart c e =
    let this = c.loop-birth.invariant.own c.in-Some.birth (subst (λ bs. Contains bs c.in-Some.birth)
    (sym c.in-Some.ensures.items) (Contains-push c.pop.new.self.items c.in-Some.birth)) in
    let lt = c.requires.births.later c.in-Some.birth c.in-Some.birth this this e in omega (arith, lt)

pub loop-birth-preserved : goal.loop-birth-preserved
loop-birth-preserved c =
    let whole : vec_len c.pop.new.self ≡ length c.pop.new.self.items = search rules in
    undoing_next (length c.args.lists.now.items) c.args.births.items c.pop.new.self.items c.loop-birth.births.items
    c.in-Some.birth c.args.lists.now.items c.loop-birth.lists.items c.undo.new.lists.items c.loop-birth.moves.items
    c.undo.new.moves.items c.requires.births c.loop-birth.invariant c.in-Some.ensures.items
    (subst (λ k. Undoes c.in-Some.birth k c.loop-birth.lists.items c.undo.new.lists.items c.loop-birth.moves.items
    c.undo.new.moves.items) (c.len-number.ensures ∙ whole) c.in_ok-undo.ensures)
