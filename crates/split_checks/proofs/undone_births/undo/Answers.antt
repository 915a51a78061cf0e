use Rattle.std.proofs.Common.{◌≡◌, ◌∙◌, ap, sym, subst}
use Rattle.std.specs.Global.{Vec}
use Rattle.std.specs.Prelude.{ℕ, get_or, set}
use Rattle.split_checks.proofs.Rows.{undone_is}
use Rattle.split_checks.proofs.undone_births.undo.Goals as goal

pub returns : goal.returns
returns c =
    undone_is c.args.birth c.args.number c.args.lists.now.items c.replace-class.new.dest c.replace-parent.new.dest
    c.replace-class.result c.replace-parent.result c.in_ok-both.both c.args.moves.now.items c.merged.new.moves.items
    c.requires.class c.requires.parent c.requires.apart
    (ap (λ (w : Vec ℕ). w.items) c.replace-class.ensures.after ∙ c.new.ensures.items)
    (subst (λ (w : Vec ℕ). w ≡ get_or c.args.lists.now.items c.args.birth.class w) (sym c.replace-class.ensures.value)
    c.index_mut.ensures.value)
    (subst (λ (w : Vec ℕ). w ≡ get_or (set c.args.lists.now.items c.args.birth.class c.replace-class.new.dest)
    c.args.birth.parent w) (sym c.replace-parent.ensures.value) c.index_mut-2.ensures.value)
    c.in_ok-both.ensures
