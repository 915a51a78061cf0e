use Rattle.std.proofs.Common.{◌∙◌, ◌++◌, ap}
use Rattle.split_checks.specs.steps.ComputedUndoing.{pairs_of}
use Rattle.split_checks.proofs.Rows.{if_both, merged_are, merged_back}
use Rattle.split_checks.proofs.undone_births.merged.Goals as goal

pub returns-then-len : goal.returns-then-len
returns-then-len c =
    if_both c.poured.result _ _ _
    (λ v all noted. merged_are c.args.one.items c.args.other.items v.items c.args.round c.args.number
    c.args.moves.now.items c.poured.new.moves.items
    (all ∙ ap (λ xs. c.args.other.items ++ xs) c.deref.ensures.value)
    (noted ∙ ap (λ xs. c.args.moves.now.items ++ pairs_of c.args.round c.args.number xs) c.deref.ensures.value))
    c.poured.ensures.all c.poured.ensures.noted

pub returns-else-len : goal.returns-else-len
returns-else-len c =
    if_both c.poured-else-len.result _ _ _
    (λ v all noted. merged_back c.args.one.items c.args.other.items v.items c.args.round c.args.number
    c.args.moves.now.items c.poured-else-len.new.moves.items
    (merged_are c.args.other.items c.args.one.items v.items c.args.round c.args.number
    c.args.moves.now.items c.poured-else-len.new.moves.items
    (all ∙ ap (λ xs. c.args.one.items ++ xs) c.deref-else-len.ensures.value)
    (noted ∙ ap (λ xs. c.args.moves.now.items ++ pairs_of c.args.round c.args.number xs)
    c.deref-else-len.ensures.value)))
    c.poured-else-len.ensures.all c.poured-else-len.ensures.noted
