use Rattle.std.proofs.Common.{ℕ, List, [], ◌∷◌, ◌++◌, ◌∙◌, sym, ap, refl}
use Rattle.graphs.proofs.RowLists.{row-is, row-added}
use Rattle.graphs.proofs.rows.add_to_row.Goals as goal

pub returns-clause-added : goal.returns-clause-added
returns-clause-added c =
    let row = sym (ap (λ v. v.items) c.index-rows-row.is)
    ∙ row-is (λ v. v.items) c.args.rows.now c.args.row c.index-rows-row.result c.index-rows-row.result.items c.requires
    c.index-rows-row.is refl in
    row-added (λ v. v.items) c.args.rows.now _ c.args.row c.args.number c.push.new.self c.requires refl
    (c.in_ok-push.ensures.items ∙ ap (λ (xs : List ℕ). xs ++ c.args.number ∷ []) row)
