use Rattle.std.proofs.Common.{ℕ, ◌≡◌, ◌∙◌, ◌||◌, ◌++◌, ◌∷◌, [], ap, sym, map, Bor}
use Rattle.std.specs.BTreeMap.{is_at}
use Rattle.std.specs.List.{list_any}
use Rattle.std.specs.Ordering.{nat_cmp}
use Rattle.std.proofs.Math.Bool.{or-false}
use Rattle.std.proofs.lemmas.List.{map-append}
use Rattle.std.proofs.lemmas.List.Folds.{list_any-append}
use Rattle.row_signatures.proofs.Marking.{marked_alike}
use Rattle.row_signatures.proofs.marks.marks.Goals as goal

pub loop-name-preserved : goal.loop-name-preserved
loop-name-preserved c =
    let names = map (λ (b : Bor ℕ). b.now) in
    let ys = c.loop-name.yielded in
    let n = c.in-Some.name.now in
    marked_alike c.args.input.now _ _ c.mark.new.marks.items
    (λ y. sym (ap (list_any (is_at (nat_cmp y))) (map-append (λ (b : Bor ℕ). b.now) ys (c.in-Some.name ∷ []))
    ∙ list_any-append (is_at (nat_cmp y)) (names ys) (n ∷ [])
    ∙ ap (λ b. list_any (is_at (nat_cmp y)) (names ys) || b) (or-false (is_at (nat_cmp y) n))))
    (c.mark.ensures (λ y. list_any (is_at (nat_cmp y)) (names ys)) c.loop-name.invariant)
