use Rattle.std.proofs.Common.{◌≡◌, ◌∙◌, ap, sym, length, List, ℕ, [], arith}
use Rattle.graphs.specs.Graphs.{has}
use Rattle.graphs.specs.Rounds.{added}
use Rattle.graphs.proofs.Found.{has-added}
use Rattle.graphs.proofs.RowLists.{all-within}
use Rattle.schema_redeclarations.proofs.explicit_attributes.distinct.Goals as goal

pub add_new-requires-clause-within : goal.add_new-requires-clause-within
add_new-requires-clause-within c = all-within c.args.numbers.now (length c.args.marks.now) c.requires.within

pub unmark-requires-clause-within : goal.unmark-requires-clause-within
unmark-requires-clause-within c =
    let is : c.deref.result.now ≡ added [] c.args.numbers.now =
    c.deref.ensures.value ∙ c.in_ok-add_new.ensures.added
    ∙ ap (λ (xs : List ℕ). added xs c.args.numbers.now) c.new-found.ensures.items in
    all-within c.deref.result.now (length c.add_new.new.marks) (λ q h.
    let low = c.requires.within q (sym (has-added [] c.args.numbers.now q) ∙ sym (ap (λ xs. has xs q) is) ∙ h) in
    let same = c.in_ok-add_new.ensures.length in
    omega (arith, low, same))
