use Rattle.std.proofs.Common.{◌∙◌, sym}
use Rattle.step_structures.specs.Trees.{typed}
use Rattle.step_records.proofs.ParamKeywords.{first_in, second_builds, typed_said, none_said}
use Rattle.step_records.proofs.param.typed_node.Goals as goal

pub part-requires : goal.part-requires
part-requires c =
    let known = first_in c.args.text.now c.args.column.now c.requires.builds c.args.at c.requires.within
    (sym c.is_keyword.ensures ∙ c.if-is_keyword.true) in
    known.0

pub from_keyword-word-requires : goal.from_keyword-word-requires
from_keyword-word-requires c =
    let known = first_in c.args.text.now c.args.column.now c.requires.builds c.args.at c.requires.within
    (sym c.is_keyword.ensures ∙ c.if-is_keyword.true) in
    rw c.part.ensures known.1

pub of-requires : goal.of-requires
of-requires c = second_builds c.args.text.now c.args.column.now c.requires.builds c.args.at c.requires.within

pub returns-then-is_keyword : goal.returns-then-is_keyword
returns-then-is_keyword c =
    let says = typed_said c.args.text.now c.args.column.now c.requires.builds c.args.at c.requires.within
    (sym c.is_keyword.ensures ∙ c.if-is_keyword.true) in
    (λ i. typed ((c.from_keyword-word.ensures ∙ c.part.ensures) i) (c.of.ensures i)) ∙ sym says

pub returns-else-is_keyword : goal.returns-else-is_keyword
returns-else-is_keyword c =
    let says = none_said c.args.text.now c.args.column.now c.requires.builds c.args.at c.requires.within
    (sym c.is_keyword.ensures ∙ c.if-is_keyword.false) in
    rw (c.of-else-is_keyword.ensures, c.part-else-is_keyword.ensures) (sym says)
