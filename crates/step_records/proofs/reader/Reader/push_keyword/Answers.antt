use Rattle.std.proofs.Common.{sym, ap, ◌∙◌, subst}
use Rattle.step_lexer.specs.Reading.{Reading}
use Rattle.step_records.specs.steps.Building.{Building}
use Rattle.step_records.specs.declared.cell.Leaf.TheVariants.{Keyword}
use Rattle.step_records.specs.steps.Readers.{Progress}
use Rattle.step_records.specs.steps.Steps.{PushesKeyword}
use Rattle.step_records.proofs.Pushing.{next_token, leaf_next, keyword_pushed}
use Rattle.step_records.proofs.reader.Reader.push_keyword.Goals as goal

pub push_leaf_at-requires : goal.push_leaf_at-requires
push_leaf_at-requires c = (
  next_token c.self.inside.lexer c.in-Some.sort c.in-Some.len,
  leaf_next c.self.inside.lexer c.self.inside.builder.text c.place.result c.in-Some.sort c.in-Some.len Keyword
      c.self.invariant c.place.ensures c.in-Some.ensures (c.is_keyword.ensures c.if-not-is_keyword.false),
)

pub invariant_of-self : goal.invariant_of-self
invariant_of-self c =
    let r = c.self.inside.lexer in
    let h = leaf_next r c.self.inside.builder.text c.place.result c.in-Some.sort c.in-Some.len Keyword
    c.self.invariant c.place.ensures c.in-Some.ensures (c.is_keyword.ensures c.if-not-is_keyword.false) in
    c.self.invariant ∙ sym (c.in_err-push_leaf_at.ensures (next_token r c.in-Some.sort c.in-Some.len) h)

pub invariant_of-self-2 : goal.invariant_of-self-2
invariant_of-self-2 c =
    let r = c.self.inside.lexer in
    let h = leaf_next r c.self.inside.builder.text c.place.result c.in-Some.sort c.in-Some.len Keyword
    c.self.invariant c.place.ensures c.in-Some.ensures (c.is_keyword.ensures c.if-not-is_keyword.false) in
    let pushed = c.in_ok-push_leaf_at.ensures (next_token r c.in-Some.sort c.in-Some.len) h in
    ap (λ (x : Reading). x.text) c.skip.ensures ∙ c.self.invariant ∙ sym (ap (λ (b : Building). b.text) pushed)

pub returns : goal.returns
returns c =
    let r = c.self.inside.lexer in
    let is = c.is_keyword.ensures c.if-not-is_keyword.false in
    let h = leaf_next r c.self.inside.builder.text c.place.result c.in-Some.sort c.in-Some.len Keyword
    c.self.invariant c.place.ensures c.in-Some.ensures is in
    let pushed = c.in_ok-push_leaf_at.ensures (next_token r c.in-Some.sort c.in-Some.len) h in
    let new : Progress = record { place = c.skip.new.self.place; built = c.push_leaf_at.new.self } in
    subst (λ (p : Progress). PushesKeyword p new) c.self.view_is (keyword_pushed r c.skip.new.self
    c.self.inside.builder c.push_leaf_at.new.self c.in-Some.sort c.in-Some.len c.self.invariant c.in-Some.ensures
    pushed c.skip.ensures is)
