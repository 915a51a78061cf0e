use Rattle.std.proofs.Common.{sym, ap, ◌∙◌, subst}
use Rattle.step_lexer.specs.Reading.{Reading}
use Rattle.step_records.specs.steps.Building.{Building}
use Rattle.step_records.specs.steps.Readers.{Progress}
use Rattle.step_records.specs.steps.Steps.{PushesLeaf}
use Rattle.step_records.proofs.Pushing.{front_of, next_token, leaf_next, leaf_pushed}
use Rattle.step_records.proofs.reader.Reader.push_front.Goals as goal

pub push_leaf_at-requires : goal.push_leaf_at-requires
push_leaf_at-requires c =
    let front = front_of c.self.inside.lexer c.self.inside.builder c.args.self.now c.args.sort c.args.len c.self.view_is
    c.self.invariant c.requires in (
      next_token c.self.inside.lexer c.args.sort c.args.len,
      leaf_next c.self.inside.lexer c.self.inside.builder.text c.place.result c.args.sort c.args.len
          c.in-Some.leaf c.self.invariant c.place.ensures front c.in-Some.ensures.0,
    )

pub invariant_of-self : goal.invariant_of-self
invariant_of-self c =
    let front = front_of c.self.inside.lexer c.self.inside.builder c.args.self.now c.args.sort c.args.len c.self.view_is
    c.self.invariant c.requires in
    let r = c.self.inside.lexer in
    let h = leaf_next r c.self.inside.builder.text c.place.result c.args.sort c.args.len c.in-Some.leaf
    c.self.invariant c.place.ensures front c.in-Some.ensures.0 in
    c.self.invariant ∙ sym (c.in_err-push_leaf_at.ensures (next_token r c.args.sort c.args.len) h)

pub invariant_of-self-2 : goal.invariant_of-self-2
invariant_of-self-2 c =
    let front = front_of c.self.inside.lexer c.self.inside.builder c.args.self.now c.args.sort c.args.len c.self.view_is
    c.self.invariant c.requires in
    let r = c.self.inside.lexer in
    let h = leaf_next r c.self.inside.builder.text c.place.result c.args.sort c.args.len c.in-Some.leaf
    c.self.invariant c.place.ensures front c.in-Some.ensures.0 in
    let pushed = c.in_ok-push_leaf_at.ensures (next_token r c.args.sort c.args.len) h in
    ap (λ (x : Reading). x.text) c.skip.ensures ∙ c.self.invariant ∙ sym (ap (λ (b : Building). b.text) pushed)

pub returns : goal.returns
returns c =
    let front = front_of c.self.inside.lexer c.self.inside.builder c.args.self.now c.args.sort c.args.len c.self.view_is
    c.self.invariant c.requires in
    let r = c.self.inside.lexer in
    let h = leaf_next r c.self.inside.builder.text c.place.result c.args.sort c.args.len c.in-Some.leaf
    c.self.invariant c.place.ensures front c.in-Some.ensures.0 in
    let pushed = c.in_ok-push_leaf_at.ensures (next_token r c.args.sort c.args.len) h in
    let new : Progress = record { place = c.skip.new.self.place; built = c.push_leaf_at.new.self } in
    subst (λ (p : Progress). PushesLeaf p new) c.self.view_is (leaf_pushed r c.skip.new.self c.self.inside.builder
    c.push_leaf_at.new.self c.args.sort c.args.len c.self.invariant front pushed c.skip.ensures
    c.in-Some.leaf c.in-Some.ensures)
