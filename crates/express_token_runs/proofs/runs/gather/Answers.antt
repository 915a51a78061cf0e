use Rattle.std.proofs.Common.{rules, not, ℕ, refl, subst, arith, ◌∙◌}
use Rattle.std.proofs.lemmas.Result.{err_from_is_err_and}
use Rattle.express_syntax.specs.Words.{word_of, words_of}
use Rattle.express_token_runs.specs.declared.runs.Buffer.{Buffer}
use Rattle.express_token_runs.specs.steps.Items.{located_of}
use Rattle.express_syntax.specs.Views.{run_of}
use Rattle.express_token_runs.specs.steps.OpenRuns.{part_of, brackets_of, IsPushed}
use Rattle.express_syntax.proofs.Looking.{shown_less}
use Rattle.express_syntax.proofs.SameText.{passes_text}
use Rattle.express_token_runs.proofs.RunSteps.{brackets_length, few_open, some_is, agreed_ended, agreed_further, so_start, so_err_step, so_err_take, so_next, so_begins, so_stands, so_gathered}
use Rattle.express_token_runs.proofs.runs.gather.Goals as goal

pub loop-lexer-init : goal.loop-lexer-init
loop-lexer-init c = so_start (part_of c.args.part) c.args.around c.args.buffer.now (located_of c.args.first)
    c.args.lexer.now c.requires.begun.0 c.requires.begun.1 c.requires.begun.2

pub step-requires-clause-within : goal.step-requires-clause-within
step-requires-clause-within c =
    let b = c.loop-lexer.buffer in
    omega (
      arith,
      brackets_length b.open.items,
      few_open (part_of c.args.part) c.args.around (brackets_of b.open.items)
          (words_of b.lexemes.items) c.loop-lexer.invariant.begun.run,
    )

pub returns-in_err-step-clause-read : goal.returns-in_err-step-clause-read
returns-in_err-step-clause-read c =
    let part = part_of c.args.part in
    let b = c.loop-lexer.buffer in
    let s = located_of c.loop-lexer.item in
    let left = brackets_of c.step.new.open.items in
    let some = some_is b.lexemes.items b.lexemes.len c.is_empty-some.result c.is_empty-some.ensures (search rules) in
    let p = err_from_is_err_and c.from_residual.result c.from_residual.ensures.1 in
    rw (p.1, p.2) (so_err_step _ part c.args.around c.args.buffer.now (located_of c.args.first) c.args.lexer.now b left
    s c.loop-lexer.lexer (not c.is_empty-some.result) c.loop-lexer.invariant some c.in_err-step.ensures)

pub run_between-requires : goal.run_between-requires
run_between-requires c =
    let part = part_of c.args.part in
    let b = c.loop-lexer.buffer in
    let s = located_of c.loop-lexer.item in
    let left = brackets_of c.step.new.open.items in
    let some = some_is b.lexemes.items b.lexemes.len c.is_empty-some.result c.is_empty-some.ensures (search rules) in
    let ended = agreed_ended part c.args.around b left s (not c.is_empty-some.result) c.in_ok-step.field-0 some
    c.in_ok-step.ensures c.if-branch.true in
    so_stands part c.args.around c.args.buffer.now (located_of c.args.first) c.args.lexer.now b c.loop-lexer.item
    c.loop-lexer.lexer c.loop-lexer.invariant ended c.text.result.now c.text.ensures

pub returns-then-branch-clause-read : goal.returns-then-branch-clause-read
returns-then-branch-clause-read c =
    let part = part_of c.args.part in
    let b = c.loop-lexer.buffer in
    let s = located_of c.loop-lexer.item in
    let left = brackets_of c.step.new.open.items in
    let some = some_is b.lexemes.items b.lexemes.len c.is_empty-some.result c.is_empty-some.ensures (search rules) in
    let ended = agreed_ended part c.args.around b left s (not c.is_empty-some.result) c.in_ok-step.field-0 some
    c.in_ok-step.ensures c.if-branch.true in
    so_gathered part c.args.around c.args.buffer.now (located_of c.args.first) c.args.lexer.now b c.loop-lexer.item
    c.loop-lexer.lexer _ (run_of c.run_between.result) c.text.result.now c.loop-lexer.invariant ended refl
    c.text.ensures c.run_between.ensures.run

pub returns-then-branch-clause-text : goal.returns-then-branch-clause-text
returns-then-branch-clause-text c =
    let part = part_of c.args.part in
    let b = c.loop-lexer.buffer in
    let s = located_of c.loop-lexer.item in
    let left = brackets_of c.step.new.open.items in
    let some = some_is b.lexemes.items b.lexemes.len c.is_empty-some.result c.is_empty-some.ensures (search rules) in
    let ended = agreed_ended part c.args.around b left s (not c.is_empty-some.result) c.in_ok-step.field-0 some
    c.in_ok-step.ensures c.if-branch.true in
    let g =
    so_gathered part c.args.around c.args.buffer.now (located_of c.args.first) c.args.lexer.now b c.loop-lexer.item
    c.loop-lexer.lexer b (run_of c.run_between.result) c.text.result.now c.loop-lexer.invariant ended refl
    c.text.ensures c.run_between.ensures.run in
    c.run_between.ensures.text ∙ c.text.ensures ∙ passes_text g.passes

pub returns-then-branch-clause-place : goal.returns-then-branch-clause-place
returns-then-branch-clause-place c =
    let part = part_of c.args.part in
    let b = c.loop-lexer.buffer in
    let s = located_of c.loop-lexer.item in
    let left = brackets_of c.step.new.open.items in
    let some = some_is b.lexemes.items b.lexemes.len c.is_empty-some.result c.is_empty-some.ensures (search rules) in
    let ended = agreed_ended part c.args.around b left s (not c.is_empty-some.result) c.in_ok-step.field-0 some
    c.in_ok-step.ensures c.if-branch.true in
    c.run_between.ensures.place ∙ so_begins part c.args.around c.args.buffer.now (located_of c.args.first)
    c.args.lexer.now b c.loop-lexer.item c.loop-lexer.lexer c.loop-lexer.invariant ended

pub returns-in_err-item-clause-read : goal.returns-in_err-item-clause-read
returns-in_err-item-clause-read c =
    let part = part_of c.args.part in
    let b = c.loop-lexer.buffer in
    let s = located_of c.loop-lexer.item in
    let left = brackets_of c.step.new.open.items in
    let some = some_is b.lexemes.items b.lexemes.len c.is_empty-some.result c.is_empty-some.ensures (search rules) in
    let further = agreed_further part c.args.around b left s (not c.is_empty-some.result) c.in_ok-step.field-0 some
    c.in_ok-step.ensures c.if-branch.false in
    let p = err_from_is_err_and c.from_residual-in_err-item.result c.from_residual-in_err-item.ensures.1 in
    rw (p.1, p.2) (so_err_take _ part c.args.around c.args.buffer.now (located_of c.args.first) c.args.lexer.now b left
    (word_of c.loop-lexer.item.lexeme) s c.loop-lexer.lexer c.loop-lexer.invariant refl further
    c.in_err-item.ensures)

pub loop-lexer-smaller : goal.loop-lexer-smaller
loop-lexer-smaller c = shown_less (word_of c.in_ok-item.item.lexeme) (located_of c.in_ok-item.item) c.loop-lexer.lexer
    c.next_item.new.lexer c.in_ok-item.ensures refl

pub loop-lexer-preserved : goal.loop-lexer-preserved
loop-lexer-preserved c =
    let part = part_of c.args.part in
    let b = c.loop-lexer.buffer in
    let s = located_of c.loop-lexer.item in
    let left = brackets_of c.step.new.open.items in
    let some = some_is b.lexemes.items b.lexemes.len c.is_empty-some.result c.is_empty-some.ensures (search rules) in
    let further = agreed_further part c.args.around b left s (not c.is_empty-some.result) c.in_ok-step.field-0 some
    c.in_ok-step.ensures c.if-branch.false in
    let opened : Buffer = record { lexemes = b.lexemes; «open» = c.step.new.open; from = b.from; to = b.to } in
    let P : ℕ → Type 0 = λ p. IsPushed opened c.loop-lexer.item p c.push.new.self in
    so_next part c.args.around c.args.buffer.now (located_of c.args.first) c.args.lexer.now b opened c.loop-lexer.item
    c.loop-lexer.lexer c.push.new.self (located_of c.in_ok-item.item) c.next_item.new.lexer c.loop-lexer.invariant
    refl refl further (subst P c.place.ensures c.in_ok-push.ensures) c.in_ok-item.ensures
