use Rattle.std.proofs.Common.{◌≡◌, map, refl, sym, ◌∙◌}
use Rattle.std.proofs.lemmas.Result.{err_from_is_err_and}
use Rattle.express_syntax.specs.Words.{word_of}
use Rattle.express_token_runs.specs.steps.Items.{located_of}
use Rattle.express_syntax.specs.Views.{declaration_of}
use Rattle.express_syntax.specs.steps.Predict.{Declarations, EndOfText}
use Rattle.express_reader.proofs.SchemaSteps.{declarations_stop, declarations_stop_end, declarations_stop_taken, declarations_done, declarations_next, declarations_at, declaration_less}
use Rattle.express_syntax.proofs.SameText.{shows_text, passes_text, kept}
use Rattle.express_syntax.proofs.Lists.{every_push}
use Rattle.express_syntax.specs.Sources.{IsDeclarationOf}
use Rattle.express_reader.proofs.schema.all_declarations.Goals as goal

pub returns-in_err-first-clause-read : goal.returns-in_err-first-clause-read
returns-in_err-first-clause-read c =
    let p = err_from_is_err_and c.from_residual.result c.from_residual.ensures.1 in
    rw (p.1, p.2) (declarations_stop _ c.args.reader.now c.loop-declarations.reader
    (map declaration_of c.loop-declarations.declarations.items) c.loop-declarations.invariant.0
    (c.in_err-first.ensures Declarations (λ (e : Declarations ≡ EndOfText). cc)))

pub returns-in_err-expect-clause-read : goal.returns-in_err-expect-clause-read
returns-in_err-expect-clause-read c =
    let p = err_from_is_err_and c.from_residual-in_err-expect.result c.from_residual-in_err-expect.ensures.1 in
    rw (p.1, p.2) (declarations_stop_end _ c.args.reader.now c.loop-declarations.reader c.take.new.self
    (map declaration_of c.loop-declarations.declarations.items) (located_of c.in_ok-first.first)
    c.loop-declarations.invariant.0 c.in_ok-first.ensures
    (sym c.is_keyword.ensures ∙ c.if-is_keyword.true) c.in_err-expect.ensures)

pub returns-then-is_keyword-clause-read : goal.returns-then-is_keyword-clause-read
returns-then-is_keyword-clause-read c =
    rw c.shrink_to_fit.ensures.items (declarations_done c.args.reader.now c.loop-declarations.reader c.take.new.self
    c.expect.new.self (map declaration_of c.loop-declarations.declarations.items) (located_of c.in_ok-first.first)
    c.loop-declarations.invariant.0 c.in_ok-first.ensures (sym c.is_keyword.ensures ∙ c.if-is_keyword.true)
    c.in_ok-expect.ensures)

pub returns-in_err-next-clause-read : goal.returns-in_err-next-clause-read
returns-in_err-next-clause-read c =
    let p = err_from_is_err_and c.from_residual-in_err-next.result c.from_residual-in_err-next.ensures.1 in
    rw (p.1, p.2) (declarations_stop_taken _ c.args.reader.now c.loop-declarations.reader c.take.new.self
    (map declaration_of c.loop-declarations.declarations.items) (located_of c.in_ok-first.first)
    c.loop-declarations.invariant.0 c.in_ok-first.ensures c.in_err-next.ensures.read)

pub loop-declarations-smaller : goal.loop-declarations-smaller
loop-declarations-smaller c =
    declaration_less c.loop-declarations.reader c.take.new.self c.declaration.new.reader c.in_ok-first.first.lexeme
    c.in_ok-first.first.place c.in_ok-first.ensures c.in_ok-next.ensures.read.1

pub loop-declarations-preserved : goal.loop-declarations-preserved
loop-declarations-preserved c =
    let e = shows_text _ _ _ c.in_ok-first.ensures ∙ passes_text c.loop-declarations.invariant.0.passes in (
      declarations_next c.args.reader.now c.loop-declarations.reader c.take.new.self c.declaration.new.reader
          c.loop-declarations.declarations.items c.push.new.self.items c.in_ok-next.next
          (located_of c.in_ok-first.first)
          c.loop-declarations.invariant.0 c.in_ok-first.ensures c.in_ok-push.ensures.items c.in_ok-next.ensures.read.0
          c.in_ok-next.ensures.read.1,
      rw c.in_ok-push.ensures.items (every_push (IsDeclarationOf c.args.reader.now.text)
          c.loop-declarations.declarations.items c.in_ok-next.next c.loop-declarations.invariant.1
          (kept IsDeclarationOf c.in_ok-next.next e c.in_ok-next.ensures.text)),
      declarations_at c.args.reader.now c.loop-declarations.reader c.take.new.self c.declaration.new.reader
          c.loop-declarations.declarations.items c.push.new.self.items c.in_ok-next.next
          (located_of c.in_ok-first.first) (word_of c.in_ok-first.first.lexeme) refl
          (passes_text c.loop-declarations.invariant.0.passes) c.loop-declarations.invariant.2 c.in_ok-first.ensures
          c.in_ok-push.ensures.items c.in_ok-next.ensures.place c.in_ok-next.ensures.read.1,
    )

pub returns-then-is_keyword-clause-text : goal.returns-then-is_keyword-clause-text
returns-then-is_keyword-clause-text c = rw c.shrink_to_fit.ensures.items c.loop-declarations.invariant.1

pub returns-then-is_keyword-clause-place : goal.returns-then-is_keyword-clause-place
returns-then-is_keyword-clause-place c =
    (c.loop-declarations.reader.place, rw c.shrink_to_fit.ensures.items c.loop-declarations.invariant.2)
