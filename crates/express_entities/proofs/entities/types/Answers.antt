use Rattle.std.proofs.Common.{◌≡◌, [], ◌∷◌, sym, ◌∙◌, refl}
use Rattle.std.proofs.lemmas.Result.{err_from_is_err_and}
use Rattle.express_lexer.specs.declared.marks.Mark.TheVariants as marks
use Rattle.express_syntax.specs.Words.{mark}
use Rattle.express_token_runs.specs.steps.Items.{located_of}
use Rattle.express_syntax.specs.Views.{if_some, names_of, supertype_of}
use Rattle.express_syntax.specs.WrittenSchemas.{words_of_subtype}
use Rattle.express_syntax.specs.steps.Predict.{Sub, SuperOf, EndOfText}
use Rattle.express_entities.proofs.EntitySteps.{super_err_unsaid, super_err_second, super_err_bare, super_bare, super_err_open, super_err_expression, super_err_behind, super_err_sub, super_done}
use Rattle.express_syntax.proofs.SameText.{shows_text, passes_text, kept}
use Rattle.express_syntax.specs.Sources.{IsSupertypeOf}
use Rattle.express_entities.proofs.entities.types.Goals as goal

pub returns-in_err-subtype_of-clause-read : goal.returns-in_err-subtype_of-clause-read
returns-in_err-subtype_of-clause-read c =
    let p = err_from_is_err_and c.from_residual.result c.from_residual.ensures.1 in
    rw (p.1, p.2) (super_err_unsaid _ (located_of c.args.first) c.args.reader.now (sym c.is_keyword.ensures
    ∙ c.if-not-is_keyword.true) c.in_err-subtype_of.ensures)

pub returns-in_err-second-clause-read : goal.returns-in_err-second-clause-read
returns-in_err-second-clause-read c =
    let p = err_from_is_err_and c.from_residual-in_err-second.result c.from_residual-in_err-second.ensures.1 in
    rw (p.1, p.2) (super_err_second _ (located_of c.args.first) c.args.reader.now (sym c.is_keyword.ensures
    ∙ c.if-not-is_keyword.false) (c.in_err-second.ensures SuperOf (λ (e : SuperOf ≡ EndOfText). cc)))

pub returns-in_err-subtype_of-2-clause-read : goal.returns-in_err-subtype_of-2-clause-read
returns-in_err-subtype_of-2-clause-read c =
    let p = err_from_is_err_and c.from_residual-in_err-subtype_of-2.result c.from_residual-in_err-subtype_of-2.ensures.1
    in
    rw (p.1, p.2) (super_err_bare _ (located_of c.args.first) (located_of c.in_ok-second.second) c.args.reader.now
    (sym c.is_keyword.ensures ∙ c.if-not-is_keyword.false) c.in_ok-second.ensures (sym c.is_keyword-2.ensures
    ∙ c.if-not-is_keyword-2.true) c.in_err-subtype_of-2.ensures)

pub returns-then-not-is_keyword-2-clause-read : goal.returns-then-not-is_keyword-2-clause-read
returns-then-not-is_keyword-2-clause-read c = (
  refl,
  record { supertype = tt; subtype_of = c.in_ok-subtype_of-2.ensures.0 },
  super_bare (located_of c.args.first) (located_of c.in_ok-second.second) c.args.reader.now (sym c.is_keyword.ensures
      ∙ c.if-not-is_keyword.false) c.in_ok-second.ensures (sym c.is_keyword-2.ensures ∙ c.if-not-is_keyword-2.true)
      c.in_ok-subtype_of-2.ensures.1,
)

pub returns-in_err-expect-clause-read : goal.returns-in_err-expect-clause-read
returns-in_err-expect-clause-read c =
    let p = err_from_is_err_and c.from_residual-in_err-expect.result c.from_residual-in_err-expect.ensures.1 in
    rw (p.1, p.2) (super_err_open _ (located_of c.args.first) (located_of c.in_ok-second.second) c.args.reader.now
    (sym c.is_keyword.ensures ∙ c.if-not-is_keyword.false) c.in_ok-second.ensures (sym c.is_keyword-2.ensures
    ∙ c.if-not-is_keyword-2.false) c.in_err-expect.ensures)

pub returns-in_err-supertype-clause-read : goal.returns-in_err-supertype-clause-read
returns-in_err-supertype-clause-read c =
    let p = err_from_is_err_and c.from_residual-in_err-supertype.result c.from_residual-in_err-supertype.ensures.1 in
    rw (p.1, p.2) (super_err_expression _ (located_of c.args.first) (located_of c.in_ok-second.second) c.args.reader.now
    (sym c.is_keyword.ensures ∙ c.if-not-is_keyword.false) c.in_ok-second.ensures (sym c.is_keyword-2.ensures
    ∙ c.if-not-is_keyword-2.false) c.in_ok-expect.ensures c.in_err-supertype.ensures.read)

pub returns-in_err-behind-clause-read : goal.returns-in_err-behind-clause-read
returns-in_err-behind-clause-read c =
    let p = err_from_is_err_and c.from_residual-in_err-behind.result c.from_residual-in_err-behind.ensures.1 in
    rw (p.1, p.2) (super_err_behind _ (supertype_of c.in_ok-supertype.supertype) (located_of c.args.first)
    (located_of c.in_ok-second.second) c.args.reader.now (sym c.is_keyword.ensures ∙ c.if-not-is_keyword.false)
    c.in_ok-second.ensures (sym c.is_keyword-2.ensures ∙ c.if-not-is_keyword-2.false) c.in_ok-expect.ensures
    (c.in_ok-supertype.ensures.read.1, c.in_ok-supertype.ensures.read.2, c.in_ok-supertype.ensures.read.3)
    (c.in_err-behind.ensures Sub (λ (e : Sub ≡ EndOfText). cc)))

pub returns-in_err-subtype_of-3-clause-read : goal.returns-in_err-subtype_of-3-clause-read
returns-in_err-subtype_of-3-clause-read c =
    let p = err_from_is_err_and c.from_residual-in_err-subtype_of-3.result c.from_residual-in_err-subtype_of-3.ensures.1
    in
    rw (p.1, p.2) (super_err_sub _ (supertype_of c.in_ok-supertype.supertype) (located_of c.args.first)
    (located_of c.in_ok-second.second) (located_of c.in_ok-behind.behind) c.args.reader.now
    (sym c.is_keyword.ensures ∙ c.if-not-is_keyword.false) c.in_ok-second.ensures (sym c.is_keyword-2.ensures
    ∙ c.if-not-is_keyword-2.false) c.in_ok-expect.ensures
    (c.in_ok-supertype.ensures.read.1, c.in_ok-supertype.ensures.read.2, c.in_ok-supertype.ensures.read.3)
    c.in_ok-behind.ensures
    c.in_err-subtype_of-3.ensures)

pub returns-clause-read : goal.returns-clause-read
returns-clause-read c = (
  refl,
  record { supertype = c.in_ok-supertype.ensures.read.0; subtype_of = c.in_ok-subtype_of-3.ensures.0 },
  super_done (words_of_subtype (if_some (λ names. names_of names.items) c.in_ok-subtype_of-3.subtype_of))
      (mark marks.Semicolon ∷ []) (supertype_of c.in_ok-supertype.supertype) (located_of c.args.first)
      (located_of c.in_ok-second.second) (located_of c.in_ok-behind.behind) c.args.reader.now (sym c.is_keyword.ensures
      ∙ c.if-not-is_keyword.false) c.in_ok-second.ensures (sym c.is_keyword-2.ensures ∙ c.if-not-is_keyword-2.false)
      c.in_ok-expect.ensures
      (c.in_ok-supertype.ensures.read.1, c.in_ok-supertype.ensures.read.2, c.in_ok-supertype.ensures.read.3)
      c.in_ok-behind.ensures
      c.in_ok-subtype_of-3.ensures.1,
)

pub returns-clause-text : goal.returns-clause-text
returns-clause-text c = kept IsSupertypeOf c.in_ok-supertype.supertype (passes_text c.in_ok-expect.ensures
    ∙ shows_text _ _ _ c.in_ok-second.ensures) c.in_ok-supertype.ensures.text
