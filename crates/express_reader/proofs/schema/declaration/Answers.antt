use Rattle.std.proofs.Common.{[], ◌∷◌, refl, sym, ◌∙◌}
use Rattle.express_lexer.specs.declared.marks.Mark.TheVariants as marks
use Rattle.express_syntax.specs.declared.keyword.Keyword.TheVariants as keywords
use Rattle.express_token_runs.specs.steps.Items.{located_of}
use Rattle.express_syntax.specs.Views.{type_of, entity_of}
use Rattle.express_syntax.specs.WrittenSchemas.{words_of_type, words_of_entity}
use Rattle.express_syntax.specs.steps.Predict.{Id, Just, Underlying, TypeEnd, Head, Body, explicits}
use Rattle.express_reader.proofs.SchemaSteps.{declared}
use Rattle.express_reader.proofs.schema.declaration.Goals as goal

pub returns-then-is_keyword-clause-read : goal.returns-then-is_keyword-clause-read
returns-then-is_keyword-clause-read c = (
  c.in_ok-declared.ensures.read.0,
  declared keywords.Type (Id ∷ Just marks.Equal ∷ Underlying ∷ TypeEnd ∷ [])
      (words_of_type (type_of c.in_ok-declared.declared)) (located_of c.args.first) (sym c.is_keyword.ensures
      ∙ c.if-is_keyword.true) refl c.in_ok-declared.ensures.read.2 c.in_ok-declared.ensures.read.3,
)

pub returns-then-is_keyword-2-clause-read : goal.returns-then-is_keyword-2-clause-read
returns-then-is_keyword-2-clause-read c = (
  c.in_ok-declared-2.ensures.read.0,
  declared keywords.Entity (Id ∷ Head ∷ Body explicits ∷ []) (words_of_entity (entity_of c.in_ok-declared-2.declared))
      (located_of c.args.first) (sym c.is_keyword-2.ensures ∙ c.if-is_keyword-2.true) refl
      c.in_ok-declared-2.ensures.read.2
      c.in_ok-declared-2.ensures.read.3,
)
