use Rattle.std.proofs.Common.{[], ◌∷◌, ap, ◌∙◌, refl}
use Rattle.express_syntax.specs.declared.keyword.Keyword.TheVariants as keywords
use Rattle.express_syntax.specs.Words.{keyword}
use Rattle.express_token_runs.specs.steps.Items.{located_of}
use Rattle.express_syntax.specs.Texts.{token}
use Rattle.express_syntax.specs.Views.{data_type_of}
use Rattle.express_parts.specs.steps.Endings.{ending_of}
use Rattle.express_syntax.specs.steps.Predict.{WidthOr}
use Rattle.express_parts.proofs.DataTypeSteps.{data_type_behind_or}
use Rattle.express_parts.proofs.DataTypeSources.{integer_of, number_of, boolean_of, logical_of, string_of, binary_of}
use Rattle.express_parts.proofs.data_types.simple.Goals as goal

pub returns-in-Real-clause-read : goal.returns-in-Real-clause-read
returns-in-Real-clause-read c =
    data_type_behind_or data_type_of (keyword keywords.Real) (WidthOr c.args.depth (ending_of c.args.end) ∷ [])
    c.args.depth (ending_of c.args.end) (located_of c.args.first) c.real.result c.args.reader.now c.real.new.reader
    (c.requires.first ∙ ap (λ k. token (keyword k)) c.in-Real.is) refl c.real.ensures.read

pub returns-in-Integer-clause-text : goal.returns-in-Integer-clause-text
returns-in-Integer-clause-text c = c.ended.ensures.text _ (integer_of _)

pub returns-in-Number-clause-text : goal.returns-in-Number-clause-text
returns-in-Number-clause-text c = c.ended-in-Number.ensures.text _ (number_of _)

pub returns-in-Boolean-clause-text : goal.returns-in-Boolean-clause-text
returns-in-Boolean-clause-text c = c.ended-in-Boolean.ensures.text _ (boolean_of _)

pub returns-in-Logical-clause-text : goal.returns-in-Logical-clause-text
returns-in-Logical-clause-text c = c.ended-in-Logical.ensures.text _ (logical_of _)

pub returns-in_ok-width-in-String-clause-text : goal.returns-in_ok-width-in-String-clause-text
returns-in_ok-width-in-String-clause-text c = string_of _ _ c.in_ok-width-in-String.ensures.text

pub returns-in_ok-width-in-Binary-clause-text : goal.returns-in_ok-width-in-Binary-clause-text
returns-in_ok-width-in-Binary-clause-text c = binary_of _ _ c.in_ok-width-in-Binary.ensures.text
