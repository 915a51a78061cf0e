use Rattle.std.proofs.Common.{subst}
use Rattle.schema_attributes.specs.Derivations.{HoldsDerivation}
use Rattle.schema_expression_analysis.specs.steps.Findings.{aggregate, unclear, bad_typeof, bad_kind, asked}
use Rattle.schema_expression_analysis.proofs.survey.nothing.Goals as goal

pub returns : goal.returns
returns c s aggregate h = absurd (cc)
returns c s unclear h = absurd (cc)
returns c s bad_typeof h = absurd (cc)
returns c s bad_kind h = absurd (cc)
returns c s (asked d) h = absurd (subst (λ js. HoldsDerivation s js d) c.new.ensures.items h)
