-- The table takes just the schemas.
use Rattle.std.proofs.Common.{ℕ, ◌≤◌}
use Rattle.parsing.specs.Languages.{IsExact}
use Rattle.parsing.proofs.Accepted.{exact_leads}
use Rattle.express_syntax.specs.Grammar.{depth_limit}
use Rattle.express_syntax.specs.steps.Predict.{next, schema_symbols}
use Rattle.express_syntax.specs.steps.Steps.{IsSchema}
use Rattle.express_syntax.proofs.PassingSchemas.{pass_language}
use Rattle.express_syntax.proofs.Complete.{IsAny, complete}
use Rattle.express_syntax.proofs.Sound.{schema_led}

-- the table takes the lookaheads of schemas, and no others
pub exact : (levels : ℕ) → depth_limit ≤ levels → IsExact (next levels) IsAny schema_symbols (IsSchema levels)
exact levels deep = exact_leads (next levels) IsAny schema_symbols (IsSchema levels) (complete levels)
    (tt, (tt, (tt, (tt, (tt, tt))))) (pass_language levels deep) (schema_led levels)
