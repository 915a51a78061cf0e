-- The mark after a data type.
use Rattle.express_parts.specs.declared.data_types.Ending as code
use Rattle.express_parts.specs.declared.data_types.Ending.TheVariants as endings
use Rattle.express_syntax.specs.steps.Predict.{Ending, semicolon, assignment}

abbrev pub ending_of : code.Ending → Ending
ending_of endings.Semicolon = semicolon
ending_of endings.Assignment = assignment
