use Rattle.express_syntax.proofs.Capitals.{keywords_are_spelt}
use Rattle.express_syntax.proofs.expression_laws.a_found_keyword_is_spelt_so.Goals as goal

pub returns : goal.returns
returns c = keywords_are_spelt
