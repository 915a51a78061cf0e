use Rattle.verifying.proofs.Oneness.{answers_are_one}
use Rattle.verifying.proofs.laws.answers_are_one.Goals as goal

pub returns : goal.returns
returns c = answers_are_one c.conforms_where_nothing_is_found.ensures
