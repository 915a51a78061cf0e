use Rattle.shrinking.proofs.Oneness.{answers_are_one}
use Rattle.shrinking.proofs.laws.answers_are_one.Goals as goal

pub returns : goal.returns
returns c =
    answers_are_one c.reports_are_one.ensures c.the_standard_table_is_unique.ensures
    c.conforms_where_nothing_is_found.ensures
