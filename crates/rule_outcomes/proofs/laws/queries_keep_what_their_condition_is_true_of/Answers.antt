use Rattle.rule_outcomes.proofs.Worded.{queries_keep_what_their_condition_is_true_of}
use Rattle.rule_outcomes.proofs.laws.queries_keep_what_their_condition_is_true_of.Goals as goal

pub returns : goal.returns
returns c = queries_keep_what_their_condition_is_true_of
