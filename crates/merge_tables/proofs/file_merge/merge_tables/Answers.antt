use Rattle.std.proofs.lemmas.Result.{IfOk-weaker}
use Rattle.merge_tables.proofs.file_merge.merge_tables.Goals as goal

pub returns-clause-merges : goal.returns-clause-merges
returns-clause-merges c names are =
    IfOk-weaker c.merged_by_tables.result _ _ (λ m h. h.0 names are) c.merged_by_tables.ensures

pub returns-clause-members : goal.returns-clause-members
returns-clause-members c = IfOk-weaker c.merged_by_tables.result _ _ (λ m h. h.1) c.merged_by_tables.ensures
