use Rattle.std.proofs.Common.{subst}
use Rattle.value_equality.specs.Maps as maps
use Rattle.row_signatures.specs.steps.Signatures.{AreSignatures}
use Rattle.merge_tables.proofs.tables.standard_tables.Goals as goal

pub tables_by-requires-clause-signatures : goal.tables_by-requires-clause-signatures
tables_by-requires-clause-signatures c =
    subst (λ names. AreSignatures c.args.rows (maps.is_pinned names) c.in_ok-signatures.signatures) c.names.ensures
    c.in_ok-signatures.ensures

pub returns : goal.returns
returns c s is are unique = c.tables_by.ensures s is are unique
