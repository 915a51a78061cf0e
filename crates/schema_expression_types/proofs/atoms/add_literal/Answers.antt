use Rattle.schema_expression_types.proofs.atoms.add_literal.Goals as goal

pub returns-in-Number : goal.returns-in-Number
returns-in-Number c s = rw c.in-Number.is (c.add_sort.ensures s)

pub returns-in-String : goal.returns-in-String
returns-in-String c s = rw c.in-String.is (c.add_sort-in-String.ensures s)

pub returns-in-Encoded : goal.returns-in-Encoded
returns-in-Encoded c s = rw c.in-Encoded.is (c.add_sort-in-Encoded.ensures s)

pub returns-in-Binary : goal.returns-in-Binary
returns-in-Binary c s = rw c.in-Binary.is (c.add_sort-in-Binary.ensures s)

pub returns-in-Logical : goal.returns-in-Logical
returns-in-Logical c s = rw c.in-Logical.is (c.add_sort-in-Logical.ensures s)
