use Rattle.schema_attribute_sources.proofs.stored_attributes.searched_inverse.Goals as goal

pub returns-then-is_inverse_at : goal.returns-then-is_inverse_at
returns-then-is_inverse_at c = c.is_inverse_at.ensures c.if-is_inverse_at.true
