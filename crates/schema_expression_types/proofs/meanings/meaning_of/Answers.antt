use Rattle.std.proofs.Common.{sym, ◌∙◌}
use Rattle.schema_attribute_references.specs.steps.Taking.{schema_in}
use Rattle.schema_expression_types.proofs.meanings.meaning_of.Goals as goal

pub returns-else-taken : goal.returns-else-taken
returns-else-taken c =
    c.item_meaning.ensures (c.in_default.ensures (schema_in c.args.scope.now.known))
    (λ p m. let e = sym (c.in_ok-taken.ensures.some.1 (p, m)) ∙ c.if-taken.false in absurd (cc))
