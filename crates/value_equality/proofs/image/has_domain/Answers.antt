use Rattle.std.proofs.Common.{sym, ◌∙◌}
use Rattle.value_equality.proofs.Landing.{domain_where, no_domain_where}
use Rattle.value_equality.proofs.image.has_domain.Goals as goal

pub returns-then-keys_are_names : goal.returns-then-keys_are_names
returns-then-keys_are_names c =
    domain_where c.args.p.now c.args.map.now c.keys_are_names.ensures.keys (sym c.keys_are_names.ensures.all
    ∙ c.if-keys_are_names.true) c.names_are_keys.result c.names_are_keys.ensures

pub returns-else-keys_are_names : goal.returns-else-keys_are_names
returns-else-keys_are_names c =
    no_domain_where c.args.p.now c.args.map.now c.keys_are_names.ensures.keys (sym c.keys_are_names.ensures.all
    ∙ c.if-keys_are_names.false)
