use Rattle.std.proofs.Common.{Some, option_copied, ap, sym, ◌∙◌}
use Rattle.std.proofs.lemmas.Slice.Eq.{bytes_eq-Decides}
use Rattle.express_syntax.specs.ExpressionViews.{capitals}
use Rattle.population_findings.proofs.Naming.{entity-at}
use Rattle.population_findings.proofs.keywords.is_entity_at.Goals as goal

pub returns-in-Some-Entity : goal.returns-in-Some-Entity
returns-in-Some-Entity c told =
    entity-at c.args.names.now.schema.now c.requires (capitals c.args.name) c.args.number c.in-Some-Entity.entity
    (sym c.at.ensures ∙ ap option_copied c.in-Some-Entity.is ∙ ap Some c.in-Some-Entity.field-0-is)
    ((bytes_eq-Decides (capitals c.in-Some-Entity.entity.name) (capitals c.args.name)).0 (sym c.eq.ensures ∙ told))
