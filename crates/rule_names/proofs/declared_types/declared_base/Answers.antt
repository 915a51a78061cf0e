use Rattle.std.proofs.Common.{sym, subst, ap}
use Rattle.express_syntax.specs.Schemas.{Schema}
use Rattle.schema_names.specs.Schemas.{the_schema}
use Rattle.schema_types.specs.steps.Graphs.{place_of}
use Rattle.rule_names.proofs.First.{Says, has-owner, not-declared, declared-first}
use Rattle.rule_names.proofs.declared_types.declared_base.Goals as goal

pub returns-in_default : goal.returns-in_default
returns-in_default c =
    absurd (has-owner (the_schema c.args.types.now.names) c.requires.made.resolved (place_of c.args.place)
    c.args.number c.requires.place (sym c.in_default.ensures))

pub returns-in-Some-first_use : goal.returns-in-Some-first_use
returns-in-Some-first_use c =
    declared-first (the_schema c.args.types.now.names) c.requires.made.resolved (place_of c.args.place)
    c.args.number c.requires.place c.args.tables.now.uses c.requires.tables.uses c.in-Some.entity
    (sym c.in-Some.ensures) c.in-Some-first_use.first c.of_number.result
    (sym c.in-Some-first_use.ensures)
    (subst (λ (t : Schema). Says t c.in-Some-first_use.first.data_type c.of_number.result)
    (ap the_schema c.bases.ensures.same) (c.of_number.ensures.says, c.of_number.ensures.numbered))

pub returns-in-None : goal.returns-in-None
returns-in-None c =
    not-declared (the_schema c.args.types.now.names) c.requires.made.resolved (place_of c.args.place)
    c.args.number c.requires.place c.args.tables.now.uses c.requires.tables.uses c.in-Some.entity
    (sym c.in-Some.ensures) (sym c.in-None.ensures)
