use Rattle.std.proofs.Common.{◌<◌, sym, subst}
use Rattle.express_syntax.specs.Views.{declaration_of}
use Rattle.schema_names.specs.Schemas.{the_schema}
use Rattle.rule_values.proofs.Naming.{there, mapped-length, added}
use Rattle.rule_values.proofs.types.add_name.Goals as goal

pub returns : goal.returns
returns c n =
    let s = the_schema c.args.bases.now.names.now in
    let (d, at) = there s.declarations c.args.number
    (subst (λ m. c.args.number < m)
    (sym (mapped-length declaration_of c.args.bases.now.names.now.schema.now.declarations.items)) c.requires) in
    added s.declarations c.args.number d c.in-Some.name c.args.number c.args.numbers.now.entries
    c.insert.new.self.entries n at (c.in-Some.ensures d at) c.in_ok-insert.ensures.entries
