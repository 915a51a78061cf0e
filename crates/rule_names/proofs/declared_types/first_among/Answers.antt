use Rattle.std.proofs.Common.{◌∙◌, Some, None}
use Rattle.rule_names.proofs.Indexed.{first-told, got}
use Rattle.rule_names.proofs.declared_types.first_among.Goals as goal

pub returns-in-Some : goal.returns-in-Some
returns-in-Some c =
    c.copied.ensures ∙ got c.args.uses.now c.in-Some.number c.get.result c.get.ensures.lookup
    ∙ first-told c.args.uses.now c.args.index.now c.args.place (Some c.in-Some.number) c.requires c.in-Some.ensures

pub returns-in-None : goal.returns-in-None
returns-in-None c = first-told c.args.uses.now c.args.index.now c.args.place None c.requires c.in-None.ensures
