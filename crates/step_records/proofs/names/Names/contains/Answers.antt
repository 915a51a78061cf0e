use Rattle.std.proofs.Common.{sym, ap, ◌∙◌}
use Rattle.step_structures.specs.Fits.{has_name}
use Rattle.step_records.proofs.Naming.{beyond, has_key, first_all}
use Rattle.step_records.proofs.names.Names.contains.Goals as goal

pub returns-then-name-self-clause-found : goal.returns-then-name-self-clause-found
returns-then-name-self-clause-found c =
    let v = c.self.inside in
    sym (ap (has_name c.args.name) (sym c.self.view_is)
    ∙ beyond c.args.name v.greatest v.list.items c.self.invariant.bound c.if-name-self.true)

pub returns-clause-found : goal.returns-clause-found
returns-clause-found c =
    let v = c.self.inside in
    let names = c.deref.result.now in
    c.contains.ensures ∙ sym (has_key c.args.name c.look_up.new.set.keys)
    ∙ first_all c.look_up.new.set.keys c.look_up.new.looked_up names c.in_ok-look_up.ensures.first
    c.in_ok-look_up.ensures.all c.args.name ∙ ap (has_name c.args.name) (c.deref.ensures.value ∙ c.self.view_is)
