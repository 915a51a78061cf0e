use Rattle.std.proofs.Common.{sym, ap, ◌∙◌, [], take, drop, subst}
use Rattle.std.proofs.lemmas.List.{take-map, drop-map}
use Rattle.parsing.specs.Nodes.{said_at}
use Rattle.step_records.specs.steps.Building.{Builds, kept_by}
use Rattle.step_records.specs.Cells.{parameters}
use Rattle.step_records.proofs.Built.{kept_cut}
use Rattle.step_records.proofs.param.Params.split.Goals as goal

pub of-requires : goal.of-requires
of-requires c =
    let p = c.self.inside in
    subst (λ l. Builds p.text.now p.column.now l []) (sym c.cut.ensures.front)
    (kept_cut p.text.now c.args.count p.column.now p.cells.now c.self.invariant).0

pub of-requires-2 : goal.of-requires-2
of-requires-2 c =
    let p = c.self.inside in
    subst (λ l. Builds p.text.now p.column.now l []) (sym c.cut.ensures.back)
    (kept_cut p.text.now c.args.count p.column.now p.cells.now c.self.invariant).1

pub returns-clause-front : goal.returns-clause-front
returns-clause-front c =
    let p = c.self.inside in
    c.of.ensures ∙ ap (kept_by p.text.now p.column.now) c.cut.ensures.front
    ∙ sym (take-map ((parameters p.text.now).says (said_at (parameters p.text.now) p.column.now)) c.args.count
    p.cells.now) ∙ ap (take c.args.count) c.self.view_is

pub returns-clause-back : goal.returns-clause-back
returns-clause-back c =
    let p = c.self.inside in
    c.of-2.ensures ∙ ap (kept_by p.text.now p.column.now) c.cut.ensures.back
    ∙ sym (drop-map ((parameters p.text.now).says (said_at (parameters p.text.now) p.column.now)) c.args.count
    p.cells.now) ∙ ap (drop c.args.count) c.self.view_is
