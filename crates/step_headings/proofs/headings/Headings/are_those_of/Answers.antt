use Rattle.step_headings.proofs.Headed.{by_sections}
use Rattle.step_headings.proofs.headings.Headings.are_those_of.Goals as goal

pub returns : goal.returns
returns c =
    by_sections c.args.self.now.sections.items c.deref.result.now c.deref-2.result.now c.args.other.now
    c.are_alike.result c.deref.ensures.value c.deref-2.ensures.value c.are_alike.ensures
