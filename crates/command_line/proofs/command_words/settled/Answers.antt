use Rattle.std.proofs.Common.{ap}
use Rattle.command_line.specs.steps.Options.{text_of}
use Rattle.command_line.proofs.command_words.settled.Goals as goal

pub returns-in-Some : goal.returns-in-Some
returns-in-Some c = (c.in-Some.text.now, ap text_of c.in-Some.is, c.usage.ensures)
