use Rattle.std.proofs.Common.{◌∙◌, ap}
use Rattle.value_equality.specs.Tables.{class_at}
use Rattle.merge_classes.proofs.classes.Classes.class_of.Goals as goal

pub returns : goal.returns
returns c = c.class_at.ensures ∙ ap (λ t. class_at t c.args.name t.rounds) c.self.view_is
