use Rattle.merge_choices.proofs.Copies.{same-bytes, if-ok}
use Rattle.merge_choices.proofs.choice.Choice.copy_other_names.Goals as goal

pub returns : goal.returns
returns c =
    if-ok _ _ _ c.clone.result (λ names h. same-bytes c.args.self.now.other_names.items names.items h.0) c.clone.ensures.cases
