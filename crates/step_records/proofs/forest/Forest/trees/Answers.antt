use Rattle.std.proofs.Common.{refl}
use Rattle.step_records.proofs.forest.Forest.trees.Goals as goal

pub returns : goal.returns
returns c = rw (c.of.ensures, c.deref.ensures.value, c.deref-2.ensures.value, ← c.self.view_is) refl
