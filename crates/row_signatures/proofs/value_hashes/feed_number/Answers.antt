use Rattle.std.proofs.Common.{refl, ap, ◌∙◌}
use Rattle.std.specs.List.{fold}
use Rattle.step_literals.specs.DecimalKeys.{key_writes}
use Rattle.row_signatures.proofs.value_hashes.feed_number.Goals as goal

pub returns-clause-fed : goal.returns-clause-fed
returns-clause-fed g c = (
  c.args.number.now,
  refl,
  c.hash.ensures ∙ ap (λ s. fold g.H.Hasher.write s (key_writes c.args.number.now)) c.write_u8.ensures,
)
