use Rattle.std.proofs.Common.{refl, ap, subst, ◌∙◌}
use Rattle.std.proofs.Math.Logic.{∥∥₁_map}
use Rattle.devices.specs.Emits.{Emits}
use Rattle.step_structures.specs.Normal.{plain_text}
use Rattle.step_structures.proofs.NormalReads.{normal_reads_again}
use Rattle.step_exchange.specs.Exchanges.{structure}
use Rattle.step_structures.proofs.Unmerged.{sections_stay}
use Rattle.step_exchange.proofs.write.write_plain.Goals as goal

pub returns-clause-emits : goal.returns-clause-emits
returns-clause-emits g c =
    let x = c.args.exchange.now in
    subst (λ t. Emits (g.S.Sink.held c.args.out.now) (g.S.Sink.held c.write_led.new.out) t c.write_led.result)
    (ap (plain_text x.header_bytes.now) (sections_stay (λ y. y) (λ y. refl) (structure x).sections))
    c.write_led.ensures.emits

pub returns-clause-again : goal.returns-clause-again
returns-clause-again g c = ∥∥₁_map c.args.exchange.now.read (λ r. normal_reads_again r.0
    c.args.exchange.now.header_bytes.now (structure c.args.exchange.now) r.1)
